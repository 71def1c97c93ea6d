-- Words for what the theorems say of an explanation: what it is to name the first part that differs, and to explain a
-- string.
use Rattle.std.specs.Prelude.{◌≡◌, List, ℕ, ◌<◌, ◌≤◌, drop}
use Rattle.words.specs.Word.{Bytes}
use Rattle.records.specs.Layout.{Layout}
use Rattle.records.specs.Report.{report, WRONG_STEP}
use Rattle.explain.specs.declared.Explanation.{Explanation}
use Rattle.explain.specs.Explain.{NUMBER_PART, parts, word_found, word_due, block_before, explanation}

module _ (L : Layout) where
  -- the words found in the Step at the place of an explanation, and those due there
  abbrev pub found_at : List ℕ → Explanation → ℕ → ℕ
  found_at s x = word_found L (drop x.place s)

  abbrev pub due_at : List ℕ → Explanation → ℕ → ℕ
  due_at s x = word_due L (block_before L x.steps s) (drop x.place s)

  -- the part is one of the Step's, found and due are its words and differ, and all words before it agree
  pub record Differs (s : List ℕ) (x : Explanation) : Type 0 where
    pub from : NUMBER_PART ≤ x.part
    pub to : x.part ≤ parts L
    pub found : x.found ≡ found_at s x x.part
    pub due : x.due ≡ due_at s x x.part
    pub differ : x.found ≡ x.due → ⊥
    pub before : (part : ℕ) → NUMBER_PART ≤ part → part < x.part → found_at s x part ≡ due_at s x part

  -- part, found and due are 0
  pub record Nothing (x : Explanation) : Type 0 where
    pub part : x.part ≡ 0
    pub found : x.found ≡ 0
    pub due : x.due ≡ 0

  -- the report is the checker's, a wrong Step is explained by its first difference, and nothing else is explained
  pub record Explains (s : List ℕ) (x : Explanation) : Type 0 where
    pub number : x.number ≡ (report L s).number
    pub place : x.place ≡ (report L s).place
    pub steps : x.steps ≡ (report L s).steps
    pub wrong : x.number ≡ WRONG_STEP → Differs s x
    pub other : (x.number ≡ WRONG_STEP → ⊥) → Nothing x

  -- what the contract asks of a function from byte strings to explanations
  abbrev pub Meets : (List ℕ → Explanation) → Type 0
  Meets f = (s : List ℕ) → Bytes s → f s ≡ explanation L s
