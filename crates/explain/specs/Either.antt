-- What is wrong with a trace of either layout (document 02, No. 11).
use Rattle.std.specs.Prelude.{◌≡◌, List, ℕ, ◌-◌, take, drop}
use Rattle.words.specs.Word.{Bytes}
use Rattle.records.specs.Layout.{layout_of}
use Rattle.records.specs.Either.{report_of}
use Rattle.records.specs.Report.{WRONG_STEP}
use Rattle.explain.specs.declared.Explanation.{Explanation}
use Rattle.explain.specs.Explain.{block_before, explanation}
use Rattle.explain.specs.Claims.{Explains}

-- the explanation goes by the kind of the Start
abbrev pub explanation_of : List ℕ → Explanation
explanation_of s = explanation (layout_of s) s

-- what the contract asks of a function from byte strings to explanations
abbrev pub MeetsBoth : (List ℕ → Explanation) → Type 0
MeetsBoth f = (s : List ℕ) → Bytes s → f s ≡ explanation_of s

pub record OfBoth : Type 0 where
  -- number, place and Steps are those that the checker reports; a wrong Step is explained by its first difference, in the layout of
  -- the Start, and nothing else is
  pub explains : (s : List ℕ) → Bytes s → Explains (layout_of s) s (explanation_of s)
  -- only one explanation is so
  pub explains_once : (s : List ℕ) (x y : Explanation) → Explains (layout_of s) s x → Explains (layout_of s) s y → x ≡ y
  -- the block before stands right before the Step
  pub block_right_before : (s : List ℕ) → Bytes s → (report_of s).number ≡ WRONG_STEP
      → take (layout_of s).size (drop ((report_of s).place - (layout_of s).size) s) ≡ block_before (layout_of s) (report_of s).steps s
  -- two functions that meet the statement agree
  pub meets_once : (f g : List ℕ → Explanation) → MeetsBoth f → MeetsBoth g → (s : List ℕ) → Bytes s → f s ≡ g s
