-- What is proved of the explanations of a layout, whichever lawful one of whole words it is. Both are; see Either.antt.
use Rattle.std.specs.Prelude.{◌≡◌, List, ℕ, ◌-◌, take, drop}
use Rattle.words.specs.Word.{Bytes}
use Rattle.records.specs.Layout.{Layout}
use Rattle.records.specs.Report.{report, WRONG_STEP}
use Rattle.explain.specs.declared.Explanation.{Explanation}
use Rattle.explain.specs.Explain.{block_before, explanation}
use Rattle.explain.specs.Claims.{Explains, Meets}

pub record Theorems (L : Layout) : Type 0 where
  -- number, place and Steps are the report's; a wrong Step is explained by its first difference, and nothing else is
  pub explains : (s : List ℕ) → Bytes s → Explains L s (explanation L s)
  -- only one explanation is so
  pub explains_once : (s : List ℕ) (x y : Explanation) → Explains L s x → Explains L s y → x ≡ y
  -- the block before stands right before the Step
  pub block_right_before : (s : List ℕ) → Bytes s → (report L s).number ≡ WRONG_STEP
      → take L.size (drop ((report L s).place - L.size) s) ≡ block_before L (report L s).steps s
  -- two functions that meet the statement agree
  pub meets_once : (f g : List ℕ → Explanation) → Meets L f → Meets L g → (s : List ℕ) → Bytes s → f s ≡ g s
