-- The theorems of any lawful layout of whole words, and those of either layout, by the layout of a string.
use mathlib.Core.Path.{◌≡◌, refl, sym, ◌∙◌}
use mathlib.Core.Bool.{Bool, true, false}
use Prim.Native.Nat.{◌*◌, ◌/◌}
use Rattle.records.specs.Layout.{Layout, Lawful, layout, is_old}
use Rattle.records.specs.Report.{report}
use Rattle.records.proofs.Lawfuls.{lawful}
use Rattle.explain.specs.Theorems.{Theorems}
use Rattle.explain.specs.Either.{OfBoth}
use Rattle.explain.proofs.Before.{wrong_at, before_last}
use Rattle.explain.proofs.Explains as any

pub theorems : (L : Layout) → Lawful L → 4 * (L.size / 4) ≡ L.size → Theorems L
theorems L l words =
    record {
      explains = any.explains L l words;
      explains_once = any.explains_once L l words;
      block_right_before = λ s by wrong. before_last L l s (report L s) (wrong_at L l s by wrong);
      meets_once = λ f g p q s by. p s by ∙ sym (q s by);
    }

-- the blocks of both layouts are whole words
whole_words : (old : Bool) → 4 * ((layout old).size / 4) ≡ (layout old).size
whole_words true = refl
whole_words false = refl

pub theorems_of : (old : Bool) → Theorems (layout old)
theorems_of old = theorems (layout old) (lawful old) (whole_words old)

pub both : OfBoth
both =
    record {
      explains = λ s. (theorems_of (is_old s)).explains s;
      explains_once = λ s. (theorems_of (is_old s)).explains_once s;
      block_right_before = λ s. (theorems_of (is_old s)).block_right_before s;
      meets_once = λ f g p q s by. p s by ∙ sym (q s by);
    }
