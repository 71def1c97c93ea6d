-- An interrupt goes to a mode with a saved state of its own, at an offset of the vector table: once over its kind.
use mathlib.Core.Path.{refl}
use mathlib.Core.Bool.{not, ◌&&◌, ◌||◌}
use Prim.Native.Nat.{ℕ}
use lib.Dec.{lit<}
use Rattle.state.specs.Choice.{◌is◌}
use Rattle.state.specs.Field.{mode_field, HCR_TGE}
use Rattle.state.specs.Mode.{MONITOR, HYP, is_target}
use Rattle.state.specs.State.{secure}
use Rattle.entry.proofs.Targets.{chosen, IsTarget, listed, IsOffset, offset_to_small}
use Rattle.interrupts.specs.Check.{goes, offset_of}
use Rattle.interrupts.specs.Kind.{Kind, serror, fiq, irq, R, M, own_mode, own_offset}

pub own_target : (k : Kind) → IsTarget (own_mode k)
unfolding is_target
own_target serror = refl
own_target fiq = refl
own_target irq = refl

pub goes_target : (k : Kind) (cpsr scr hcr : ℕ) → IsTarget (goes k cpsr scr hcr)
goes_target k cpsr scr hcr =
    chosen IsTarget (R k scr) (listed MONITOR refl)
    (chosen IsTarget (mode_field cpsr is HYP || (not (secure cpsr scr) && (HCR_TGE hcr || M k hcr))) (listed HYP refl)
    (own_target k))

pub own_small : (k : Kind) → IsOffset (own_offset k)
own_small serror = lit< tt
own_small fiq = lit< tt
own_small irq = lit< tt

pub offset_small : (k : Kind) (to from : ℕ) → IsOffset (offset_of k to from)
offset_small serror to from = offset_to_small to from (own_offset serror) (lit< tt)
offset_small fiq to from = lit< tt
offset_small irq to from = lit< tt
