-- The set of unallocated cells says whether there is a register, that of the mode's own whether it is one of them, and past the 64
-- cells there is none.
use Rattle.std.specs.Prelude.{if◌then◌else◌}
use mathlib.Core.Path.{◌≡◌, refl, sym, ◌∙◌}
use mathlib.Core.Bool.{Bool, true, false, not, ◌&&◌}
use Prim.Native.Nat.{ℕ, ◌%◌, ◌<◌, ◌≤◌}
use borrow.Author.Tests.{eq-eqb, ne_eqb}
use Rattle.banked.proofs.Cells.{cell_out}
use Rattle.banked.proofs.Rights.{unallocated_says, own_says}
use Rattle.banked.specs.Cell.{CELL_VALUES, cell}
use Rattle.banked.specs.Parts.{unallocated, own_to}
use Rattle.banked.specs.Right.{own, reason}
use Rattle.state.specs.Choice.{◌is◌}
use Rattle.state.specs.Field.{mode_field}
use Rattle.state.specs.Mode.{USER}
use Rattle.state.specs.Number.{NO_REGISTER, NO_RIGHT, OWN_REGISTER}
use Rattle.state.specs.Place.{NO_PLACE}
use Rattle.state.proofs.Sets.{in_set}
use Rattle.banked.proofs.right.denial_of.Goals as goal

-- the reason by one test of two parts
by_own : (user mine : Bool)
    → (if not user && mine then OWN_REGISTER else NO_RIGHT)
    ≡ (if user then NO_RIGHT else if mine then OWN_REGISTER else NO_RIGHT)
by_own true mine = refl
by_own false mine = refl

-- the number by both tests
why : (a m : ℕ) {none mine : Bool} → (cell a is NO_PLACE) ≡ none → (not (m is USER) && own (cell a) m) ≡ mine
    → (if none then NO_REGISTER else (if mine then OWN_REGISTER else NO_RIGHT))
    ≡ (if cell a is NO_PLACE then NO_REGISTER else reason (cell a) m)
unfolding reason
why a m h k = rw (h, ← k, by_own (m is USER) (own (cell a) m))

no_register : (a m : ℕ) → (cell a is NO_PLACE) ≡ true → NO_REGISTER ≡ (if cell a is NO_PLACE then NO_REGISTER else reason (cell a) m)
no_register a m h = rw h

pub returns-then-a-eq1 : goal.returns-then-a-eq1
returns-then-a-eq1 c = no_register _ _ (sym (unallocated_says _ c.if-a-lt64.true) ∙ eq-eqb _ _ c.if-a-eq1.true)

-- the cell names a register, and of the look at the mode's own by what it tells
own_or_not : (a cpsr : ℕ) {set : ℕ} {t : Bool} → a < CELL_VALUES → 16 ≤ mode_field cpsr → set ≡ own_to (cpsr % 16)
    → in_set unallocated a ≡ false → in_set set a ≡ t
    → (if t then OWN_REGISTER else NO_RIGHT) ≡ (if cell a is NO_PLACE then NO_REGISTER else reason (cell a) (mode_field cpsr))
own_or_not a cpsr l m e none h =
    why a (mode_field cpsr) (sym (unallocated_says a l) ∙ none) (sym (own_says a cpsr l m e) ∙ h)

pub returns-then-own_to-a-eq1 : goal.returns-then-own_to-a-eq1
returns-then-own_to-a-eq1 c =
    own_or_not _ _ c.if-a-lt64.true c.requires c.own_to.ensures (ne_eqb _ _ c.if-a-eq1.false) (eq-eqb _ _ c.if-own_to-a-eq1.true)

pub returns-then-a-lt64 : goal.returns-then-a-lt64
returns-then-a-lt64 c =
    own_or_not _ _ c.if-a-lt64.true c.requires c.own_to.ensures (ne_eqb _ _ c.if-a-eq1.false) (ne_eqb _ _ c.if-own_to-a-eq1.false)

pub returns : goal.returns
returns c = no_register _ _ (eq-eqb _ _ (cell_out _ c.if-a-lt64.false))
