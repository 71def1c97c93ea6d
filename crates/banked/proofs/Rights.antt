-- The sets of cells that a mode cannot reach, and of its own among them, are the paper's lists, and the set of unallocated cells is
-- the table's: tests over every cell, every mode of 16 to 31 and both states.
use mathlib.Core.Path.{◌≡◌, refl}
use mathlib.Core.Bool.{Bool, true, not, ◌&&◌, ◌||◌}
use Prim.Native.Nat.{ℕ, ◌+◌, ◌%◌, ◌<◌, ◌≤◌}
use native.Mathlib.Omega.{arith}
use Rattle.state.specs.Choice.{◌is◌}
use Rattle.state.specs.Field.{mode_field, SCR_NS}
use Rattle.state.specs.Mode.{USER, MONITOR}
use Rattle.state.specs.Place.{NO_PLACE}
use Rattle.state.specs.State.{secure}
use Rattle.state.proofs.Sets.{in_set}
use Rattle.state.proofs.Test.{same, same_eq, every_below, at_below, every_bit, at_bit}
use Rattle.banked.specs.Cell.{CELL_VALUES, cell}
use Rattle.banked.specs.Parts.{unallocated, denied_to, denied_cells, own_to}
use Rattle.banked.specs.Right.{denied, own}

pub unallocated_says : (a : ℕ) → a < CELL_VALUES → in_set unallocated a ≡ (cell a is NO_PLACE)
unfolding cell
unallocated_says a l =
    let says : ℕ → Bool = λ a. same (in_set unallocated a) (cell a is NO_PLACE) in
    same_eq (in_set unallocated a) (cell a is NO_PLACE) (at_below CELL_VALUES says refl a l)

-- the mode of these lower four bits, in a state, has no register of A that it may reach
abbrev barred : ℕ → Bool → ℕ → Bool
barred m ns a = cell a is NO_PLACE || denied (cell a) (16 + m) (not ns || (16 + m) is MONITOR)

abbrev agrees : ℕ → Bool → ℕ → Bool
agrees m ns a = same (in_set (denied_cells m ns) a) (barred m ns a)

tried : every_below 16 (λ m. every_bit (λ ns. every_below CELL_VALUES (agrees m ns))) ≡ true
unfolding cell denied denied_to denied_cells
tried = refl

set_says : (m : ℕ) (ns : Bool) (a : ℕ) → m < 16 → a < CELL_VALUES → in_set (denied_cells m ns) a ≡ barred m ns a
set_says m ns a lm la =
    same_eq (in_set (denied_cells m ns) a) (barred m ns a)
    (at_below CELL_VALUES (agrees m ns)
    (at_bit (λ ns. every_below CELL_VALUES (agrees m ns))
    (at_below 16 (λ m. every_bit (λ ns. every_below CELL_VALUES (agrees m ns))) tried m lm) ns) a la)

-- by the words that name the mode and the state
pub cells_say : (a cpsr scr : ℕ) {set : ℕ} → a < CELL_VALUES → 16 ≤ mode_field cpsr → set ≡ denied_cells (cpsr % 16) (SCR_NS scr)
    → in_set set a ≡ (cell a is NO_PLACE || denied (cell a) (mode_field cpsr) (secure cpsr scr))
cells_say a cpsr scr l h e =
    let m : 16 + cpsr % 16 ≡ mode_field cpsr = omega arith in
    rw e (rw m at (set_says (cpsr % 16) (SCR_NS scr) a (omega arith) l))

-- the register of A is one of the mode's own, and the mode is not User
abbrev owned : ℕ → ℕ → Bool
owned m a = not (m is USER) && own (cell a) m

abbrev owns : ℕ → ℕ → Bool
owns m a = same (in_set (own_to m) a) (owned (16 + m) a)

tried_own : every_below 16 (λ m. every_below CELL_VALUES (owns m)) ≡ true
unfolding cell own own_to
tried_own = refl

pub own_says : (a cpsr : ℕ) {set : ℕ} → a < CELL_VALUES → 16 ≤ mode_field cpsr → set ≡ own_to (cpsr % 16)
    → in_set set a ≡ (not (mode_field cpsr is USER) && own (cell a) (mode_field cpsr))
own_says a cpsr l h e =
    let m : 16 + cpsr % 16 ≡ mode_field cpsr = omega arith in
    let at-mode = at_below 16 (λ m. every_below CELL_VALUES (owns m)) tried_own (cpsr % 16) (omega arith) in
    let says = at_below CELL_VALUES (owns (cpsr % 16)) at-mode a l in
    rw e (rw m at (same_eq (in_set (own_to (cpsr % 16)) a) (owned (16 + cpsr % 16) a) says))
