-- The 64 numbers of the code's table, and the bytes of its rows, are the cells of Tables F5-116 and F5-117, and no two cells
-- name one place: tests over the whole table.
use mathlib.Core.Path.{◌≡◌, refl}
use mathlib.Core.Bool.{Bool, not, ◌&&◌}
use mathlib.Core.List.{List, [], ◌∷◌}
use Prim.Native.Nat.{ℕ, ◌*◌, ◌/◌, ◌%◌, ◌^◌, ◌<◌, ◌≤◌}
use native.Mathlib.Omega.{arith}
use lib.Bits.{bit_and}
use lib.Dec.{eqb, ltb}
use lib.ListN.{get_or, get_or-eq_default}
use borrow.Author.Tests.{eqb-true, eq-eqb, ne_eqb, ltb-true}
use Rattle.state.specs.Place.{NO_PLACE, CPSR}
use Rattle.state.proofs.Test.{at_entry, every_below, at_below, implies, implied, both}
use Rattle.banked.specs.Cell.{CELL_VALUES, cell, F5_116, F5_117}
use Rattle.banked.specs.Parts.{eight_from}

abbrev pub cells : List ℕ
cells =
    0 ∷ 1 ∷ 2 ∷ 3 ∷ 4 ∷ 5 ∷ 6 ∷ 255
    ∷ 7 ∷ 8 ∷ 9 ∷ 10 ∷ 11 ∷ 12 ∷ 13 ∷ 255
    ∷ 14 ∷ 15 ∷ 16 ∷ 17 ∷ 18 ∷ 19 ∷ 20 ∷ 21
    ∷ 255 ∷ 255 ∷ 255 ∷ 255 ∷ 22 ∷ 23 ∷ 24 ∷ 25
    ∷ 255 ∷ 255 ∷ 255 ∷ 255 ∷ 255 ∷ 255 ∷ 255 ∷ 255
    ∷ 255 ∷ 255 ∷ 255 ∷ 255 ∷ 255 ∷ 255 ∷ 26 ∷ 255
    ∷ 27 ∷ 255 ∷ 28 ∷ 255 ∷ 29 ∷ 255 ∷ 30 ∷ 255
    ∷ 255 ∷ 255 ∷ 255 ∷ 255 ∷ 31 ∷ 255 ∷ 32 ∷ 255
    ∷ []

pub cells_right : (a : ℕ) → a < CELL_VALUES → get_or cells a 0 ≡ cell a
unfolding cell
cells_right a h = eqb-true (get_or cells a 0) (cell a) (at_entry cells (λ a x. eqb x (cell a)) refl a h)

-- the byte of A in its row of eight
pub byte_right : (a : ℕ) {row : ℕ} → a < CELL_VALUES → row ≡ eight_from a → bit_and (row / 2 ^ (a % 8 * 8)) 0xFF ≡ cell a
unfolding cell eight_from
byte_right a l e =
    let right : ℕ → Bool = λ a. eqb (bit_and (eight_from a / 2 ^ (a % 8 * 8)) 0xFF) (cell a) in
    rw e (eqb-true (bit_and (eight_from a / 2 ^ (a % 8 * 8)) 0xFF) (cell a) (at_below CELL_VALUES right refl a l))

-- past the 64 cells there is no register
pub cell_out : (a : ℕ) → CELL_VALUES ≤ a → cell a ≡ NO_PLACE
unfolding cell
cell_out a h =
    let e = get_or-eq_default (F5_116 ∷ F5_117 ∷ []) [] {n = a / 32} (omega arith) in
    rw e

-- a cell is a mark or a register: the registers are the places before CPSR
pub cell_inside : (a : ℕ) → a < CELL_VALUES → (cell a ≡ NO_PLACE → ⊥) → cell a < CPSR
unfolding cell
cell_inside a h n =
    ltb-true (cell a) CPSR
    (implied (not (eqb (cell a) NO_PLACE)) (ltb (cell a) CPSR)
    (at_below CELL_VALUES (λ a. implies (not (eqb (cell a) NO_PLACE)) (ltb (cell a) CPSR)) refl a h)
    (rw (ne_eqb (cell a) NO_PLACE n)))

-- no two cells name one place
pub cells_apart : (a a' : ℕ) → a < CELL_VALUES → a' < CELL_VALUES → (cell a ≡ NO_PLACE → ⊥) → cell a ≡ cell a'
    → a ≡ a'
unfolding cell
cells_apart a a' h h' n e =
    let test : ℕ → ℕ → Bool = λ a a'. implies (not (eqb (cell a) NO_PLACE) && eqb (cell a) (cell a')) (eqb a a') in
    eqb-true a a'
    (implied (not (eqb (cell a) NO_PLACE) && eqb (cell a) (cell a')) (eqb a a')
    (at_below CELL_VALUES (test a) (at_below CELL_VALUES (λ a. every_below CELL_VALUES (test a)) refl a h) a' h')
    (both {a = not (eqb (cell a) NO_PLACE)} (rw (ne_eqb (cell a) NO_PLACE n)) (eq-eqb (cell a) (cell a') e)))
