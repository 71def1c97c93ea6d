-- The word of some parts, by the places that the two tables give its fields.
use Rattle.std.specs.Prelude.{None, Some}
use mathlib.Core.Path.{◌≡◌, refl, sym, ap, ◌∙◌}
use mathlib.Core.Bool.{Bool, true, false, ◌&&◌, ◌||◌, and-false}
use mathlib.Core.List.{List}
use Prim.Native.Nat.{ℕ, ◌+◌, ◌*◌, ◌^◌, ◌<◌, ◌≤◌}
use native.Mathlib.Omega.{arith}
use lib.Dec.{ltb}
use borrow.Author.Tests.{eq-eqb, ne_eqb, lt-ltb, le-ltb, ltb-true}
use Rattle.state.specs.Choice.{◌is◌}
use Rattle.state.proofs.Test.{and_left, and_right}
use Rattle.entry.specs.Code.{BANKED_READ, BANKED_WRITE}
use Rattle.instruction.specs.Encoding.{Field, MRS, MSR}
use Rattle.instruction.specs.Places.{shared_of}
use Rattle.instruction.specs.Instruction.{Parts, encoding, total, in_range, are_parts, field_of, writing, write_if}

-- where one of the tests fails, no word is written
no_word : (p : Parts) → are_parts p ≡ false → None ≡ write_if p
unfolding write_if
no_word p h = rw h refl

abbrev pub in_ranges : Parts → Bool
in_ranges p = ltb p.a 64 && in_range p

out_of_ranges : (p : Parts) → in_ranges p ≡ false → None ≡ write_if p
out_of_ranges p h =
    let banked = p.code is BANKED_READ || p.code is BANKED_WRITE in no_word p (ap (λ t. banked && t) h ∙ and-false banked)

pub no_such_cell : (p : Parts) → 64 ≤ p.a → None ≡ write_if p
no_such_cell p h = out_of_ranges p (ap (λ t. t && in_range p) (le-ltb p.a 64 h))

pub out_of_range : (p : Parts) → in_range p ≡ false → None ≡ write_if p
out_of_range p h = out_of_ranges p (ap (λ t. ltb p.a 64 && t) h ∙ and-false (ltb p.a 64))

pub no_such_code : (p : Parts) → (p.code ≡ BANKED_READ → ⊥) → (p.code ≡ BANKED_WRITE → ⊥) → None ≡ write_if p
no_such_code p h k = no_word p (λ i. (ne_eqb _ _ h i || ne_eqb _ _ k i) && in_ranges p)

-- what the tests of the ranges tell
pub ranges : (p : Parts) → in_ranges p ≡ true → (p.a < 64) × (p.condition < 15) × (p.register < 15)
ranges p h =
    let others = and_right (ltb p.a 64) (in_range p) h in (
      ltb-true _ _ (and_left (ltb p.a 64) (in_range p) h),
      ltb-true _ _ (and_left (ltb p.condition 15) (ltb p.register 15) others),
      ltb-true _ _ (and_right (ltb p.condition 15) (ltb p.register 15) others),
    )

-- the fields that are put together
abbrev laid : Parts → List Field → ℕ
laid p = total (λ f. 2 ^ f.low) (field_of p)

module _ (p : Parts) (a : p.a < 64) (in_them : in_range p ≡ true) where
  of_code : {r w : Bool} → (p.code is BANKED_READ) ≡ r → (p.code is BANKED_WRITE) ≡ w → (r || w) ≡ true
      → Some (laid p (encoding p.code)) ≡ write_if p
  unfolding write_if writing
  of_code h k t =
      let are : are_parts p ≡ true = (λ i. (h i || k i) && (lt-ltb _ _ a i && in_them i)) ∙ ap (λ x. x && true) t in
      rw are refl

  pub mrs_word : p.code ≡ BANKED_READ → Some (shared_of p.a p.condition + p.register * 0x1000) ≡ write_if p
  mrs_word h =
      let sum : shared_of p.a p.condition + p.register * 0x1000 ≡ laid p MRS = omega arith in
      ap Some sum ∙ ap (λ k. Some (laid p (encoding k))) (sym h) ∙ of_code (eq-eqb _ _ h) refl refl

  pub msr_word : p.code ≡ BANKED_WRITE → Some (shared_of p.a p.condition + 0x20F000 + p.register) ≡ write_if p
  msr_word h =
      let sum : shared_of p.a p.condition + 0x20F000 + p.register ≡ laid p MSR = omega arith in
      let no_read = ne_eqb p.code BANKED_READ (λ z. omega (arith, h, z)) in
      ap Some sum ∙ ap (λ k. Some (laid p (encoding k))) (sym h) ∙ of_code no_read (eq-eqb _ _ h) refl
