-- The fixed bits of the two tables, as they are asked for; and that no word has those of both.
use mathlib.Core.Path.{◌≡◌, sym, ap, ◌∙◌}
use mathlib.Core.Bool.{Bool, true, false, ◌&&◌, and-true, and-false}
use Prim.Native.Nat.{ℕ, ◌/◌, ◌%◌, ◌^◌}
use native.Mathlib.Nat.{div-one}
use native.Mathlib.Omega.{arith}
use borrow.Author.Tests.{eqb-true, ne_eqb}
use Rattle.state.specs.Choice.{◌is◌}
use Rattle.state.proofs.Test.{and_left, and_right}
use Rattle.instruction.specs.Encoding.{MRS, MSR}
use Rattle.instruction.specs.Instruction.{laid_out}
use Rattle.instruction.specs.Places.{has_bits}

-- what is asked last may be asked first
last_first : (a b c d : Bool) → (b && (c && (d && a))) ≡ (a && (b && (c && d)))
last_first true b c d = ap (λ t. b && (c && t)) (and-true d)
last_first false b c d = ap (λ t. b && (c && t)) (and-false d) ∙ ap (λ t. b && t) (and-false c) ∙ and-false b

module _ (w : ℕ) where
  -- what is asked of both behind bits 21 and 20, and then t
  abbrev behind : Bool → Bool
  behind t = (w / 0x400 % 4 is 0) && ((w / 0x200 % 2 is 1) && ((w / 0x10 % 16 is 0) && t))

  abbrev with_op : ℕ → Bool → Bool
  with_op op t = (w / 0x800000 % 32 is 2) && ((w / 0x100000 % 4 is op) && t)

  pub mrs_bits : has_bits w 0 (w % 16) 0 ≡ laid_out MRS w
  mrs_bits =
      let last = and-true (w / 2 ^ 0 % 16 is 0) ∙ ap (λ k. k % 16 is 0) (div-one w) in
      ap (λ t. with_op 0 (behind t)) (sym last)

  pub msr_bits : has_bits w 2 (w / 0x1000 % 16) 15 ≡ laid_out MSR w
  msr_bits =
      let ones = w / 0x1000 % 16 is 15 in
      let last = w / 0x10 % 16 is 0 in
      let moved = last_first ones (w / 0x400 % 4 is 0) (w / 0x200 % 2 is 1) last in
      ap (with_op 2) (moved ∙ ap (λ t. ones && ((w / 0x400 % 4 is 0) && ((w / 0x200 % 2 is 1) && t))) (sym (and-true last)))

  -- bits 21 and 20 tell them apart
  pub not_both : laid_out MRS w ≡ true → laid_out MSR w ≡ false
  not_both h =
      let first = w / 0x800000 % 32 is 2 in
      let op : w / 0x100000 % 4 ≡ 0 = eqb-true (w / 0x100000 % 4) 0 (and_left _ _ (and_right first _ h)) in
      let other : (w / 0x100000 % 4 is 2) ≡ false = ne_eqb (w / 0x100000 % 4) 2 (λ z. omega (arith, op, z)) in
      sym msr_bits ∙ ap (λ t. first && (t && behind (w / 0x1000 % 16 is 15))) other ∙ and-false first
