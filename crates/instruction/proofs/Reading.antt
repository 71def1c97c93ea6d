-- The parts of a word, by the places that the two tables give its fields.
use Rattle.std.specs.Prelude.{Option, None, Some, if◌then◌else◌}
use mathlib.Core.Path.{◌≡◌, refl, sym, ap, ◌∙◌}
use mathlib.Core.Bool.{Bool, true, false, ◌||◌}
use Prim.Native.Nat.{ℕ, ◌/◌, ◌%◌, ◌^◌, ◌<◌}
use native.Mathlib.Omega.{arith}
use Rattle.entry.specs.Code.{BANKED_READ, BANKED_WRITE}
use Rattle.instruction.specs.Encoding.{MRS, MSR}
use Rattle.instruction.specs.Instruction.{Parts, laid_out, in_range, parts_in, no_parts, reading, read_if}
use Rattle.instruction.specs.Places.{a_in}
use Rattle.instruction.proofs.Tests.{not_both}

abbrev pub mrs_parts : ℕ → Parts
mrs_parts w = record { code = BANKED_READ; a = a_in w; condition = w / 0x10000000; register = w / 0x1000 % 16 }

abbrev pub msr_parts : ℕ → Parts
msr_parts w = record { code = BANKED_WRITE; a = a_in w; condition = w / 0x10000000; register = w % 16 }

abbrev pub if_in_range : Parts → Option Parts
if_in_range p = if in_range p then Some p else None

module _ (w : ℕ) (small : w < 2 ^ 32) where
  pub mrs_parts_lem : parts_in BANKED_READ w ≡ mrs_parts w
  mrs_parts_lem =
      let parts = parts_in BANKED_READ w in
      let a : parts.a ≡ a_in w = omega arith in
      let condition : parts.condition ≡ w / 0x10000000 = omega (arith, small) in
      let register : parts.register ≡ w / 0x1000 % 16 = omega arith in
      λ i. record { code = BANKED_READ; a = a i; condition = condition i; register = register i }

  pub msr_parts_lem : parts_in BANKED_WRITE w ≡ msr_parts w
  msr_parts_lem =
      let parts = parts_in BANKED_WRITE w in
      let a : parts.a ≡ a_in w = omega arith in
      let condition : parts.condition ≡ w / 0x10000000 = omega (arith, small) in
      let register : parts.register ≡ w % 16 = omega arith in
      λ i. record { code = BANKED_WRITE; a = a i; condition = condition i; register = register i }

  -- ---- what is read

  pub read_mrs : laid_out MRS w ≡ true → if_in_range (mrs_parts w) ≡ read_if w
  unfolding read_if reading
  read_mrs h = ap if_in_range (sym mrs_parts_lem) ∙ rw (h, not_both w h) (chosen _ (in_range (parts_in BANKED_READ w)))
    where
      chosen : (p : Parts) (t : Bool) → (if t then Some p else None) ≡ (if t || false then Some (if t then p else no_parts) else None)
      chosen p true = refl
      chosen p false = refl

  pub read_msr : laid_out MRS w ≡ false → laid_out MSR w ≡ true → if_in_range (msr_parts w) ≡ read_if w
  unfolding read_if reading
  read_msr n h = ap if_in_range (sym msr_parts_lem) ∙ rw (n, h) (chosen _ (in_range (parts_in BANKED_WRITE w)))
    where
      chosen : (p : Parts) (t : Bool) → (if t then Some p else None) ≡ (if t then Some (if t then p else no_parts) else None)
      chosen p true = refl
      chosen p false = refl

pub read_none : (w : ℕ) → laid_out MRS w ≡ false → laid_out MSR w ≡ false → None ≡ read_if w
unfolding read_if
read_none w n m = rw (n, m) refl
