-- The codes in the order of their numbers: those that the rules know are 1 to 13, the synchronous ones 1 to 8.
use Rattle.std.specs.Prelude.{if◌then◌else◌}
use mathlib.Core.Path.{◌≡◌, refl, sym, ap, ◌∙◌}
use mathlib.Core.Bool.{Bool, true, false}
use Prim.Native.Nat.{ℕ, ◌/◌, ◌%◌, ◌<◌, ◌≤◌}
use native.Mathlib.Omega.{arith}
use lib.Dec.{ltb, leb}
use borrow.Author.Tests.{eq-eqb, ne_eqb, eqb-true, ltb-true, leb-true, leb-false, lt-ltb}
use Rattle.state.specs.Choice.{◌is◌}
use Rattle.state.specs.Number.{DONE}
use Rattle.state.proofs.Test.{refuted, at_below, at_one, same, same_eq}
use Rattle.entry.specs.Code.{codes, synchronous_codes, is_known, is_synchronous, INTERRUPT_CHECK, MONITOR_TRAP, RETURN}
use Rattle.counts.specs.Parts.{step_of, target_number, taken_number, NOWHERE}

-- ---- known codes

pub numbered : (n : ℕ) → n ≤ RETURN → n ≡ (if is_known n then n else 0)
numbered n l =
    eqb-true n (if is_known n then n else 0)
    (at_below 14 (λ (k : ℕ). k is (if is_known k then k else 0)) refl n (omega arith))

known_low : (n : ℕ) → is_known n ≡ true → n < 14
known_low n h = ltb-true n 14 (at_one codes (λ (k : ℕ). ltb k 14) refl n h)

pub unknown : (n : ℕ) → RETURN < n → 0 ≡ (if is_known n then n else 0)
unknown n l =
    let e : is_known n ≡ false = refuted (is_known n) (λ h. omega (arith, known_low n h)) in
    ap (λ (t : Bool). if t then n else 0) (sym e)

pub code_small : (n : ℕ) → (if is_known n then n else 0) < 32
code_small n = by (is_known n) refl
  where
    by : (t : Bool) → is_known n ≡ t → (if t then n else 0) < 32
    by true h = omega (arith, known_low n h)
    by false h = omega arith

-- ---- synchronous ones

synchronous_low : (n : ℕ) → is_synchronous n ≡ true → n < 9
synchronous_low n h = ltb-true n 9 (at_one synchronous_codes (λ (k : ℕ). ltb k 9) refl n h)

pub none_synchronous : (n : ℕ) → n < 1 → false ≡ is_synchronous n
none_synchronous n l = same_eq false (is_synchronous n) (at_below 1 (λ (k : ℕ). same false (is_synchronous k)) refl n l)

pub synchronous_is : (n : ℕ) → 1 ≤ n → leb n MONITOR_TRAP ≡ is_synchronous n
synchronous_is n l = go (leb n MONITOR_TRAP) refl
  where
    go : (t : Bool) → leb n MONITOR_TRAP ≡ t → t ≡ is_synchronous n
    go true e =
        let h = leb-true n MONITOR_TRAP e in
        let k = at_below 9 (λ (k : ℕ). same (ltb 0 k) (is_synchronous k)) refl n (omega arith) in
        sym (lt-ltb 0 n (omega arith)) ∙ same_eq (ltb 0 n) (is_synchronous n) k
    go false e =
        let h = leb-false n MONITOR_TRAP e in
        sym (refuted (is_synchronous n) (λ g. omega (arith, synchronous_low n g)))

-- ---- the numbers of a Step, test by test

module _ (code number value : ℕ) where
  pub not_done_target : (number ≡ DONE → ⊥) → NOWHERE ≡ target_number (step_of code number value)
  unfolding target_number
  not_done_target n = simp (ne_eqb number DONE n)

  pub synchronous_target : number ≡ DONE → is_synchronous code ≡ true
      → value / 256 % 256 ≡ target_number (step_of code number value)
  unfolding target_number
  synchronous_target d h = simp (eq-eqb number DONE d, h)

  pub other_target : number ≡ DONE → is_synchronous code ≡ false → (code ≡ INTERRUPT_CHECK → ⊥)
      → NOWHERE ≡ target_number (step_of code number value)
  unfolding target_number
  other_target d h n = simp (eq-eqb number DONE d, h, ne_eqb code INTERRUPT_CHECK n)

  pub nothing_target : number ≡ DONE → is_synchronous code ≡ false → code ≡ INTERRUPT_CHECK → value ≡ 0
      → NOWHERE ≡ target_number (step_of code number value)
  unfolding target_number
  nothing_target d h c v = simp (eq-eqb number DONE d, h, eq-eqb code INTERRUPT_CHECK c, eq-eqb value 0 v)

  pub check_target : number ≡ DONE → is_synchronous code ≡ false → code ≡ INTERRUPT_CHECK → (value ≡ 0 → ⊥)
      → value / 256 % 256 ≡ target_number (step_of code number value)
  unfolding target_number
  check_target d h c v = simp (eq-eqb number DONE d, h, eq-eqb code INTERRUPT_CHECK c, ne_eqb value 0 v)

  pub not_done_taken : (number ≡ DONE → ⊥) → NOWHERE ≡ taken_number (step_of code number value)
  unfolding taken_number
  not_done_taken n = simp (ne_eqb number DONE n)

  pub other_taken : number ≡ DONE → (code ≡ INTERRUPT_CHECK → ⊥) → NOWHERE ≡ taken_number (step_of code number value)
  unfolding taken_number
  other_taken d n = simp (eq-eqb number DONE d, ne_eqb code INTERRUPT_CHECK n)

  pub check_taken : number ≡ DONE → code ≡ INTERRUPT_CHECK → value / 65536 ≡ taken_number (step_of code number value)
  unfolding taken_number
  check_taken d c = simp (eq-eqb number DONE d, eq-eqb code INTERRUPT_CHECK c)
