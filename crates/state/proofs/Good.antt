-- A block is good by its parts: a known mode, bits 24 to 21 clear, and a mode that stands where NS and TGE let it.
use Rattle.std.specs.Prelude.{if◌then◌else◌}
use mathlib.Core.Path.{◌≡◌, refl, sym, ◌∙◌}
use mathlib.Core.Bool.{Bool, true, false, not, ◌&&◌}
use mathlib.Core.List.{[], ◌∷◌}
use Prim.Native.Nat.{ℕ}
use native.Mathlib.Omega.{arith}
use borrow.Author.Tests.{eqb-false, not-false}
use Rattle.state.specs.Choice.{◌is◌, first_of}
use Rattle.state.specs.Field.{bits, mode_field, SCR_NS, HCR_TGE}
use Rattle.state.specs.Mode.{known, el1}
use Rattle.state.specs.declared.mode.TheConstants.{UNKNOWN, UNKNOWN_OR_EL1, UNKNOWN_OR_HYP}
use Rattle.state.specs.Number.{DONE, BAD_MODE, BAD_STATE}
use Rattle.state.specs.Parts.{in_set, BadModes, mode_fault}
pub use Rattle.state.specs.Parts.{stands}
use Rattle.state.specs.State.{good, fault_of}
use Rattle.state.proofs.Test.{and_left, and_right, same, same_eq, every_below, at_below}

pub good_by_parts : (cpsr scr hcr : ℕ) → known (mode_field cpsr) ≡ true → (bits 24 21 cpsr is 0) ≡ true
    → stands (mode_field cpsr) (SCR_NS scr) (HCR_TGE hcr) ≡ true → fault_of cpsr scr hcr ≡ DONE
unfolding fault_of good
good_by_parts cpsr scr hcr k c s = rw (k, c, s)

pub record Good (cpsr scr hcr : ℕ) : Type 0 where
  pub known_mode : known (mode_field cpsr) ≡ true
  pub clear : (bits 24 21 cpsr is 0) ≡ true
  pub standing : stands (mode_field cpsr) (SCR_NS scr) (HCR_TGE hcr) ≡ true

-- the rows of a fault: the mode is unknown, the block is not good
abbrev pub fault_rows : Bool → Bool → ℕ
fault_rows unknown bad =
    first_of (record { applies = unknown; number = BAD_MODE } ∷ record { applies = bad; number = BAD_STATE } ∷ []) DONE

-- without a fault neither applies
pub no_row : (unknown bad : Bool) → fault_rows unknown bad ≡ DONE → (unknown ≡ false) × (bad ≡ false)
no_row true bad h = absurd (eqb-false BAD_MODE DONE refl h)
no_row false true h = absurd (eqb-false BAD_STATE DONE refl h)
no_row false false h = (refl, refl)

pub parts_of_good : (cpsr scr hcr : ℕ) → fault_of cpsr scr hcr ≡ DONE → Good cpsr scr hcr
unfolding fault_of good
parts_of_good cpsr scr hcr h =
    let g = not-false (good cpsr scr hcr) (no_row (not (known (mode_field cpsr))) (not (good cpsr scr hcr)) h).1 in
    let a = and_right (known (mode_field cpsr)) _ g in
    record {
      known_mode = and_left (known (mode_field cpsr)) _ g;
      clear = and_left (bits 24 21 cpsr is 0) _ a;
      standing = and_right (bits 24 21 cpsr is 0) _ a;
    }

-- ---- the modes that no good block is in, as a set

-- the set is right where it is right at each of the 32 numbers that CPSR can hold
pub bad_modes : (set : ℕ) {a b ns tge : Bool} → a ≡ ns → b ≡ tge
    → every_below 32 (λ m. same (in_set set m) (not (known m && stands m ns tge))) ≡ true → BadModes a b set
bad_modes set {ns} {tge} p q h m l =
    rw (p, q)
    (same_eq (in_set set m) (not (known m && stands m ns tge))
    (at_below 32 (λ m. same (in_set set m) (not (known m && stands m ns tge))) h m l))

-- the code's three sets, each by the bits that it is taken at
pub with_tge : {a b : Bool} → a ≡ true → b ≡ true → BadModes a b UNKNOWN_OR_EL1
unfolding known el1
with_tge p q = bad_modes UNKNOWN_OR_EL1 p q refl

pub without_tge : {a b : Bool} → a ≡ true → b ≡ false → BadModes a b UNKNOWN
unfolding known el1
without_tge p q = bad_modes UNKNOWN p q refl

pub with_ns_0 : {a : Bool} (b : Bool) → a ≡ false → BadModes a b UNKNOWN_OR_HYP
unfolding known el1
with_ns_0 b p = bad_modes UNKNOWN_OR_HYP {b = b} p refl refl

-- in a bad mode, and in another with one of bits 24 to 21 set
rows_bad : (k c s : Bool) → not (k && s) ≡ true → (if k then BAD_STATE else BAD_MODE) ≡ fault_rows (not k) (not (k && (c && s)))
rows_bad false c s h = refl
rows_bad true false s h = refl
rows_bad true true false h = refl
rows_bad true true true h = let z : ◌≡◌ {A = Bool} false true = h in cc

rows_unclear : (k c s : Bool) → not (k && s) ≡ false → c ≡ false → BAD_STATE ≡ fault_rows (not k) (not (k && (c && s)))
rows_unclear true false s h e = refl
rows_unclear false c s h e = let z : ◌≡◌ {A = Bool} true false = h in cc
rows_unclear true true s h e = let z : ◌≡◌ {A = Bool} true false = e in cc

-- what a look at the set tells
module _ (cpsr scr hcr set : ℕ) (bad : BadModes (SCR_NS scr) (HCR_TGE hcr) set) where
  abbrev k : Bool
  k = known (mode_field cpsr)

  abbrev c : Bool
  c = bits 24 21 cpsr is 0

  abbrev s : Bool
  s = stands (mode_field cpsr) (SCR_NS scr) (HCR_TGE hcr)

  looked : {t : Bool} → in_set set (mode_field cpsr) ≡ t → not (k && s) ≡ t
  looked e = sym (bad (mode_field cpsr) (omega arith)) ∙ e

  pub in_bad_mode : in_set set (mode_field cpsr) ≡ true → mode_fault cpsr ≡ fault_of cpsr scr hcr
  unfolding fault_of good
  in_bad_mode e = rows_bad k c s (looked e)

  pub not_clear : in_set set (mode_field cpsr) ≡ false → c ≡ false → BAD_STATE ≡ fault_of cpsr scr hcr
  unfolding fault_of good
  not_clear e z = rows_unclear k c s (looked e) z

  pub is_good : in_set set (mode_field cpsr) ≡ false → c ≡ true → DONE ≡ fault_of cpsr scr hcr
  is_good e z =
      let g = not-false (k && s) (looked e) in
      sym (good_by_parts cpsr scr hcr (and_left k s g) z (and_right k s g))
