-- A set of modes says what the list of illegal returns says, where it does so at each of the 32 numbers that a saved word can
-- name, and at each mode that a return can come from.
use Rattle.std.proofs.Common.{◌≡◌, ℕ, ◌+◌, ◌^◌, ◌<◌, ◌≤◌, Bool, true, false, not, ◌&&◌, refl, arith, if◌then◌else◌}
use Rattle.state.specs.Choice.{◌is◌, ◌among◌}
use Rattle.state.specs.Mode.{MONITOR, HYP, known, el1, targets, is_target}
use Rattle.state.specs.declared.mode.TheConstants.{UNKNOWN, UNKNOWN_OR_EL1, UNKNOWN_OR_HYP}
use Rattle.state.specs.Parts.{in_set}
use Rattle.state.proofs.Sets.{in_set_lem}
use Rattle.state.proofs.Test.{same, same_eq, every_bit, at_bit, every_below, at_below, every_of, at_one}
use Rattle.returns.specs.Illegal.{illegal}
use Rattle.returns.specs.Level.{EL3, level}
use Rattle.returns.specs.Parts.{above_set, IllegalModes}
use Rattle.returns.specs.Return.{taken_off}
use Rattle.returns.specs.declared.TheConstants.{TAKEN_OFF}
use Rattle.returns.proofs.Levels.{at_el3}

-- what may be taken off the link, looked up by a shift, is its list
pub taken_off_says : (a : ℕ) → a < 32 → in_set TAKEN_OFF a ≡ (a among taken_off)
taken_off_says a l = in_set_lem TAKEN_OFF taken_off refl a l

abbrev pub agrees : ℕ → ℕ → Bool → Bool → Bool
agrees set current ns tge = every_below 32 (λ m. same (in_set set m) (illegal current m ns tge))

agreed : (set current : ℕ) (ns tge : Bool) → agrees set current ns tge ≡ true → IllegalModes current ns tge set
agreed set current ns tge h m l =
    same_eq (in_set set m) (illegal current m ns tge)
    (at_below 32 (λ m. same (in_set set m) (illegal current m ns tge)) h m l)

-- with NS 0 the level is EL3, and TGE plays no part
pub secure_set : (set m : ℕ) {ns : Bool} (tge : Bool) → ns ≡ false → is_target m ≡ true → (m is HYP && not ns) ≡ false
    → every_bit (agrees set EL3 false) ≡ true → IllegalModes (level m ns) ns tge set
secure_set set m tge e t h all =
    rw (e, at_el3 m t (rw e at h)) (agreed set EL3 false tge (at_bit (agrees set EL3 false) all tge))

-- with NS 1 the modes above are added
pub above_small : (m : ℕ) → above_set m ≤ 2 ^ MONITOR + 2 ^ HYP
above_small m = by (m is MONITOR) (m is HYP)
  where
    by : (monitor hyp : Bool)
        → (if monitor then 0 else (if hyp then 2 ^ MONITOR else 2 ^ MONITOR + 2 ^ HYP)) ≤ 2 ^ MONITOR + 2 ^ HYP
    by true hyp = omega arith
    by false true = omega arith
    by false false = omega arith

pub non_secure_set : (base m : ℕ) {ns t tge : Bool} → ns ≡ true → t ≡ tge → is_target m ≡ true
    → every_of targets (λ m. agrees (base + above_set m) (level m true) true tge) ≡ true
    → IllegalModes (level m ns) ns t (base + above_set m)
unfolding is_target
non_secure_set base m {tge} e f t all =
    rw (e, f)
    (agreed (base + above_set m) (level m true) true tge
    (at_one targets (λ m. agrees (base + above_set m) (level m true) true tge) all m t))

-- the code's three sets, each by the bits that it is taken at
pub with_ns_0 : (m : ℕ) {ns : Bool} (tge : Bool) → ns ≡ false → is_target m ≡ true → (m is HYP && not ns) ≡ false
    → IllegalModes (level m ns) ns tge UNKNOWN_OR_HYP
unfolding known el1 illegal level
with_ns_0 m tge e t h = secure_set UNKNOWN_OR_HYP m tge e t h refl

pub with_tge : (m : ℕ) {ns tge : Bool} {above : ℕ} → ns ≡ true → tge ≡ true → is_target m ≡ true → above ≡ above_set m
    → IllegalModes (level m ns) ns tge (UNKNOWN_OR_EL1 + above)
unfolding known el1 illegal level
with_tge m e f t a = rw a (non_secure_set UNKNOWN_OR_EL1 m e f t refl)

pub without_tge : (m : ℕ) {ns tge : Bool} {above : ℕ} → ns ≡ true → tge ≡ false → is_target m ≡ true → above ≡ above_set m
    → IllegalModes (level m ns) ns tge (UNKNOWN + above)
unfolding known el1 illegal level
without_tge m e f t a = rw a (non_secure_set UNKNOWN m e f t refl)
