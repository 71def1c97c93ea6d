-- Monitor stands apart: it is neither User nor an EL1 mode, so with NS 1 the mode alone tells who is Non-secure.
use Rattle.std.specs.Prelude.{if◌then◌else◌}
use mathlib.Core.Path.{◌≡◌, refl, sym}
use mathlib.Core.Bool.{Bool, true, false, not, ◌&&◌, ◌||◌}
use Prim.Native.Nat.{ℕ, ◌*◌, ◌^◌, ◌<◌}
use native.Mathlib.Nat.{one-mul, zero-mul}
use lib.Dec.{ltb}
use borrow.Author.Tests.{eqb-true, ltb-true}
use Rattle.state.specs.Choice.{◌is◌}
use Rattle.state.specs.Field.{flag, mode_field, SCR_NS}
use Rattle.state.specs.Mode.{MONITOR, USER, el1, guest, targets, is_target, spsr_place, lr_place}
use Rattle.state.specs.Place.{PLACES}
use Rattle.state.specs.State.{ns_el1, ns_user}
use Rattle.state.proofs.Test.{at_one}

-- what holds of no Monitor: with NS set, not Secure is nothing more to ask
apart : (ns mon p : Bool) → (mon ≡ true → p ≡ false) → (not (not ns || mon) && p) ≡ (ns && p)
apart true true p h = sym (h refl)
apart true false p h = refl
apart false mon p h = refl

monitor_no_el1 : (m : ℕ) → (m is MONITOR) ≡ true → el1 m ≡ false
unfolding el1
monitor_no_el1 m e = rw (eqb-true m MONITOR e)

monitor_no_user : (m : ℕ) → (m is MONITOR) ≡ true → (m is USER) ≡ false
monitor_no_user m e = rw (eqb-true m MONITOR e)

pub ns_el1_lem : (cpsr scr : ℕ) → ns_el1 cpsr scr ≡ (SCR_NS scr && el1 (mode_field cpsr))
ns_el1_lem cpsr scr =
    apart (SCR_NS scr) (mode_field cpsr is MONITOR) (el1 (mode_field cpsr)) (monitor_no_el1 (mode_field cpsr))

pub ns_user_lem : (cpsr scr : ℕ) → ns_user cpsr scr ≡ (SCR_NS scr && mode_field cpsr is USER)
ns_user_lem cpsr scr =
    apart (SCR_NS scr) (mode_field cpsr is MONITOR) (mode_field cpsr is USER) (monitor_no_user (mode_field cpsr))

-- Non-secure User and NS EL1 together: NS, and a mode that a guest runs in
both_of : (ns user el : Bool) → ((ns && user) || (ns && el)) ≡ (ns && (if user then true else el))
both_of true true el = refl
both_of true false el = refl
both_of false user el = refl

pub in_guest : (cpsr scr : ℕ) → (ns_user cpsr scr || ns_el1 cpsr scr) ≡ (SCR_NS scr && guest (mode_field cpsr))
unfolding guest el1
in_guest cpsr scr =
    rw (ns_user_lem cpsr scr, ns_el1_lem cpsr scr)
    (both_of (SCR_NS scr) (mode_field cpsr is USER) (el1 (mode_field cpsr)))

-- a mode that an exception can be taken to has a place for its saved state and one for its return address
pub spsr_inside : (m : ℕ) → is_target m ≡ true → spsr_place m < PLACES
unfolding is_target spsr_place
spsr_inside m h = ltb-true (spsr_place m) PLACES (at_one targets (λ n. ltb (spsr_place n) PLACES) refl m h)

pub lr_inside : (m : ℕ) → is_target m ≡ true → lr_place m < PLACES
unfolding is_target lr_place
lr_inside m h = ltb-true (lr_place m) PLACES (at_one targets (λ n. ltb (lr_place n) PLACES) refl m h)

-- a flag where it stands is the flag at bit 0, moved there
pub flag_moved : (n : ℕ) (t : Bool) → flag 0 t * 2 ^ n ≡ flag n t
flag_moved n true = one-mul (2 ^ n)
flag_moved n false = zero-mul (2 ^ n)
