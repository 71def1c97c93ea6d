-- What the code's tests of the operands tell of the row of those that are not well formed.
use mathlib.Core.Path.{◌≡◌}
use mathlib.Core.Bool.{Bool, true, false, not, ◌&&◌, ◌||◌}
use mathlib.Core.List.{List}
use Prim.Native.Nat.{ℕ, ◌<◌, ◌≤◌}
use native.Mathlib.Omega.{arith}
use lib.Dec.{leb, ltb}
use lib.ListN.{length}
use Rattle.std.proofs.lemmas.Bool.Decides.{nat_tests}
use Rattle.std.specs.Prelude.{Err}
use Rattle.state.specs.Choice.{◌is◌}
use Rattle.state.specs.Number.{DONE}
use Rattle.state.specs.Place.{BLOCK_SIZE}
use Rattle.state.specs.declared.refusal.Refusal.TheVariants.{BadEvent}
use Rattle.state.specs.State.{fault}
use Rattle.rules.specs.Event.{RETURN, bad_event}
use Rattle.rules.specs.Parts.{CameTo}
use Rattle.rules.specs.Step.{action}
use Rattle.rules.proofs.Carrying.{refused}
use Rattle.rules.proofs.Deciding.{event, bad_event_lem}

-- where B must be 0, by whether they are within the bound
pub within : (bound a w : ℕ) {t : Bool} → (ltb a bound && w is 0) ≡ t → (leb bound a || not (w is 0)) ≡ not t
within bound a w {t = true} h = grind (arith, nat_tests)
within bound a w {t = false} h = grind (arith, nat_tests)

-- where B is the new word
pub beyond : (bound a : ℕ) → bound ≤ a → (leb bound a || false) ≡ true
beyond bound a l = grind (arith, nat_tests)

pub below : (bound a : ℕ) → a < bound → (leb bound a || false) ≡ false
below bound a l = grind (arith, nat_tests)

-- an event that is not well formed, on a good block
pub malformed : (b : List ℕ) (code a w : ℕ) → length b ≡ BLOCK_SIZE → fault b ≡ DONE → (code is RETURN) ≡ false
    → bad_event code a w ≡ true → CameTo b (action b (event code a w)) (Err BadEvent) b
malformed b code a w size good other h = refused b BadEvent (bad_event_lem b a w size good code other h)
