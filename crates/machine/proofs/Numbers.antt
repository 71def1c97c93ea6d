-- The number of the first row that applies is the one that is given, and no other number is.
use Rattle.std.specs.Prelude.{if◌then◌else◌}
use mathlib.Core.Path.{◌≡◌, refl, sym, ◌∙◌}
use mathlib.Core.Bool.{Bool, true, false, not}
use mathlib.Core.List.{List, [], ◌∷◌}
use mathlib.Core.Logic.{◌↔◌}
use Prim.Native.Nat.{ℕ}
use Rattle.state.specs.Choice.{Row, first_of}
use Rattle.state.specs.Number.{DONE, BAD_SIZE}
use Rattle.rules.specs.Refusal.{rows, refusal}
use Rattle.rules.specs.Step.{answer, sized, number_returned}
use Rattle.rules.specs.declared.event.Event.{Event}
use Rattle.machine.specs.Claims.{FirstRow, none, here, later, rows_lent}
use Rattle.machine.proofs.Laws.{number_is}

first_row : (rs : List Row) → FirstRow rs (first_of rs DONE)
first_row [] = none
first_row (r ∷ rs) = by r.applies refl (first_row rs)
  where
    by : (t : Bool) → r.applies ≡ t → FirstRow rs (first_of rs DONE)
        → FirstRow (r ∷ rs) (if t then r.number else first_of rs DONE)
    by true e h = here e
    by false e h = later e h

first_only : (rs : List Row) (n : ℕ) → FirstRow rs n → n ≡ first_of rs DONE
first_only [] n none = refl
first_only (r ∷ rs) n (here e) = rw e
first_only (r ∷ rs) n (later e h) = rw e (first_only rs n h)

-- a number that is given by the rows
exactly : (rs : List Row) {m : ℕ} → m ≡ first_of rs DONE → (n : ℕ) → (m ≡ n) ↔ FirstRow rs n
exactly rs e n = (λ h. rw (sym h ∙ e) (first_row rs), λ h. e ∙ sym (first_only rs n h))

pub answered_exactly : (b : List ℕ) (e : Event) (n : ℕ) → ((answer b e).number ≡ n) ↔ FirstRow (rows b e) n
unfolding refusal
answered_exactly b e n = exactly (rows b e) (number_is b e) n

returned_is : (b : List ℕ) (e : Event) (m : List ℕ) → number_returned b e m ≡ first_of (rows_lent b e m) DONE
unfolding number_returned refusal
returned_is b e m = by (sized b m)
  where
    by : (t : Bool) → (if t then (answer b e).number else BAD_SIZE) ≡ (if not t then BAD_SIZE else first_of (rows b e) DONE)
    by true = number_is b e
    by false = refl

pub returned_exactly : (b : List ℕ) (e : Event) (m : List ℕ) (n : ℕ) → (number_returned b e m ≡ n) ↔ FirstRow (rows_lent b e m) n
returned_exactly b e m n = exactly (rows_lent b e m) (returned_is b e m) n
