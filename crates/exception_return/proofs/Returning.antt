-- A return, on each way through its tests, comes to what the rows of refusals and the rules say.
use Rattle.std.specs.Prelude.{Option, None, Some, Result, Err}
use Rattle.std.specs.Option.{IsSome}
use mathlib.Core.Path.{◌≡◌, refl, sym, ap, ◌∙◌}
use mathlib.Core.Bool.{Bool, true, false, not, ◌&&◌, ◌||◌}
use mathlib.Core.List.{List}
use Prim.Native.Nat.{ℕ, ◌<◌}
use native.Mathlib.Omega.{arith}
use borrow.Author.Tests.{eq-eqb, ne_eqb, not-true, not-false}
use lib.ListN.{length}
use Rattle.words.specs.Word.{word}
use Rattle.state.specs.Choice.{◌is◌}
use Rattle.state.specs.Field.{mode_field, SCR_NS}
use Rattle.state.specs.Mode.{HYP, is_target, spsr_place, lr_place}
use Rattle.state.specs.Number.{DONE}
use Rattle.state.specs.Parts.{place_or_none}
use Rattle.state.specs.Place.{BLOCK_SIZE, PLACES, NO_PLACE, CPSR, SCR, HCR}
use Rattle.state.specs.State.{fault}
use Rattle.state.specs.declared.mode.Mode.{Mode}
use Rattle.state.specs.declared.refusal.Refusal.{Refusal}
use Rattle.state.specs.declared.refusal.Refusal.TheVariants.{BadState, BadEvent, NotHere}
use Rattle.state.proofs.Good.{parts_of_good}
use Rattle.state.proofs.Laws.{lr_inside}
use Rattle.state.proofs.Test.{and_left, same, same_eq, at_below}
use Rattle.returns.specs.Parts.{Leaves}
use Rattle.returns.specs.Return.{wrong_a, bad_saved, word_after, address_after}
use Rattle.rules.specs.Event.{RETURN}
use Rattle.rules.specs.Parts.{CameTo}
use Rattle.rules.specs.Step.{Action, Return, action}
use Rattle.rules.specs.declared.verdict.Verdict.{Verdict}
use Rattle.rules.proofs.Carrying.{refused, same_action}
use Rattle.rules.proofs.Deciding.{event, returned_by, at_return}

-- the mark for no place tells who has no saved state
abbrev marked : ℕ → Bool
marked m = same (spsr_place m is NO_PLACE) (not (is_target m))

place_tells : (m : ℕ) → m < 32 → (spsr_place m is NO_PLACE) ≡ not (is_target m)
unfolding spsr_place is_target
place_tells m l = same_eq (spsr_place m is NO_PLACE) (not (is_target m)) (at_below 32 marked refl m l)

-- the place of the saved word, as it was found for the mode of CPSR
pub none_saved : (cpsr : ℕ) → NO_PLACE ≡ spsr_place (mode_field cpsr) → is_target (mode_field cpsr) ≡ false
none_saved cpsr e =
    not-true (is_target (mode_field cpsr))
    (sym (place_tells (mode_field cpsr) (omega arith)) ∙ eq-eqb (spsr_place (mode_field cpsr)) NO_PLACE (sym e))

some_saved : (cpsr : ℕ) → (spsr_place (mode_field cpsr) ≡ NO_PLACE → ⊥) → is_target (mode_field cpsr) ≡ true
some_saved cpsr n =
    not-false (is_target (mode_field cpsr))
    (sym (place_tells (mode_field cpsr) (omega arith)) ∙ ne_eqb (spsr_place (mode_field cpsr)) NO_PLACE n)

-- a good block with a saved state may return
pub leaves : (b : List ℕ) {cpsr scr : ℕ} → cpsr ≡ word b CPSR → scr ≡ word b SCR → fault b ≡ DONE
    → is_target (mode_field cpsr) ≡ true → Leaves cpsr scr
unfolding fault
leaves b {cpsr} {scr} ec es good t =
    let stands = (parts_of_good (word b CPSR) (word b SCR) (word b HCR) good).standing in
    (t, rw (ec, es) (not-true (mode_field (word b CPSR) is HYP && not (SCR_NS (word b SCR))) (and_left _ _ stands)))

-- and has a place for its return address
linked : (m : ℕ) (o : Option ℕ) → is_target m ≡ true → place_or_none o ≡ lr_place m → IsSome o
linked m None t e = let i = lr_inside m t in absurd (omega arith)
linked m (Some p) t e = refl

-- the mode that was found, and a place of its saved word
module _ (cpsr : ℕ) {mode : Mode} (em : mode ≡ record { number = mode_field cpsr }) where
  its_spsr : {p : ℕ} → p ≡ spsr_place mode.number → p ≡ spsr_place (mode_field cpsr)
  its_spsr e = e ∙ ap (λ (m : Mode). spsr_place m.number) em

  its_lr : {p : ℕ} → p ≡ lr_place mode.number → p ≡ lr_place (mode_field cpsr)
  its_lr e = e ∙ ap (λ (m : Mode). lr_place m.number) em

  module _ {p : ℕ} (place : p ≡ spsr_place mode.number) (inside : p < PLACES) where
    some : is_target (mode_field cpsr) ≡ true
    some = let e = its_spsr place in some_saved cpsr (λ n. absurd (omega arith))

    pub may_leave : (b : List ℕ) {scr : ℕ} → cpsr ≡ word b CPSR → scr ≡ word b SCR → fault b ≡ DONE → Leaves cpsr scr
    may_leave b ec es good = leaves b ec es good some

    pub has_link : (o : Option ℕ) → place_or_none o ≡ lr_place mode.number → IsSome o
    has_link o e = linked (mode_field cpsr) o some (its_lr e)

-- what a return comes to on a good block, by what was found of its mode and its A
module _ (b : List ℕ) (a w : ℕ) {cpsr scr : ℕ} (ec : cpsr ≡ word b CPSR) (es : scr ≡ word b SCR) (size : length b ≡ BLOCK_SIZE)
    (good : fault b ≡ DONE) {mode : Mode} (em : mode ≡ record { number = mode_field cpsr }) {off : Bool} (eo : off ≡ wrong_a cpsr a) where
  -- the return itself, by the saved word and the link
  abbrev back : ℕ → ℕ → Action
  back saved link = Return (word_after cpsr scr (word b HCR) saved) (address_after saved link a)

  so : {place wrong : Bool} {p q : ℕ} → is_target (mode_field cpsr) ≡ place → p ≡ spsr_place (mode_field cpsr)
      → q ≡ lr_place (mode_field cpsr) → (off || not (w is 0)) ≡ wrong
      → returned_by (place && bad_saved (word b p)) wrong (not place) (back (word b p) (word b q)) ≡ action b (event RETURN a w)
  so t ep eq h = rw (← h, ← t, ep, eq, eo, ec, es) (at_return b a w size good)

  -- with no place of a saved word
  module _ (none : NO_PLACE ≡ spsr_place mode.number) where
    pub none_wrong : (off || not (w is 0)) ≡ true → CameTo b (action b (event RETURN a w)) (Err BadEvent) b
    none_wrong h = refused b BadEvent (so (none_saved cpsr (its_spsr cpsr em none)) refl refl h)

    pub none_right : (off || not (w is 0)) ≡ false → CameTo b (action b (event RETURN a w)) (Err NotHere) b
    none_right h = refused b NotHere (so (none_saved cpsr (its_spsr cpsr em none)) refl refl h)

  -- with one, and what was found of the word there
  module _ {p saved : ℕ} (place : p ≡ spsr_place mode.number) (inside : p < PLACES) (read : saved ≡ word b p) {bad : Bool}
      (e : bad ≡ bad_saved saved) where
    there : is_target (mode_field cpsr) ≡ true
    there = some cpsr em place inside

    spsr : p ≡ spsr_place (mode_field cpsr)
    spsr = its_spsr cpsr em place

    pub unfit : bad ≡ true → CameTo b (action b (event RETURN a w)) (Err BadState) b
    unfit h = refused b BadState (rw (← read, ← e, h) at (so there spsr refl refl))

    pub some_wrong : bad ≡ false → (off || not (w is 0)) ≡ true → CameTo b (action b (event RETURN a w)) (Err BadEvent) b
    some_wrong fit h = refused b BadEvent (rw (← read, ← e, fit) at (so there spsr refl h))

    pub done : {o : Option ℕ} {q link : ℕ} {v : Result Verdict Refusal} {l : List ℕ} → bad ≡ false → (off || not (w is 0)) ≡ false
        → place_or_none o ≡ lr_place mode.number → o ≡ Some q → link ≡ word b q
        → CameTo b (Return (word_after cpsr scr (word b HCR) saved) (address_after saved link a)) v l
        → CameTo b (action b (event RETURN a w)) v l
    done fit h ep found el =
        let q = its_lr cpsr em (sym (ap place_or_none found) ∙ ep) in
        same_action b (rw (← read, ← el, ← e, fit) at (so there spsr q h))
