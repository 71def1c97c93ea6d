-- What the rules answer has a word in each group: numbers are below 18, and the value of an exception tells a mode and an
-- exception that are below 32.
use Rattle.std.specs.Prelude.{Option, if◌then◌else◌}
use mathlib.Core.Path.{◌≡◌, refl, ap, ◌∙◌, subst}
use mathlib.Core.Bool.{Bool, true, false, not, ◌&&◌, ◌||◌}
use mathlib.Core.List.{List, [], ◌∷◌}
use Prim.Native.Nat.{ℕ, suc, ◌/◌, ◌%◌, ◌<◌}
use native.Mathlib.Omega.{arith}
use lib.ListN.{length}
use lib.Dec.{lit<}
use borrow.Author.Tests.{eqb-true, eqb-false}
use Rattle.words.specs.Word.{word}
use Rattle.state.specs.Choice.{◌is◌}
use Rattle.state.specs.Number.{DONE}
use Rattle.state.specs.Place.{CPSR, SCR, HCR}
use Rattle.entry.specs.Code.{is_synchronous, BANKED_READ}
use Rattle.entry.specs.Way.{Way, Barred, Enter}
use Rattle.interrupts.specs.declared.exception.Exception.{Exception}
use Rattle.interrupts.proofs.Laws.{found_cases}
use Rattle.rules.specs.declared.event.Event.{Event}
use Rattle.rules.specs.Known.{unknown, seen, NO_CODE}
use Rattle.rules.specs.declared.verdict.Answer.{Answer}
use Rattle.rules.specs.Parts.{Sound}
use Rattle.rules.specs.Refusal.{refusal}
use Rattle.rules.specs.Step.{Action, Refuse, Take, Quiet, Read, Put, Return, taken_by, checked_in, interrupt_way, event_way}
use Rattle.rules.specs.Step.{answer_to, done_action, action, answer}
use Rattle.rules.specs.Verdict.{value}
use Rattle.rules.proofs.Deciding.{by_code}
use Rattle.rules.proofs.Sound.{action_sound, target_small}
use Rattle.machine.proofs.Laws.{number_small, which_small}
use Rattle.records.specs.Layout.{layout}
use Rattle.records.specs.Judged.{wide}
use Rattle.records.proofs.Lawfuls.{wide-answer}
use Rattle.counts.specs.Counts.{Step, steps_from, is_done, is_check, is_entry}
use Rattle.counts.specs.Counts.{is_done_check, how_many, GROUP_SIZE}
use Rattle.counts.specs.Theorems.{total}
use Rattle.counts.proofs.Bumping.{one}
use Rattle.counts.proofs.Codes.{code_small}
use Rattle.counts.proofs.Summing as summing
use Rattle.counts.proofs.Summing.{All, hits_below}

-- ---- the value of an action that reads no register

abbrev NoRead : Action → Type 0
NoRead (Refuse n) = Unit {0}
NoRead (Take x to offset link) = Unit {0}
NoRead (Quiet lines) = Unit {0}
NoRead (Read p) = ⊥
NoRead (Put p w) = Unit {0}
NoRead (Return cpsr pc) = Unit {0}

abbrev Small : ℕ → Type 0
Small v = (v / 256 % 256 < GROUP_SIZE) × (v / 65536 < GROUP_SIZE)

small_value : (b : List ℕ) (x : Action) → Sound x → NoRead x → Small (answer_to b x).value
unfolding value
small_value b (Refuse n) s h = (lit< tt, lit< tt)
small_value b (Take x to offset link) s h =
    let w = which_small x in
    let t = target_small to s.0 in
    let o = s.1 in
    (omega arith, omega arith)
small_value b (Quiet lines) s h = (lit< tt, lit< tt)
small_value b (Read p) s h = absurd h
small_value b (Put p w) s h = (lit< tt, lit< tt)
small_value b (Return cpsr pc) s h = (lit< tt, lit< tt)

-- an exception reads none
taken_no_read : (x : Exception) (w : Way) → NoRead (taken_by x w)
taken_no_read x (Barred n) = tt
taken_no_read x (Enter to offset link) = tt

done_no_read : (b : List ℕ) (code a w : ℕ) → (code ≡ BANKED_READ → ⊥)
    → NoRead (done_action b (record { code = code; a = a; b = w }))
done_no_read b code a w n =
    by_code NoRead b code a w
    (λ e. found_cases (λ (f : Option Exception). NoRead (checked_in b a f)) a (word b CPSR) (word b SCR) (word b HCR) tt
    (λ x k t. taken_no_read x (interrupt_way b x)))
    (λ e. n e) (λ e. tt) (λ e. tt) (λ e. tt) (λ o. taken_no_read _ (event_way b code a))

no_read : (b : List ℕ) (e : Event) → (e.code ≡ BANKED_READ → ⊥) → NoRead (action b e)
unfolding action
no_read b e n = by (refusal b e is DONE)
  where
    by : (t : Bool) → NoRead (if t then done_action b e else Refuse (refusal b e))
    by true = done_no_read b e.code e.a e.b n
    by false = tt

value_parts : (b : List ℕ) (e : Event) → (e.code ≡ BANKED_READ → ⊥) → Small (answer b e).value
unfolding answer
value_parts b e n = small_value b (action b e) (action_sound b e) (no_read b e n)

-- ---- a Step of the rules

-- an event that is no read is none as a layout sees it either
seen_no_read : (old : Bool) (e : Event) → (e.code ≡ BANKED_READ → ⊥) → (seen old e).code ≡ BANKED_READ → ⊥
unfolding seen
seen_no_read old e n = by (unknown old e)
  where
    by : (t : Bool) → (if t then record { code = NO_CODE; a = e.a; b = e.b } else e).code ≡ BANKED_READ → ⊥
    by true h = omega arith
    by false h = n h

-- counted as the record names it, answered as its layout sees it, from a block as the machine has it
abbrev step_at : Bool → List ℕ → Event → Step
step_at old b e = record { event = e; answer = answer b (seen old e) }

module _ (old : Bool) (b : List ℕ) (e : Event) where
  abbrev this : Step
  this = step_at old b e

  -- a read is no entry and no check
  reads : e.code ≡ BANKED_READ → (is_entry this ≡ false) × (is_done_check this ≡ false)
  reads c = (go (is_done this), on (is_done this))
    where
      go : (t : Bool) → (t && (is_synchronous e.code || (is_check this && not (this.answer.value is 0)))) ≡ false
      go true = rw c
      go false = refl

      on : (t : Bool) → (t && is_check this) ≡ false
      on true = rw c
      on false = refl

  target_once : hits_below 3 GROUP_SIZE this ≡ one (is_entry this)
  target_once = by (e.code is BANKED_READ) refl
    where
      by : (t : Bool) → (e.code is BANKED_READ) ≡ t → hits_below 3 GROUP_SIZE this ≡ one (is_entry this)
      by true h = summing.no_entry this (reads (eqb-true e.code BANKED_READ h)).0
      by false h = summing.by_target this (value_parts b (seen old e) (seen_no_read old e (eqb-false e.code BANKED_READ h))).0

  taken_once : hits_below 4 GROUP_SIZE this ≡ one (is_done_check this)
  taken_once = by (e.code is BANKED_READ) refl
    where
      by : (t : Bool) → (e.code is BANKED_READ) ≡ t → hits_below 4 GROUP_SIZE this ≡ one (is_done_check this)
      by true h = summing.no_check this (reads (eqb-true e.code BANKED_READ h)).1
      by false h = summing.by_taken this (value_parts b (seen old e) (seen_no_read old e (eqb-false e.code BANKED_READ h))).1

-- ---- all Steps of a run

module _ (old : Bool) where
  every_step : (P : Step → Type 0) → ((b : List ℕ) (e : Event) → P (step_at old b e)) → (b : List ℕ) (es : List Event)
      → All P (steps_from (layout old) b es)
  unfolding steps_from
  every_step P h b [] = tt
  every_step P h b (e ∷ es) =
      let this = subst (λ (x : Answer). P (record { event = e; answer = x })) (wide-answer old b e) (h (wide old b) e) in
      (this, every_step P h ((layout old).after b e) es)

  length_steps : (b : List ℕ) (es : List Event) → length (steps_from (layout old) b es) ≡ length es
  unfolding steps_from
  length_steps b [] = refl
  length_steps b (e ∷ es) = ap suc (length_steps ((layout old).after b e) es)

  module _ (b : List ℕ) (es : List Event) where
    abbrev steps : List Step
    steps = steps_from (layout old) b es

    pub answers_add_up : total 2 steps ≡ length es
    answers_add_up =
        summing.adds_up 2 (λ (s : Step). true) steps
        (every_step (λ (s : Step). hits_below 2 GROUP_SIZE s ≡ one true)
        (λ c e. summing.by_answer (step_at old c e) (omega (arith, number_small c (seen old e)))) b es)
        ∙ summing.every steps ∙ length_steps b es

    pub codes_add_up : total 1 steps ≡ length es
    codes_add_up =
        summing.adds_up 1 (λ (s : Step). true) steps
        (every_step (λ (s : Step). hits_below 1 GROUP_SIZE s ≡ one true)
        (λ c e. summing.by_code (step_at old c e) (code_small e.code)) b es)
        ∙ summing.every steps ∙ length_steps b es

    pub targets_add_up : total 3 steps ≡ how_many is_entry steps
    targets_add_up =
        summing.adds_up 3 is_entry steps
        (every_step (λ (s : Step). hits_below 3 GROUP_SIZE s ≡ one (is_entry s)) (target_once old) b es)

    pub taken_add_up : total 4 steps ≡ how_many is_done_check steps
    taken_add_up =
        summing.adds_up 4 is_done_check steps
        (every_step (λ (s : Step). hits_below 4 GROUP_SIZE s ≡ one (is_done_check s)) (taken_once old) b es)
