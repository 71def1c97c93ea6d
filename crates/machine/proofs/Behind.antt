-- An event that the old layout knows touches no byte behind the old block: every word that it writes lies before HDCR.
use Rattle.std.specs.Prelude.{Option, if◌then◌else◌}
use mathlib.Core.Path.{◌≡◌, refl, ◌∙◌}
use mathlib.Core.Bool.{Bool, true, false, not, ◌&&◌, ◌||◌}
use mathlib.Core.List.{List}
use Prim.Native.Nat.{ℕ, ◌<◌}
use native.Mathlib.Omega.{arith}
use borrow.Author.Tests.{eqb-true, eqb-false}
use lib.ListN.{drop}
use Rattle.words.specs.Word.{word, put}
use Rattle.words.proofs.Laws.{drop-put}
use Rattle.state.specs.Choice.{◌is◌}
use Rattle.state.specs.Field.{without, mode_field}
use Rattle.state.specs.Mode.{MONITOR, HYP, is_target, spsr_place, lr_place}
use Rattle.state.specs.Number.{DONE}
use Rattle.state.specs.Place.{PLACES, OLD_BLOCK_SIZE, CPSR, PC, SCR, HCR, HDCR}
use Rattle.state.proofs.Test.{true_is_not_false}
use Rattle.entry.specs.Code.{PREFETCH_ABORT}
use Rattle.entry.specs.Enter.{ns_cleared, written, entered}
use Rattle.entry.specs.Way.{Way, Barred, Enter}
use Rattle.entry.proofs.Entered.{spsr_low, lr_low}
use Rattle.interrupts.specs.declared.exception.Exception.{Exception}
use Rattle.interrupts.proofs.Laws.{found_cases}
use Rattle.rules.specs.Event.{NOTE}
use Rattle.rules.specs.Known.{DEBUG, unknown_to_old}
use Rattle.rules.specs.Parts.{Sound}
use Rattle.rules.specs.Refusal.{refusal}
use Rattle.rules.specs.Step.{Action, Refuse, Take, Quiet, Read, Put, Return, taken_by, checked_in, event_way, interrupt_way, va_cleared}
use Rattle.rules.specs.Step.{done_action, action, block_after, after}
use Rattle.rules.specs.declared.event.Event.{Event}
use Rattle.rules.proofs.Carrying.{va_cases}
use Rattle.rules.proofs.Deciding.{by_code}
use Rattle.rules.proofs.Rows.{Passed, passed}
use Rattle.rules.proofs.Sound.{action_sound, inside_registers, note_a, write_a}

-- the bytes behind the old block
abbrev Behind : List ℕ → List ℕ
Behind = drop OLD_BLOCK_SIZE

-- a word that is put before HDCR leaves them
put_behind : (b : List ℕ) (p w : ℕ) → p < HDCR → Behind (put b p w) ≡ Behind b
put_behind b p w l = drop-put b p w OLD_BLOCK_SIZE (omega arith)

-- and so does an entry, and the clearing of NS and of VA
ns_behind : (b : List ℕ) (to : ℕ) → Behind (ns_cleared b to) ≡ Behind b
unfolding ns_cleared
ns_behind b to = by (mode_field (word b CPSR) is MONITOR && not (to is HYP))
  where
    by : (t : Bool) → Behind (if t then put b SCR (without 0 (word b SCR)) else b) ≡ Behind b
    by true = put_behind b SCR _ (omega arith)
    by false = refl

entered_behind : (b : List ℕ) (to offset link : ℕ) → is_target to ≡ true → Behind (entered b to offset link) ≡ Behind b
unfolding entered written
entered_behind b to offset link t =
    let s = spsr_low to t in
    let l = lr_low to t in
    put_behind _ PC _ (omega arith)
    ∙ put_behind _ CPSR _ (omega arith)
    ∙ put_behind _ (lr_place to) link (omega arith)
    ∙ put_behind _ (spsr_place to) _ (omega arith)
    ∙ ns_behind b to

va_behind : (b : List ℕ) (x : Exception) → Behind (va_cleared b x) ≡ Behind b
va_behind b x = va_cases (λ c. Behind c ≡ Behind b) b x refl (put_behind b HCR _ (omega arith))

-- so does every action that puts no word at HDCR
abbrev Below : Action → Type 0
Below (Refuse n) = Unit {0}
Below (Take x to offset link) = Unit {0}
Below (Quiet lines) = Unit {0}
Below (Read p) = Unit {0}
Below (Put p w) = p < HDCR
Below (Return cpsr pc) = Unit {0}

action_behind : (b : List ℕ) (x : Action) → Sound x → Below x → Behind (block_after b x) ≡ Behind b
action_behind b (Refuse n) s h = refl
action_behind b (Take x to offset link) s h = entered_behind (va_cleared b x) to offset link s.0 ∙ va_behind b x
action_behind b (Quiet lines) s h = refl
action_behind b (Read p) s h = refl
action_behind b (Put p w) s h = put_behind b p w h
action_behind b (Return cpsr pc) s h = put_behind _ PC pc (omega arith) ∙ put_behind b CPSR cpsr (omega arith)

-- and that is every event that the old layout knows
taken_below : (x : Exception) (w : Way) → Below (taken_by x w)
taken_below x (Barred n) = tt
taken_below x (Enter to offset link) = tt

not_there : (p : ℕ) → p < PLACES → (p is HDCR) ≡ false → p < HDCR
not_there p l n = let d = eqb-false p HDCR n in omega arith

second_of : (x y : Bool) → (x || y) ≡ false → y ≡ false
second_of true y h = absurd (true_is_not_false refl h)
second_of false y h = h

done_below : (b : List ℕ) (code a w : ℕ) → Passed b (record { code = code; a = a; b = w })
    → unknown_to_old (record { code = code; a = a; b = w }) ≡ false → Below (done_action b (record { code = code; a = a; b = w }))
done_below b code a w p known =
    by_code Below b code a w
    (λ e. found_cases (λ (f : Option Exception). Below (checked_in b a f)) a (word b CPSR) (word b SCR) (word b HCR) tt
    (λ x k t. taken_below x (interrupt_way b x)))
    (λ e. tt)
    (λ e. let i = inside_registers a (write_a a w (rw e at p.event)) (rw e at p.register) in omega arith)
    (λ e.
    let note = rw e at (second_of (code is PREFETCH_ABORT && a is DEBUG) (code is NOTE && a is HDCR) known) in
    not_there a (note_a a w (rw e at p.event)) note)
    (λ e. tt)
    (λ o. taken_below _ (event_way b code a))

pub behind_stays : (b : List ℕ) (e : Event) → unknown_to_old e ≡ false → drop OLD_BLOCK_SIZE (after b e) ≡ drop OLD_BLOCK_SIZE b
unfolding after action
behind_stays b e known = action_behind b (action b e) (action_sound b e) (by (refusal b e is DONE) refl)
  where
    by : (t : Bool) → (refusal b e is DONE) ≡ t → Below (if t then done_action b e else Refuse (refusal b e))
    by true h = done_below b e.code e.a e.b (passed b e (eqb-true (refusal b e) DONE h)) known
    by false h = tt
