-- What a caller of the step expects: it keeps the block's length, bytes stay bytes, and number and value are words.
use Rattle.std.specs.Prelude.{if◌then◌else◌}
use mathlib.Core.Path.{◌≡◌, refl, sym, ◌∙◌}
use mathlib.Core.Bool.{Bool, true, false, not, ◌&&◌}
use mathlib.Core.List.{List, [], ◌∷◌}
use Prim.Native.Nat.{ℕ, ◌*◌, ◌^◌, ◌<◌}
use native.Mathlib.Omega.{arith}
use lib.Dec.{ltb, lit<}
use borrow.Author.Tests.{eqb-true, ltb-true, lt-ltb}
use lib.ListN.{length}
use Rattle.words.specs.Word.{word, put, Bytes}
use Rattle.words.proofs.Laws.{length-put, bytes_put, spelt_fits}
use Rattle.state.specs.Choice.{◌is◌, Row, first_of}
use Rattle.state.specs.Field.{mode_field, without}
use Rattle.state.specs.Mode.{USER, HYP, MONITOR}
use Rattle.state.specs.Number.{DONE}
use Rattle.state.specs.Place.{CPSR, SCR, HCR, HDCR}
use Rattle.state.specs.State.{secure}
use Rattle.state.proofs.Test.{and_left, and_right, both}
use Rattle.entry.specs.Enter.{ns_cleared, written, entered}
use Rattle.entry.specs.Code.{is_synchronous}
use Rattle.entry.specs.Route as synchronous
use Rattle.entry.specs.Way.{Way, Barred, Enter}
use Rattle.entry.proofs.Debug.{here_routed}
use Rattle.entry.proofs.Targets.{chosen}
use Rattle.interrupts.specs.Check as interrupt
use Rattle.interrupts.proofs.Laws.{found_cases}
use Rattle.banked.specs.Cell.{cell}
use Rattle.interrupts.specs.Exception.{which}
use Rattle.interrupts.specs.declared.exception.Exception.{Exception}
use Rattle.interrupts.specs.declared.exception.Exception.TheVariants.{Synchronous, SError, Fiq, Irq}
use Rattle.interrupts.specs.declared.exception.Exception.TheVariants.{VirtualSError, VirtualFiq, VirtualIrq}
use Rattle.banked.specs.Right.{denied, own, reason, right}
use Rattle.rules.specs.declared.event.Event.{Event}
use Rattle.rules.specs.Parts.{Sound}
use Rattle.rules.specs.Refusal.{rows, refusal}
use Rattle.rules.specs.Step.{Action, Refuse, Take, Quiet, Read, Put, Return, taken_by, event_way, interrupt_way, checked_in}
use Rattle.rules.specs.Step.{done_action, va_cleared, answer_to, block_after, action, answer, after}
use Rattle.rules.specs.Verdict.{value}
use Rattle.rules.proofs.Carrying.{va_cases}
use Rattle.rules.proofs.Deciding.{known_code, by_code}
use Rattle.rules.proofs.Rows.{Passed, passed}
use Rattle.rules.proofs.Sound.{action_sound, target_small}

-- what every word put into a block keeps, an entry and a step keep
module _ (P : List ℕ → Type 0) (kept : (b : List ℕ) (p w : ℕ) → P b → P (put b p w)) where
  ns_keeps : (b : List ℕ) (to : ℕ) → P b → P (ns_cleared b to)
  unfolding ns_cleared
  ns_keeps b to h = by (mode_field (word b CPSR) is MONITOR && not (to is HYP))
    where
      by : (t : Bool) → P (if t then put b SCR (without 0 (word b SCR)) else b)
      by true = kept b SCR (without 0 (word b SCR)) h
      by false = h

  pub entered_keeps : (b : List ℕ) (to offset link : ℕ) → P b → P (entered b to offset link)
  unfolding entered written
  entered_keeps b to offset link h = kept _ _ _ (kept _ _ _ (kept _ _ _ (kept _ _ _ (ns_keeps b to h))))

  va_keeps : (b : List ℕ) (x : Exception) → P b → P (va_cleared b x)
  va_keeps b x h = va_cases P b x h (kept b HCR (without 8 (word b HCR)) h)

  pub action_keeps : (b : List ℕ) (x : Action) → P b → P (block_after b x)
  action_keeps b (Refuse n) h = h
  action_keeps b (Take x to offset link) h = entered_keeps (va_cleared b x) to offset link (va_keeps b x h)
  action_keeps b (Quiet lines) h = h
  action_keeps b (Read p) h = h
  action_keeps b (Put p w) h = kept b p w h
  action_keeps b (Return cpsr pc) h = kept _ _ _ (kept _ _ _ h)

  pub step_keeps : (b : List ℕ) (e : Event) → P b → P (after b e)
  unfolding after
  step_keeps b e h = action_keeps b (action b e) h

pub length_after : (b : List ℕ) (e : Event) → length (after b e) ≡ length b
length_after b e = step_keeps (λ c. length c ≡ length b) (λ c p w h. length-put c p w ∙ h) b e refl

pub bytes_after : (b : List ℕ) (e : Event) → Bytes b → Bytes (after b e)
bytes_after b e h = step_keeps Bytes bytes_put b e h

-- the numbers of a step are 0 to 7, 16 and 17
abbrev pub NUMBERS : ℕ
NUMBERS = 18

abbrev IsNumber : ℕ → Type 0
IsNumber n = n < NUMBERS

right_number : (p cpsr scr : ℕ) → IsNumber (right p cpsr scr)
unfolding right reason
right_number p cpsr scr =
    let m = mode_field cpsr in
    let why = chosen IsNumber (m is USER) (lit< tt) (chosen IsNumber (own p m) (lit< tt) (lit< tt)) in
    chosen IsNumber (denied p m (secure cpsr scr)) why (lit< tt)

-- the first row that applies has a number of one of the rows
abbrev numbered : List Row → Bool
numbered [] = true
numbered (r ∷ rs) = ltb r.number NUMBERS && numbered rs

first_number : (rs : List Row) (last : ℕ) → numbered rs ≡ true → IsNumber last → IsNumber (first_of rs last)
first_number [] last h l = l
first_number (r ∷ rs) last h l =
    chosen IsNumber r.applies (ltb-true r.number NUMBERS (and_left (ltb r.number NUMBERS) (numbered rs) h))
    (first_number rs last (and_right (ltb r.number NUMBERS) (numbered rs) h) l)

refusal_number : (b : List ℕ) (e : Event) → IsNumber (refusal b e)
unfolding refusal
refusal_number b e =
    let r = right (cell e.a) (word b CPSR) (word b SCR) in
    let small = lt-ltb r NUMBERS (right_number (cell e.a) (word b CPSR) (word b SCR)) in
    first_number (rows b e) DONE (both {a = ltb r NUMBERS} small refl) (lit< tt)

-- a way that is not barred
abbrev pub Enters : Way → Type 0
Enters (Barred n) = ⊥
Enters (Enter to offset link) = Unit {0}

pub interrupt_enters : (x : Exception) (cpsr scr hcr pc : ℕ) → (x ≡ Synchronous → ⊥) → Enters (interrupt.way x cpsr scr hcr pc)
unfolding interrupt.way
interrupt_enters Synchronous cpsr scr hcr pc n = n refl
interrupt_enters SError cpsr scr hcr pc n = tt
interrupt_enters Fiq cpsr scr hcr pc n = tt
interrupt_enters Irq cpsr scr hcr pc n = tt
interrupt_enters VirtualSError cpsr scr hcr pc n = tt
interrupt_enters VirtualFiq cpsr scr hcr pc n = tt
interrupt_enters VirtualIrq cpsr scr hcr pc n = tt

-- what a done step comes to is answered with DONE
way_number : (b : List ℕ) (x : Exception) (w : Way) → Enters w → (answer_to b (taken_by x w)).number ≡ DONE
way_number b x (Barred n) h = absurd h
way_number b x (Enter to offset link) h = refl

done_number : (b : List ℕ) (code a w : ℕ) → Passed b (record { code = code; a = a; b = w })
    → (answer_to b (done_action b (record { code = code; a = a; b = w }))).number ≡ DONE
unfolding synchronous.way
done_number b code a w p =
    by_code (λ x. (answer_to b x).number ≡ DONE) b code a w
    (λ e.
    found_cases (λ f. (answer_to b (checked_in b a f)).number ≡ DONE) a (word b CPSR) (word b SCR) (word b HCR) refl
    (λ x n t. way_number b x (interrupt_way b x) (interrupt_enters x _ _ _ _ n)))
    (λ e. refl) (λ e. refl) (λ e. refl) (λ e. refl)
    (λ o.
    let y = known_code code a w p.event o in
    way_number b Synchronous (event_way b code a) (enters y (rw y at p.here) (rw y at p.able)))
  where
    enters : is_synchronous code ≡ true → synchronous.not_here code a (word b CPSR) (word b SCR) ≡ false
        → synchronous.disabled code (word b CPSR) (word b SCR) (word b HCR) ≡ false
        → Enters (event_way b code a)
    enters y n d = rw (here_routed code a (word b CPSR) (word b SCR) (word b HDCR), y, n, d) tt

-- a done step answers DONE, and a refused one its number
pub number_is : (b : List ℕ) (e : Event) → (answer b e).number ≡ refusal b e
unfolding answer action
number_is b e = by (refusal b e is DONE) refl
  where
    by : (t : Bool) → (refusal b e is DONE) ≡ t
        → (answer_to b (if t then done_action b e else Refuse (refusal b e))).number ≡ refusal b e
    by true h =
        let z = eqb-true (refusal b e) DONE h in
        done_number b e.code e.a e.b (passed b e z) ∙ sym z
    by false h = refl

pub number_small : (b : List ℕ) (e : Event) → (answer b e).number < NUMBERS
number_small b e = rw (number_is b e) (refusal_number b e)

pub number_fits : (b : List ℕ) (e : Event) → (answer b e).number < 2 ^ 32
number_fits b e = omega (arith, number_small b e)

-- values are words
pub which_small : (x : Exception) → which x < 7
which_small Synchronous = lit< tt
which_small SError = lit< tt
which_small Fiq = lit< tt
which_small Irq = lit< tt
which_small VirtualSError = lit< tt
which_small VirtualFiq = lit< tt
which_small VirtualIrq = lit< tt

value_small : (b : List ℕ) (x : Action) → Sound x → Bytes b → (answer_to b x).value < 2 ^ 32
unfolding value
value_small b (Refuse n) s h = lit< tt
value_small b (Take x to offset link) s h =
    let w = which_small x in
    let t = target_small to s.0 in
    let o = s.1 in
    omega arith
value_small b (Quiet lines) s h = lit< tt
value_small b (Read p) s h = spelt_fits b (4 * p) h
value_small b (Put p w) s h = lit< tt
value_small b (Return cpsr pc) s h = lit< tt

pub value_fits : (b : List ℕ) (e : Event) → Bytes b → (answer b e).value < 2 ^ 32
unfolding answer
value_fits b e h = value_small b (action b e) (action_sound b e) h
