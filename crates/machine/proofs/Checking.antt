-- An interrupt check takes the first exception that is pending and not masked: by what is found, the answer and the block
-- are those of its entry, or nothing is taken.
use Rattle.std.specs.Prelude.{Option, None, Some, if◌then◌else◌}
use mathlib.Core.Path.{◌≡◌, refl, sym, ap, ◌∙◌}
use mathlib.Core.Bool.{Bool, true, false, not}
use mathlib.Core.List.{List, [], ◌∷◌}
use mathlib.Core.Logic.{◌↔◌, inl, inr}
use Prim.Native.Nat.{ℕ, ◌+◌, ◌*◌, ◌/◌, ◌<◌}
use native.Mathlib.Omega.{arith}
use lib.Dec.{lit<}
use borrow.Author.Tests.{not-true, eq-eqb}
use Rattle.words.specs.Word.{word}
use Rattle.state.specs.Choice.{◌is◌}
use Rattle.state.specs.Number.{DONE}
use Rattle.state.specs.Place.{CPSR, PC, SCR, HCR}
use Rattle.state.proofs.Test.{and_left, and_right, both, true_is_not_false}
use Rattle.entry.specs.Way.{Way, Barred, Enter}
use Rattle.interrupts.specs.Check as interrupt
use Rattle.interrupts.specs.Exception.{which, order}
use Rattle.interrupts.specs.Takeable.{pending, masked, takeable}
use Rattle.interrupts.specs.declared.exception.Exception.{Exception}
use Rattle.interrupts.specs.declared.exception.Exception.TheVariants.{Synchronous, SError, Fiq, Irq}
use Rattle.interrupts.specs.declared.exception.Exception.TheVariants.{VirtualSError, VirtualFiq, VirtualIrq}
use Rattle.rules.specs.Event.{INTERRUPT_CHECK}
use Rattle.rules.specs.Refusal.{refusal}
use Rattle.rules.specs.Step.{Action, Take, taken_by, interrupt_way, found_in, checked_in, done_action, action, answer_to}
use Rattle.rules.specs.Step.{block_after, answer, after}
use Rattle.rules.specs.Verdict.{value}
use Rattle.rules.specs.declared.event.Event.{Event}
use Rattle.rules.specs.declared.verdict.Answer.{Answer}
use Rattle.rules.proofs.Sound.{SoundWay, interrupt_sound, target_small}
use Rattle.rules.specs.Parts.{Sound}
use Rattle.machine.specs.Claims.{OneOf, TheFirst, this, another, CanBeTaken, EntersBy, Takes, TakesNothing}
use Rattle.machine.proofs.Laws.{interrupt_enters}

-- ---- the first of a list

pub first_is : {P : Exception → Type 0} (xs : List Exception) {x : Exception} → TheFirst P xs x → P x
first_is {P = P} [] t = elim t [ ]
first_is (x ∷ xs) (this p) = p
first_is (y ∷ xs) (another n t) = first_is xs t

one_of : {P : Exception → Type 0} (xs : List Exception) {x : Exception} → TheFirst P xs x → OneOf P xs
one_of {P = P} [] t = elim t [ ]
one_of (x ∷ xs) (this p) = inl p
one_of (y ∷ xs) (another n t) = inr (one_of xs t)

-- ---- an exception by its number

abbrev numbered : ℕ → Exception
numbered n =
    if n is 1 then SError else
    if n is 2 then Fiq else
    if n is 3 then Irq else
    if n is 4 then VirtualSError else
    if n is 5 then VirtualFiq else
    if n is 6 then VirtualIrq else
    Synchronous

its_number : (x : Exception) → numbered (which x) ≡ x
its_number Synchronous = refl
its_number SError = refl
its_number Fiq = refl
its_number Irq = refl
its_number VirtualSError = refl
its_number VirtualFiq = refl
its_number VirtualIrq = refl

-- one that goes a way is one of the six
goes_somewhere : (x : Exception) (cpsr scr hcr pc : ℕ) {to offset link : ℕ} → interrupt.way x cpsr scr hcr pc ≡ Enter to offset link
    → 0 < which x
unfolding interrupt.way
goes_somewhere Synchronous cpsr scr hcr pc e = let z : ◌≡◌ {A = ℕ} 0 1 = cc in omega arith
goes_somewhere SError cpsr scr hcr pc e = lit< tt
goes_somewhere Fiq cpsr scr hcr pc e = lit< tt
goes_somewhere Irq cpsr scr hcr pc e = lit< tt
goes_somewhere VirtualSError cpsr scr hcr pc e = lit< tt
goes_somewhere VirtualFiq cpsr scr hcr pc e = lit< tt
goes_somewhere VirtualIrq cpsr scr hcr pc e = lit< tt

module _ (b : List ℕ) (e : Event) where
  abbrev can : Exception → Bool
  can x = takeable x e.a (word b CPSR) (word b SCR) (word b HCR)

  abbrev routed : Exception → Way
  routed x = interrupt_way b x

  pub can_be : (x : Exception) → can x ≡ true → CanBeTaken b e x
  unfolding takeable
  can_be x h =
      let p = pending x e.a (word b CPSR) (word b SCR) (word b HCR) in
      let m = masked x (word b CPSR) (word b SCR) (word b HCR) in
      record { is_pending = and_left p (not m) h; not_masked = not-true m (and_right p (not m) h) }

  cannot : (x : Exception) → can x ≡ false → CanBeTaken b e x → ⊥
  unfolding takeable
  cannot x h t = true_is_not_false (both t.is_pending (ap not t.not_masked)) h

  -- a synchronous exception is never pending
  not_synchronous : (x : Exception) → CanBeTaken b e x → x ≡ Synchronous → ⊥
  unfolding pending
  not_synchronous x t h = true_is_not_false (rw h at t.is_pending) refl

  -- ---- what is found

  abbrev Says : List Exception → Option Exception → Type 0
  Says xs None = OneOf (CanBeTaken b e) xs → ⊥
  Says xs (Some x) = TheFirst (CanBeTaken b e) xs x

  says : (xs : List Exception) → Says xs (interrupt.first_of xs e.a (word b CPSR) (word b SCR) (word b HCR))
  says [] = λ o. o
  says (x ∷ xs) = by (can x) refl _ (says xs)
    where
      by : (t : Bool) → can x ≡ t → (f : Option Exception) → Says xs f → Says (x ∷ xs) (if t then Some x else f)
      by true h f s = this (can_be x h)
      by false h (Some y) s = another (cannot x h) s
      by false h None s = none
        where
          none : OneOf (CanBeTaken b e) (x ∷ xs) → ⊥
          none (inl p) = cannot x h p
          none (inr o) = s o

  abbrev found : Option Exception
  found = found_in b e.a

  found_says : Says order found
  unfolding interrupt.found
  found_says = says order

  -- ---- the step

  -- an entry's value is which exception it was, and two parts that are small
  module _ {x : Exception} (p : EntersBy b e x) where
    sound : Sound (Take x p.to p.offset p.link)
    sound = told p.routing (interrupt_sound x (word b CPSR) (word b SCR) (word b HCR) (word b PC))
      where
        told : {w : Way} → w ≡ Enter p.to p.offset p.link → SoundWay w → SoundWay (Enter p.to p.offset p.link)
        told q h = rw q at h

    value_is : (answer b e).value ≡ which x * 65536 + p.to * 256 + p.offset
    unfolding value
    value_is = ap (λ (r : Answer). r.value) p.answers

    which_is : (answer b e).value / 65536 ≡ which x
    which_is =
        let t = target_small p.to sound.0 in
        let o = sound.1 in
        let v = value_is in
        omega arith

  -- two entries of one answer are of one exception
  same_exception : {x y : Exception} → EntersBy b e x → EntersBy b e y → x ≡ y
  same_exception {x} {y} p q =
      sym (its_number x) ∙ ap numbered (sym (which_is p) ∙ which_is q) ∙ its_number y

  -- and an answer of an entry is not that of nothing taken
  not_nothing : {x : Exception} → EntersBy b e x → TakesNothing b e → ⊥
  not_nothing {x} p n =
      let w = which_is p in
      let some = goes_somewhere x _ _ _ _ p.routing in
      let zero = n.value in
      omega arith

  module _ (done : refusal b e ≡ DONE) (check : e.code ≡ INTERRUPT_CHECK) where
    is_checked : action b e ≡ checked_in b e.a found
    unfolding action done_action
    is_checked = rw (eq-eqb (refusal b e) DONE done, check)

    -- what it comes to, by what is found
    abbrev Outcome : Option Exception → Type 0
    Outcome None = TakesNothing b e × (OneOf (CanBeTaken b e) order → ⊥)
    Outcome (Some x) = EntersBy b e x × TheFirst (CanBeTaken b e) order x

    outcome : Outcome found
    unfolding answer after value
    outcome = by found refl found_says
      where
        nothing : found ≡ None → TakesNothing b e
        nothing h =
            let a = is_checked ∙ ap (checked_in b e.a) h in
            record {
              number = ap (λ (x : Action). (answer_to b x).number) a;
              value = ap (λ (x : Action). (answer_to b x).value) a;
              leaves = ap (block_after b) a;
            }

        enters : (x : Exception) → found ≡ Some x → (x ≡ Synchronous → ⊥) → EntersBy b e x
        enters x h n = on (routed x) refl
          where
            on : (w : Way) → routed x ≡ w → EntersBy b e x
            on (Barred k) q = absurd (rw q at (interrupt_enters x (word b CPSR) (word b SCR) (word b HCR) (word b PC) n))
            on (Enter to offset link) q =
                let a : action b e ≡ Take x to offset link =
                is_checked ∙ ap (checked_in b e.a) h ∙ ap (taken_by x) q in
                record {
                  to = to;
                  offset = offset;
                  link = link;
                  routing = q;
                  answers = ap (answer_to b) a;
                  leaves = ap (block_after b) a;
                }

        by : (f : Option Exception) → found ≡ f → Says order f → Outcome f
        by None h s = (nothing h, s)
        by (Some x) h s = (enters x h (not_synchronous x (first_is order s)), s)

    -- ---- in the customer's words

    exactly' : (f : Option Exception) → Outcome f → Takes b e ↔ OneOf (CanBeTaken b e) order
    exactly' None (n, none) = (λ t. absurd (not_nothing t.entry n), λ o. absurd (none o))
    exactly' (Some x) (p, first) = (λ t. one_of order first, λ o. record { exception = x; entry = p })

    pub exactly : Takes b e ↔ OneOf (CanBeTaken b e) order
    exactly = exactly' found outcome

    pub the_first : (x : Exception) → EntersBy b e x → TheFirst (CanBeTaken b e) order x
    the_first x p = by found outcome
      where
        by : (f : Option Exception) → Outcome f → TheFirst (CanBeTaken b e) order x
        by None (n, none) = absurd (not_nothing p n)
        by (Some y) (q, first) = rw (same_exception p q) first

    pub quiet : (OneOf (CanBeTaken b e) order → ⊥) → TakesNothing b e
    quiet none = by found outcome
      where
        by : (f : Option Exception) → Outcome f → TakesNothing b e
        by None (n, s) = n
        by (Some x) (p, first) = absurd (none (one_of order first))
