-- The code judges the block, then the event, then what the code of the event can still be refused for: on each of these
-- ways it comes to what the rows of refusals and the rules say.
use Rattle.std.specs.Prelude.{if◌then◌else◌}
use mathlib.Core.Path.{◌≡◌, refl, sym, ap, ◌∙◌}
use mathlib.Core.Bool.{Bool, true, false, not, ◌&&◌, ◌||◌, or-false}
use mathlib.Core.List.{List}
use Prim.Native.Nat.{ℕ, ◌^◌, ◌<◌}
use native.Mathlib.Omega.{arith}
use lib.Dec.{leb, lit<}
use lib.ListN.{length}
use borrow.Author.Tests.{eqb-true, eqb-false, eq-eqb, leb-false, not-true, not-false}
use Rattle.words.specs.Word.{word, put}
use Rattle.words.proofs.Laws.{word-put_same, word-put_other}
use Rattle.state.specs.Choice.{◌is◌, ◌among◌}
use Rattle.state.specs.Field.{mode_field}
use Rattle.state.specs.Mode.{HYP}
use Rattle.state.specs.Number.{DONE, BAD_SIZE, BAD_STATE, BAD_EVENT, NOT_HERE, NO_REGISTER}
use Rattle.state.specs.Place.{PLACES, BLOCK_SIZE, NO_PLACE, CPSR, SCR, HCR, HDCR}
use Rattle.state.specs.State.{fault, fault_of}
use Rattle.state.proofs.Good.{fault_rows, no_row}
use Rattle.state.proofs.Sets.{among_append}
use Rattle.state.proofs.Test.{at_one, refuted, true_is_not_false}
use Rattle.entry.specs.Code.{synchronous_codes, other_codes, is_synchronous}
use Rattle.entry.specs.Route as synchronous
use Rattle.entry.proofs.Debug.{here_routed}
use Rattle.interrupts.specs.declared.exception.Exception.TheVariants.{Synchronous}
use Rattle.banked.specs.Cell.{cell}
use Rattle.banked.specs.Right.{right}
use Rattle.returns.specs.Return.{taken_off, wrong_a, has_saved}
use Rattle.rules.specs.Event.{Event, INTERRUPT_CHECK, BANKED_READ, BANKED_WRITE, NOTE, RETURN, OFF_VALUES}
use Rattle.rules.specs.Event.{is_known, values_of_a, takes_b, bad_event}
use Rattle.rules.specs.Parts.{judged_put}
use Rattle.rules.specs.Refusal.{unknown_mode, not_good, bad_return, refusal}
use Rattle.rules.specs.Step.{Action, Refuse, Read, Put, taken_by, routed_in, event_way, found_in, checked_in, returned, done_action}
use Rattle.rules.specs.Step.{action}

-- an event by its three words
abbrev pub event : ℕ → ℕ → ℕ → Event
event code a w = record { code = code; a = a; b = w }

-- a block with no fault has a known mode and is good, and one with a fault is refused with it
pub fault_rows_lem : (b : List ℕ) → fault b ≡ fault_rows (unknown_mode b) (not_good b)
unfolding fault fault_of
fault_rows_lem b = refl

pub fault_clear : (b : List ℕ) → fault b ≡ DONE → (unknown_mode b ≡ false) × (not_good b ≡ false)
fault_clear b h = no_row (unknown_mode b) (not_good b) (sym (fault_rows_lem b) ∙ h)

module _ (b : List ℕ) (e : Event) where
  pub bad_size : (length b is BLOCK_SIZE) ≡ false → Refuse BAD_SIZE ≡ action b e
  unfolding action refusal
  bad_size s = rw s

  pub faulty : length b ≡ BLOCK_SIZE → (fault b ≡ DONE → ⊥) → Refuse (fault b) ≡ action b e
  unfolding action refusal fault fault_of
  faulty s h = by (unknown_mode b) (not_good b) refl refl
    where
      by : (k g : Bool) → unknown_mode b ≡ k → not_good b ≡ g → Refuse (fault b) ≡ action b e
      by true g p q = rw (eq-eqb (length b) BLOCK_SIZE s, p)
      by false true p q = rw (eq-eqb (length b) BLOCK_SIZE s, p, q)
      by false false p q = absurd (h (rw (p, q)))

not_left : (x y : Bool) → (not x || y) ≡ false → x ≡ true
not_left true y h = refl
not_left false y h = sym h

-- a code that a test tells from another is not that one; antt computes the test of each
pub unlike : (test : ℕ → Bool) {t : Bool} (code n : ℕ) → test code ≡ t → test n ≡ not t → (code is n) ≡ false
unlike test code n k h = refuted (code is n) (λ e. never (sym k ∙ ap test (eqb-true code n e) ∙ h))
  where
    never : {t : Bool} → t ≡ not t → ⊥
    never {t = true} z = true_is_not_false refl z
    never {t = false} z = true_is_not_false z refl

-- so the code of a synchronous event is none of the others
pub other : (code : ℕ) → is_synchronous code ≡ true → (n : ℕ) → is_synchronous n ≡ false → (code is n) ≡ false
other code k n h = unlike is_synchronous code n k h

-- a well formed event whose code is none of these is synchronous
pub known_code : (code a w : ℕ) → bad_event code a w ≡ false → (code among other_codes) ≡ false → is_synchronous code ≡ true
unfolding bad_event
known_code code a w h o =
    let k = not_left (is_known code) (leb (values_of_a code) a || (not (takes_b code) && not (w is 0))) h in
    let s : (is_synchronous code || code among other_codes) ≡ true =
    sym (among_append code synchronous_codes other_codes) ∙ k in
    sym (or-false (is_synchronous code)) ∙ rw o at s

-- what holds of each event's own action holds of what a done step comes to
if_is : (P : Action → Type 0) (n k : ℕ) {x y : Action} → (n ≡ k → P x) → ((n is k) ≡ false → P y)
    → P (if n is k then x else y)
if_is P n k {x} {y} f g = by (n is k) refl
  where
    by : (t : Bool) → (n is k) ≡ t → P (if t then x else y)
    by true e = f (eqb-true n k e)
    by false e = g e

pub by_code : (P : Action → Type 0) (b : List ℕ) (code a w : ℕ) → (code ≡ INTERRUPT_CHECK → P (checked_in b a (found_in b a)))
    → (code ≡ BANKED_READ → P (Read (cell a))) → (code ≡ BANKED_WRITE → P (Put (cell a) w)) → (code ≡ NOTE → P (Put a w))
    → (code ≡ RETURN → P (returned b a))
    → ((code among other_codes) ≡ false → P (taken_by Synchronous (event_way b code a))) → P (done_action b (event code a w))
unfolding done_action
by_code P b code a w check read write note return taken =
    if_is P code INTERRUPT_CHECK check
    (λ n9.
    if_is P code BANKED_READ read
    (λ n10.
    if_is P code BANKED_WRITE write
    (λ n11.
    if_is P code NOTE note (λ n12. if_is P code RETURN return (λ n13. taken (rw (n9, n10, n11, n12, n13)))))))

-- an action, unless the number refuses it
abbrev judged : ℕ → Action → Action
judged n x = if n is DONE then x else Refuse n

-- a banked access at the place p, by its right: no register, no right, or the access x itself
unfoldable pub accessed : ℕ → ℕ → Action → Action
accessed p n x = if p is NO_PLACE then Refuse NO_REGISTER else judged n x

-- the same by the number of the row that applies
accessed_by : (none : Bool) (n : ℕ) (x : Action)
    → (if none then Refuse NO_REGISTER else judged n x)
    ≡ judged (if none then NO_REGISTER else (if not (n is DONE) then n else DONE)) x
accessed_by true n x = refl
accessed_by false n x = by (n is DONE) refl
  where
    by : (t : Bool) → (n is DONE) ≡ t → judged n x ≡ judged (if not (n is DONE) then n else DONE) x
    by true e = rw e
    by false e = rw (e, e)

-- the word u of the place p, once the word v is put at the place a
abbrev pub noted_word : ℕ → ℕ → ℕ → ℕ → ℕ
noted_word a v p u = if a is p then v else u

-- a return by its tests: a bad saved word, wrong operands, no saved word, or the return x itself
abbrev pub returned_by : Bool → Bool → Bool → Action → Action
returned_by bad wrong none x =
    if bad then Refuse BAD_STATE else
    if wrong then Refuse BAD_EVENT else
    if none then Refuse NOT_HERE else
    x

-- what a return takes off is small
off_small : (cpsr a : ℕ) → wrong_a cpsr a ≡ false → leb OFF_VALUES a ≡ false
unfolding wrong_a
off_small cpsr a h = by (mode_field cpsr is HYP) h
  where
    by : (hyp : Bool) → (if hyp then not (a is 0) else not (a among taken_off)) ≡ false → leb OFF_VALUES a ≡ false
    by true e = rw (eqb-true a 0 (not-false (a is 0) e))
    by false e =
        not-true (leb OFF_VALUES a) (at_one taken_off (λ n. not (leb OFF_VALUES n)) refl a (not-false (a among taken_off) e))

or_right : (x y : Bool) → (x || y) ≡ false → y ≡ false
or_right true y h = absurd (true_is_not_false refl h)
or_right false y h = h

-- so what is wrong with a return whose A may be taken off is its B
right_b : (a w : ℕ) → bad_event RETURN a w ≡ false → not (w is 0) ≡ false
unfolding bad_event
right_b a w h = or_right (leb OFF_VALUES a) (not (w is 0)) h

wrong_b : (cpsr a w : ℕ) → bad_event RETURN a w ≡ true → wrong_a cpsr a ≡ false → not (w is 0) ≡ true
unfolding bad_event
wrong_b cpsr a w h e = rw (off_small cpsr a e) at h

-- an event on a good block of the right size
module _ (b : List ℕ) (a w : ℕ) (size : length b ≡ BLOCK_SIZE) (good : fault b ≡ DONE) where
  s : (length b is BLOCK_SIZE) ≡ true
  s = eq-eqb (length b) BLOCK_SIZE size

  k : unknown_mode b ≡ false
  k = (fault_clear b good).0

  g : not_good b ≡ false
  g = (fault_clear b good).1

  -- a return can be refused before its operands are looked at
  pub bad_event_lem : (code : ℕ) → (code is RETURN) ≡ false → bad_event code a w ≡ true → Refuse BAD_EVENT ≡ action b (event code a w)
  unfolding action refusal
  bad_event_lem code n h = rw (s, k, g, n, h)

  -- a code that is none of the table's
  pub no_code : (code : ℕ) → is_known code ≡ false → Refuse BAD_EVENT ≡ action b (event code a w)
  unfolding bad_event
  no_code code h = bad_event_lem code (unlike is_known code RETURN h refl) (rw h)

  pub at_check : bad_event INTERRUPT_CHECK a w ≡ false → checked_in b a (found_in b a) ≡ action b (event INTERRUPT_CHECK a w)
  unfolding action refusal done_action
  at_check h = rw (s, k, g, h)

  abbrev right_here : ℕ
  right_here = right (cell a) (word b CPSR) (word b SCR)

  pub at_read : bad_event BANKED_READ a w ≡ false
      → accessed (cell a) (right (cell a) (word b CPSR) (word b SCR)) (Read (cell a)) ≡ action b (event BANKED_READ a w)
  unfolding action refusal done_action accessed
  at_read h = rw (s, k, g, h) (accessed_by (cell a is NO_PLACE) right_here (Read (cell a)))

  pub at_write : bad_event BANKED_WRITE a w ≡ false
      → accessed (cell a) (right (cell a) (word b CPSR) (word b SCR)) (Put (cell a) w) ≡ action b (event BANKED_WRITE a w)
  unfolding action refusal done_action accessed
  at_write h = rw (s, k, g, h) (accessed_by (cell a is NO_PLACE) right_here (Put (cell a) w))

  -- the words of the block that a note would make
  noted_word_lem : (p : ℕ) → p < PLACES → a < PLACES → w < 2 ^ 32 → word (put b a w) p ≡ noted_word a w p (word b p)
  noted_word_lem p lp la lw = by (a is p) refl
    where
      by : (t : Bool) → (a is p) ≡ t → word (put b a w) p ≡ noted_word a w p (word b p)
      by true e =
          let q = eqb-true a p e in
          rw (e, ← q) (word-put_same b a w (omega arith) lw)
      by false e = rw e (word-put_other b a w p (eqb-false a p e))

  abbrev noted_fault : ℕ
  noted_fault =
      fault_of (noted_word a w CPSR (word b CPSR)) (noted_word a w SCR (word b SCR)) (noted_word a w HCR (word b HCR))

  noted_fault_lem : a < PLACES → w < 2 ^ 32 → noted_fault ≡ fault_rows (unknown_mode (put b a w)) (not_good (put b a w))
  unfolding fault
  noted_fault_lem la lw =
      rw
      (← noted_word_lem CPSR (lit< tt) la lw, ← noted_word_lem SCR (lit< tt) la lw, ← noted_word_lem HCR (lit< tt) la lw)
      (fault_rows_lem (put b a w))

  note_in_range : bad_event NOTE a w ≡ false → leb PLACES a ≡ false
  unfolding bad_event
  note_in_range h = sym (or-false (leb PLACES a)) ∙ h

  pub at_note : w < 2 ^ 32 → bad_event NOTE a w ≡ false
      → judged_put a w
      (fault_of (noted_word a w CPSR (word b CPSR)) (noted_word a w SCR (word b SCR)) (noted_word a w HCR (word b HCR)))
      ≡ action b (event NOTE a w)
  unfolding action refusal done_action judged_put
  at_note lw h =
      let la : a < PLACES = leb-false PLACES a (note_in_range h) in
      rw (noted_fault_lem la lw, s, k, g, h)

  -- a return: refused for its saved word, for its operands, for want of a saved word, or done
  pub at_return : returned_by (bad_return b) (wrong_a (word b CPSR) a || not (w is 0)) (not (has_saved b)) (returned b a)
      ≡ action b (event RETURN a w)
  unfolding action refusal done_action
  at_return = by (bad_return b) (bad_event RETURN a w) (wrong_a (word b CPSR) a) (has_saved b) refl refl refl refl
    where
      by : (unfit bad wrong has : Bool) → bad_return b ≡ unfit → bad_event RETURN a w ≡ bad → wrong_a (word b CPSR) a ≡ wrong
          → has_saved b ≡ has
          → returned_by (bad_return b) (wrong_a (word b CPSR) a || not (w is 0)) (not (has_saved b)) (returned b a)
          ≡ action b (event RETURN a w)
      by true bad wrong has p q r t = rw (s, k, g, p)
      by false true true has p q r t = rw (s, k, g, p, q, r)
      by false true false has p q r t = rw (s, k, g, p, q, r, wrong_b (word b CPSR) a w q r)
      by false false true has p q r t = rw (s, k, g, p, q, r)
      by false false false true p q r t = rw (s, k, g, p, q, r, right_b a w q, t)
      by false false false false p q r t = rw (s, k, g, p, q, r, right_b a w q, t)

  -- a synchronous event: not here, disabled, or on its way
  pub at_synchronous : (code : ℕ) → bad_event code a w ≡ false → is_synchronous code ≡ true
      → taken_by Synchronous (event_way b code a) ≡ action b (event code a w)
  unfolding action refusal done_action synchronous.way
  at_synchronous code h y =
      by (synchronous.not_here code a (word b CPSR) (word b SCR)) (synchronous.disabled code (word b CPSR) (word b SCR) (word b HCR))
      refl refl
    where
      none : (n : ℕ) → is_synchronous n ≡ false → (code is n) ≡ false
      none = other code y

      here : synchronous.not_here code (routed_in b code a) (word b CPSR) (word b SCR)
          ≡ synchronous.not_here code a (word b CPSR) (word b SCR)
      here = here_routed code a (word b CPSR) (word b SCR) (word b HDCR)

      by : (t d : Bool) → synchronous.not_here code a (word b CPSR) (word b SCR) ≡ t
          → synchronous.disabled code (word b CPSR) (word b SCR) (word b HCR) ≡ d
          → taken_by Synchronous (event_way b code a) ≡ action b (event code a w)
      by true d e f = rw (here, s, k, g, none RETURN refl, h, y, e)
      by false true e f = rw (here, s, k, g, none RETURN refl, h, y, e, f)
      by false false e f =
          rw (
            here,
            s,
            k,
            g,
            none RETURN refl,
            h,
            y,
            e,
            f,
            none INTERRUPT_CHECK refl,
            none BANKED_READ refl,
            none BANKED_WRITE refl,
            none NOTE refl,
          )

-- the fault of the words that were read is the block's
pub fault_read : (b : List ℕ) {n cpsr scr hcr : ℕ} → cpsr ≡ word b CPSR → scr ≡ word b SCR → hcr ≡ word b HCR
    → n ≡ fault_of cpsr scr hcr → n ≡ fault b
unfolding fault
fault_read b ec es eh h = rw (← ec, ← es, ← eh) h
