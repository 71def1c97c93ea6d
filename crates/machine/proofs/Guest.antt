-- A Non-secure EL1 mode is allowed no access at an exempt place, which is tried at each of the 64 cells and in each of the six modes:
-- so an access comes to the same on two blocks that are alike outside, and reads and writes there alone.
use Rattle.std.specs.Prelude.{if◌then◌else◌}
use mathlib.Core.Path.{◌≡◌, refl, sym, ap, ◌∙◌}
use mathlib.Core.Bool.{Bool, true, false, not}
use mathlib.Core.List.{List, [], ◌∷◌}
use Prim.Native.Nat.{ℕ, zero, suc, ◌+◌, ◌*◌, ◌<◌}
use native.Mathlib.Omega.{arith}
use lib.ListN.{length, take}
use borrow.Author.Tests.{eqb-true, eqb-false, not-true}
use Rattle.words.specs.Word.{spelt, word, put}
use Rattle.words.proofs.Laws.{length-put, byte_other, byte_alike, word-put_other}
use Rattle.state.specs.Choice.{◌is◌}
use Rattle.state.specs.Field.{mode_field}
use Rattle.state.specs.Mode.{el1_modes, el1}
use Rattle.state.specs.Number.{DONE, BAD_EVENT, NO_REGISTER}
use Rattle.state.specs.Place.{PLACES, BLOCK_SIZE, NO_PLACE, CPSR, SCR, HCR}
use Rattle.state.specs.State.{secure, fault}
use Rattle.state.proofs.Test.{true_is_not_false, implies, implied, every_below, at_below, every_of, at_one}
use Rattle.banked.specs.Cell.{CELL_VALUES, cell}
use Rattle.banked.specs.Right.{denied, reason, right}
use Rattle.banked.proofs.Reasons.{reason_refuses}
use Rattle.rules.specs.Event.{BANKED_READ, BANKED_WRITE, RETURN, is_banked, bad_event}
use Rattle.rules.specs.Run.{run_by, answers_by, run, answers}
use Rattle.rules.specs.Step.{Action, Refuse, Take, Quiet, Read, Put, Return, action, answer_to, block_after, answer, after}
use Rattle.rules.specs.declared.event.Event.{Event}
use Rattle.rules.specs.Verdict.{answer_for}
use Rattle.rules.specs.declared.verdict.Answer.{Answer}
use Rattle.rules.specs.declared.verdict.Verdict.TheVariants.{Register}
use Rattle.rules.proofs.Deciding.{accessed, bad_event_lem, at_read, at_write}
use Rattle.rules.proofs.Sound.{read_a, write_a, inside_registers}
use Rattle.machine.specs.Guest.{exempt, place_of, Alike, Guest, Guests, AllBanked, KeptInside, NothingCarried}

-- ---- what an access may reach

-- where the mode is not denied the register of the cell, that lies outside
abbrev outside_from : ℕ → ℕ → Bool
outside_from m a = implies (not (denied (cell a) m false)) (not (exempt (cell a)))

tried : every_of el1_modes (λ m. every_below CELL_VALUES (outside_from m)) ≡ true
unfolding cell denied exempt
tried = refl

not_denied : (p cpsr scr : ℕ) → right p cpsr scr ≡ DONE → denied p (mode_field cpsr) (secure cpsr scr) ≡ false
unfolding right
not_denied p cpsr scr h = by (denied p (mode_field cpsr) (secure cpsr scr)) h
  where
    by : (t : Bool) → (if t then reason p (mode_field cpsr) else DONE) ≡ DONE → t ≡ false
    by true e = absurd (eqb-false (reason p (mode_field cpsr)) DONE (reason_refuses p (mode_field cpsr)) e)
    by false e = refl

allowed_outside : (a cpsr scr : ℕ) → a < CELL_VALUES → el1 (mode_field cpsr) ≡ true → secure cpsr scr ≡ false
    → right (cell a) cpsr scr ≡ DONE → exempt (cell a) ≡ false
unfolding el1
allowed_outside a cpsr scr l m s h =
    let free : denied (cell a) (mode_field cpsr) false ≡ false = rw s at (not_denied (cell a) cpsr scr h) in
    let at = at_below CELL_VALUES (outside_from (mode_field cpsr))
    (at_one el1_modes (λ m. every_below CELL_VALUES (outside_from m)) tried (mode_field cpsr) m) a l in
    not-true (exempt (cell a)) (implied (not (denied (cell a) (mode_field cpsr) false)) (not (exempt (cell a))) at (rw free))

-- ---- what an access comes to, by CPSR, SCR and its three words

-- where nothing refuses it
abbrev itself : ℕ → ℕ → ℕ → Action
itself code a w = if code is BANKED_READ then Read (cell a) else Put (cell a) w

-- and in all
abbrev comes_to : ℕ → ℕ → ℕ → ℕ → ℕ → Action
comes_to cpsr scr code a w = if bad_event code a w then Refuse BAD_EVENT else accessed (cell a) (right (cell a) cpsr scr) (itself code a w)

-- a banked code is that of a read or of a write
by_access : (P : ℕ → Type 0) → P BANKED_READ → P BANKED_WRITE → (code : ℕ) → is_banked code ≡ true → P code
by_access P read write code h = by (code is BANKED_READ) refl (code is BANKED_WRITE) refl h
  where
    by : (t : Bool) → (code is BANKED_READ) ≡ t → (u : Bool) → (code is BANKED_WRITE) ≡ u
        → (if t then true else if u then true else false) ≡ true → P code
    by true e u f k = rw (eqb-true code BANKED_READ e) read
    by false e true f k = rw (eqb-true code BANKED_WRITE f) write
    by false e false f k = absurd (true_is_not_false k refl)

-- what holds of the refusal for bad operands, and of x where they are good, holds of the two together
by_operands : (P : Action → Type 0) (code a w : ℕ) {x : Action} → (bad_event code a w ≡ true → P (Refuse BAD_EVENT))
    → (bad_event code a w ≡ false → P x)
    → P (if bad_event code a w then Refuse BAD_EVENT else x)
by_operands P code a w {x} bad fine = by (bad_event code a w) refl
  where
    by : (t : Bool) → bad_event code a w ≡ t → P (if t then Refuse BAD_EVENT else x)
    by true h = bad h
    by false h = fine h

module _ (b : List ℕ) (size : length b ≡ BLOCK_SIZE) (good : fault b ≡ DONE) (a w : ℕ) where
  abbrev Comes : ℕ → Type 0
  Comes code = action b (record { code = code; a = a; b = w }) ≡ comes_to (word b CPSR) (word b SCR) code a w

  comes_by : (code : ℕ) → (code is RETURN) ≡ false
      → (bad_event code a w ≡ false
      → action b (record { code = code; a = a; b = w })
      ≡ accessed (cell a) (right (cell a) (word b CPSR) (word b SCR)) (itself code a w))
      → Comes code
  comes_by code n fine =
      by_operands (λ x. action b (record { code = code; a = a; b = w }) ≡ x) code a w
      (λ h. sym (bad_event_lem b a w size good code n h)) fine

  comes_to_lem : (code : ℕ) → is_banked code ≡ true → Comes code
  comes_to_lem =
      by_access Comes (comes_by BANKED_READ refl (λ h. sym (at_read b a w size good h)))
      (comes_by BANKED_WRITE refl (λ h. sym (at_write b a w size good h)))

-- ---- and that is refused, or reads or writes a register that is not exempt

abbrev Outside : Action → Type 0
Outside (Refuse n) = Unit {0}
Outside (Take x to offset link) = ⊥
Outside (Quiet lines) = ⊥
Outside (Read p) = (p < CPSR) × (exempt p ≡ false)
Outside (Put p w) = (p < CPSR) × (exempt p ≡ false)
Outside (Return cpsr pc) = ⊥

module _ (cpsr scr : ℕ) (m : el1 (mode_field cpsr) ≡ true) (s : secure cpsr scr ≡ false) (a : ℕ) where
  reaches_outside : (x : Action) → a < CELL_VALUES → ((cell a < CPSR) × (exempt (cell a) ≡ false) → Outside x)
      → Outside (accessed (cell a) (right (cell a) cpsr scr) x)
  unfolding accessed
  reaches_outside x l allowed = by (cell a is NO_PLACE) refl (right (cell a) cpsr scr is DONE) refl
    where
      by : (none : Bool) → (cell a is NO_PLACE) ≡ none → (may : Bool) → (right (cell a) cpsr scr is DONE) ≡ may
          → Outside (if none then Refuse NO_REGISTER else if may then x else Refuse (right (cell a) cpsr scr))
      by true e may f = tt
      by false e true f =
          allowed (inside_registers a l e, allowed_outside a cpsr scr l m s (eqb-true (right (cell a) cpsr scr) DONE f))
      by false e false f = tt

  comes_outside : (w code : ℕ) → is_banked code ≡ true → Outside (comes_to cpsr scr code a w)
  comes_outside w =
      by_access (λ code. Outside (comes_to cpsr scr code a w))
      (by_operands Outside BANKED_READ a w (λ h. tt) (λ h. reaches_outside (Read (cell a)) (read_a a w h) (λ k. k)))
      (by_operands Outside BANKED_WRITE a w (λ h. tt) (λ h. reaches_outside (Put (cell a) w) (write_a a w h) (λ k. k)))

-- ---- words and bytes of blocks that are alike

module _ {b c : List ℕ} (h : Alike b c) where
  same_word : (p : ℕ) → p < PLACES → exempt p ≡ false → word b p ≡ word c p
  unfolding spelt
  same_word p l x =
      rw (
        h.outside (4 * p) (omega arith) (at (4 * p) (omega arith)),
        h.outside (4 * p + 1) (omega arith) (at (4 * p + 1) (omega arith)),
        h.outside (4 * p + 2) (omega arith) (at (4 * p + 2) (omega arith)),
        h.outside (4 * p + 3) (omega arith) (at (4 * p + 3) (omega arith)),
      )
    where
      at : (j : ℕ) → place_of j ≡ p → exempt (place_of j) ≡ false
      at j e = ap exempt e ∙ x

  -- a word that both get, wherever, leaves them so
  put_alike : (p w : ℕ) → Alike (put b p w) (put c p w)
  put_alike p w =
      record {
        first_size = length-put b p w ∙ h.first_size;
        second_size = length-put c p w ∙ h.second_size;
        outside = λ j l x. byte_alike b c p w j (h.first_size ∙ sym h.second_size) (h.outside j l x);
      }

-- two places of which one is exempt are two
two_places : {p q : ℕ} → exempt p ≡ false → exempt q ≡ true → q ≡ p → ⊥
two_places x y e = true_is_not_false y (ap exempt e ∙ x)

kept_same : (b : List ℕ) → KeptInside b b
kept_same b = record { bytes = λ j l x. refl; words = λ p x. refl }

kept_then : {b c d : List ℕ} → KeptInside b c → KeptInside c d → KeptInside b d
kept_then h k =
    record { bytes = λ j l x. k.bytes j l x ∙ h.bytes j l x; words = λ p x. k.words p x ∙ h.words p x }

module _ (b : List ℕ) (p w : ℕ) (x : exempt p ≡ false) where
  put_keeps : KeptInside b (put b p w)
  put_keeps =
      record {
        bytes = λ j l y. byte_other b p w j (two_places x y);
        words = λ q y. word-put_other b p w q (λ e. two_places x y (sym e));
      }

-- ---- what a guest is told by

-- a place that is none of the three words
record Beside (p : ℕ) : Type 0 where
  cpsr : CPSR ≡ p → ⊥
  scr : SCR ≡ p → ⊥
  hcr : HCR ≡ p → ⊥

module _ (b : List ℕ) (p w : ℕ) (n : Beside p) where
  kept_word : (q : ℕ) → (q ≡ p → ⊥) → word (put b p w) q ≡ word b q
  kept_word q d = word-put_other b p w q (λ e. d (sym e))

  put_guest : Guest b → Guest (put b p w)
  unfolding fault
  put_guest g =
      let cpsr = kept_word CPSR n.cpsr in
      let scr = kept_word SCR n.scr in
      let hcr = kept_word HCR n.hcr in
      record {
        good = rw (cpsr, scr, hcr) g.good;
        non_secure = rw (cpsr, scr) g.non_secure;
        in_el1 = rw cpsr g.in_el1;
      }

  put_mode : mode_field (word (put b p w) CPSR) ≡ mode_field (word b CPSR)
  put_mode = ap mode_field (kept_word CPSR n.cpsr)

-- ---- from two blocks to two others

record Moved (b c b' c' : List ℕ) : Type 0 where
  guests : Guests b' c'
  first_keeps : KeptInside b b'
  second_keeps : KeptInside c c'

stood : {b c : List ℕ} → Guests b c → Moved b c b c
stood {b} {c} g = record { guests = g; first_keeps = kept_same b; second_keeps = kept_same c }

moved_then : {b c b' c' b'' c'' : List ℕ} → Moved b c b' c' → Moved b' c' b'' c'' → Moved b c b'' c''
moved_then m n =
    record {
      guests = n.guests;
      first_keeps = kept_then m.first_keeps n.first_keeps;
      second_keeps = kept_then m.second_keeps n.second_keeps;
    }

-- ---- one step

module _ (b c : List ℕ) (g : Guests b c) where
  by_action : (x : Action) → Outside x → (answer_to b x ≡ answer_to c x) × Moved b c (block_after b x) (block_after c x)
  by_action (Refuse n) o = (refl, stood g)
  by_action (Take x to offset link) o = absurd o
  by_action (Quiet lines) o = absurd o
  by_action (Read p) o = (ap told (same_word g.alike p (omega arith) o.1), stood g)
    where
      told : ℕ → Answer
      told v = answer_for (Register v)
  by_action (Put p w) o =
      let n : Beside p = record { cpsr = λ e. omega arith; scr = λ e. omega arith; hcr = λ e. omega arith } in
      let both : Guests (put b p w) (put c p w) = record {
        first = put_guest b p w n g.first;
        second = put_guest c p w n g.second;
        same_mode = put_mode b p w n ∙ g.same_mode ∙ sym (put_mode c p w n);
        alike = put_alike g.alike p w;
      } in
      (refl, record { guests = both; first_keeps = put_keeps b p w o.1; second_keeps = put_keeps c p w o.1 })
  by_action (Return cpsr pc) o = absurd o

  one_step : (e : Event) → is_banked e.code ≡ true → (answer b e ≡ answer c e) × Moved b c (after b e) (after c e)
  unfolding answer after exempt
  one_step e k =
      let cpsr : word b CPSR ≡ word c CPSR = same_word g.alike CPSR (omega arith) refl in
      let scr : word b SCR ≡ word c SCR = same_word g.alike SCR (omega arith) refl in
      let x = comes_to (word b CPSR) (word b SCR) e.code e.a e.b in
      let on-b : action b e ≡ x = comes_to_lem b g.alike.first_size g.first.good e.a e.b e.code k in
      let on-c : action c e ≡ x = rw (cpsr, scr) (comes_to_lem c g.alike.second_size g.second.good e.a e.b e.code k) in
      let outside = comes_outside (word b CPSR) (word b SCR) g.first.in_el1 g.first.non_secure e.a e.b e.code k in
      rw (on-b, on-c) (by_action x outside)

-- ---- a list of them, and the first n of a list

same_answers : (b c : List ℕ) (es : List Event) → Guests b c → AllBanked es → answers b es ≡ answers c es
unfolding answers_by
same_answers b c [] g k = refl
same_answers b c (e ∷ es) g k =
    let s = one_step b c g e k.0 in
    let rest = same_answers (after b e) (after c e) es s.1.guests k.1 in
    λ i. s.0 i ∷ rest i

ran : (n : ℕ) (b c : List ℕ) (es : List Event) → Guests b c → AllBanked es → Moved b c (run b (take n es)) (run c (take n es))
unfolding run_by
ran zero b c es g k = stood g
ran (suc n) b c [] g k = stood g
ran (suc n) b c (e ∷ es) g k =
    let s = one_step b c g e k.0 in
    moved_then s.1 (ran n (after b e) (after c e) es s.1.guests k.1)

pub nothing_carried : (b c : List ℕ) (es : List Event) → Guests b c → AllBanked es → NothingCarried b c es
nothing_carried b c es g k =
    let moved : (n : ℕ) → Moved b c (run b (take n es)) (run c (take n es)) = λ n. ran n b c es g k in
    record {
      same_answers = same_answers b c es g k;
      stay_alike = λ n. (moved n).guests.alike;
      first_keeps = λ n. (moved n).first_keeps;
      second_keeps = λ n. (moved n).second_keeps;
      stay_guests = λ n. (moved n).guests;
    }

-- ---- any word at an exempt place

module _ (b : List ℕ) (p w : ℕ) (size : length b ≡ BLOCK_SIZE) (x : exempt p ≡ true) where
  other : (q : ℕ) → exempt q ≡ false → q ≡ p → ⊥
  other q y e = two_places y x (sym e)

  pub inside_alike : Alike b (put b p w)
  inside_alike =
      record {
        first_size = size;
        second_size = length-put b p w ∙ size;
        outside = λ j i y. sym (byte_other b p w j (other (place_of j) y));
      }

  pub any_word_inside : Guest b → Guests b (put b p w)
  unfolding exempt
  any_word_inside g =
      let n : Beside p = record { cpsr = other CPSR refl; scr = other SCR refl; hcr = other HCR refl } in
      record { first = g; second = put_guest b p w n g; same_mode = sym (put_mode b p w n); alike = inside_alike }
