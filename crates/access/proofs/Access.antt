-- A banked access, on each way through its tests: malformed, no register or denied, or the access itself.
use Rattle.std.specs.Prelude.{Ok, Err, if◌then◌else◌}
use mathlib.Core.Path.{◌≡◌, refl, sym, ◌∙◌}
use mathlib.Core.Bool.{Bool, true, false, ◌&&◌, ◌||◌}
use mathlib.Core.List.{List}
use Prim.Native.Nat.{ℕ, ◌<◌, ◌≤◌}
use native.Mathlib.Omega.{arith}
use borrow.Author.Tests.{ltb-true}
use lib.Dec.{ltb}
use lib.ListN.{length}
use Rattle.words.specs.Word.{word, put}
use Rattle.state.specs.Choice.{◌is◌}
use Rattle.state.specs.Field.{mode_field}
use Rattle.state.specs.Mode.{modes, known}
use Rattle.state.specs.Number.{DONE, NO_REGISTER}
use Rattle.state.specs.Place.{PLACES, BLOCK_SIZE, NO_PLACE, CPSR, SCR, HCR}
use Rattle.state.specs.State.{fault, secure}
use Rattle.state.specs.declared.refusal.Refusal.{Refusal}
use Rattle.state.specs.declared.refusal.Refusal.TheVariants.{BadEvent}
use Rattle.state.proofs.Good.{parts_of_good}
use Rattle.state.proofs.Test.{at_one, refuted, true_is_not_false, first_of_two}
use Rattle.banked.specs.Cell.{cell}
use Rattle.banked.specs.Parts.{Reached}
use Rattle.banked.specs.Right.{denied, reason, right}
use Rattle.banked.proofs.Reasons.{reason_refuses}
use Rattle.rules.specs.Event.{BANKED_READ, BANKED_WRITE, CELL_VALUES, bad_event}
use Rattle.rules.specs.Parts.{CameTo}
use Rattle.rules.specs.Step.{Action, Refuse, action}
use Rattle.rules.specs.declared.verdict.Verdict.TheVariants.{Register, Written}
use Rattle.rules.proofs.Carrying.{same_action, refused}
use Rattle.rules.proofs.Deciding.{event, accessed, at_read, at_write}
use Rattle.rules.proofs.Operands.{within, beyond, below, malformed}
use Rattle.rules.proofs.Sound.{read_a, inside_registers}

-- a good block's mode is one of 16 to 31
pub mode_number : (b : List ℕ) {cpsr : ℕ} → cpsr ≡ word b CPSR → fault b ≡ DONE → 16 ≤ mode_field cpsr
unfolding fault known
mode_number b {cpsr} e good =
    let k = (parts_of_good (word b CPSR) (word b SCR) (word b HCR) good).known_mode in
    let h = ltb-true 15 (mode_field (word b CPSR)) (at_one modes (λ m. ltb 15 m) refl (mode_field (word b CPSR)) k) in
    rw e h

-- no register, denied for this reason, or the access: the refusals under one test
settled : (none barred : Bool) (why : ℕ) (x : Action) → (why is DONE) ≡ false
    → (if none then Refuse NO_REGISTER else
    (if (if barred then why else DONE) is DONE then x else Refuse (if barred then why else DONE)))
    ≡ (if none || barred then Refuse (if none then NO_REGISTER else why) else x)
settled true barred why x h = refl
settled false true why x h = rw h
settled false false why x h = refl

-- whether an access by A is refused, and why
abbrev pub Barred : ℕ → ℕ → ℕ → Bool
Barred a cpsr scr = cell a is NO_PLACE || denied (cell a) (mode_field cpsr) (secure cpsr scr)

abbrev pub Why : ℕ → ℕ → ℕ
Why a cpsr = if cell a is NO_PLACE then NO_REGISTER else reason (cell a) (mode_field cpsr)

-- what an access comes to by its right, under that one test
access_by : (a cpsr scr : ℕ) (x : Action)
    → (if Barred a cpsr scr then Refuse (Why a cpsr) else x) ≡ accessed (cell a) (right (cell a) cpsr scr) x
unfolding accessed right
access_by a cpsr scr x = sym (settled (cell a is NO_PLACE) _ _ x (reason_refuses (cell a) (mode_field cpsr)))

-- an access x by A that is to come to y, by what was found of the register: refused, or x itself
module _ (b : List ℕ) (a : ℕ) {cpsr scr : ℕ} (ec : cpsr ≡ word b CPSR) (es : scr ≡ word b SCR) (x y : Action)
    (to : accessed (cell a) (right (cell a) (word b CPSR) (word b SCR)) x ≡ y) where
  here : accessed (cell a) (right (cell a) cpsr scr) x ≡ y
  here = rw (ec, es) to

  barred : (r : Refusal) → Reached a cpsr scr (Err r) → CameTo b y (Err r) b
  barred r h = let so = rw h.1 at (access_by a cpsr scr x) in refused b r (rw h.0 so ∙ here)

  allowed : (p : ℕ) → Reached a cpsr scr (Ok p) → x ≡ y
  allowed p h = let so = rw h.1 at (access_by a cpsr scr x) in so ∙ here

-- at a place of the block
inside : (a cpsr scr p : ℕ) → a < CELL_VALUES → Reached a cpsr scr (Ok p) → p < PLACES
inside a cpsr scr p l h =
    let some = refuted (cell a is NO_PLACE) (λ t. true_is_not_false (first_of_two (cell a is NO_PLACE) _ t) h.1) in
    let i = inside_registers a l some in
    omega (arith, h.0)

-- each of the two on a good block, by the test of its operands and what was found of the register
module _ (b : List ℕ) (a w : ℕ) {cpsr scr : ℕ} (ec : cpsr ≡ word b CPSR) (es : scr ≡ word b SCR) (size : length b ≡ BLOCK_SIZE)
    (good : fault b ≡ DONE) where
  pub read_malformed : (ltb a CELL_VALUES && w is 0) ≡ false → CameTo b (action b (event BANKED_READ a w)) (Err BadEvent) b
  unfolding bad_event
  read_malformed t = malformed b BANKED_READ a w size good refl (within CELL_VALUES a w t)

  module _ (t : (ltb a CELL_VALUES && w is 0) ≡ true) where
    right_read : bad_event BANKED_READ a w ≡ false
    unfolding bad_event
    right_read = within CELL_VALUES a w t

    pub read_refused : (r : Refusal) → Reached a cpsr scr (Err r) → CameTo b (action b (event BANKED_READ a w)) (Err r) b
    read_refused = barred b a ec es _ _ (at_read b a w size good right_read)

    pub read_inside : (p : ℕ) → Reached a cpsr scr (Ok p) → p < PLACES
    read_inside p h = inside a cpsr scr p (read_a a w right_read) h

    pub read_done : (p v : ℕ) → Reached a cpsr scr (Ok p) → v ≡ word b p
        → CameTo b (action b (event BANKED_READ a w)) (Ok (Register v)) b
    read_done p v h e =
        same_action b (allowed b a ec es _ _ (at_read b a w size good right_read) p h)
        (record { block = refl; answer = rw (e, h.0); verdict = rw (e, h.0); small = tt })

  pub write_malformed : CELL_VALUES ≤ a → CameTo b (action b (event BANKED_WRITE a w)) (Err BadEvent) b
  unfolding bad_event
  write_malformed l = malformed b BANKED_WRITE a w size good refl (beyond CELL_VALUES a l)

  module _ (l : a < CELL_VALUES) where
    right_write : bad_event BANKED_WRITE a w ≡ false
    unfolding bad_event
    right_write = below CELL_VALUES a l

    pub write_refused : (r : Refusal) → Reached a cpsr scr (Err r) → CameTo b (action b (event BANKED_WRITE a w)) (Err r) b
    write_refused = barred b a ec es _ _ (at_write b a w size good right_write)

    pub write_inside : (p : ℕ) → Reached a cpsr scr (Ok p) → p < PLACES
    write_inside p h = inside a cpsr scr p l h

    pub write_done : (p : ℕ) {m : List ℕ} → Reached a cpsr scr (Ok p) → m ≡ put b p w
        → CameTo b (action b (event BANKED_WRITE a w)) (Ok (Written w)) m
    write_done p h e =
        same_action b (allowed b a ec es _ _ (at_write b a w size good right_write) p h)
        (record { block = rw h.0 at e; answer = refl; verdict = refl; small = tt })
