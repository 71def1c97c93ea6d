-- Where a step is done no row of refusals applies, and where it has a number no row before that of the number does.
use Rattle.std.specs.Prelude.{if◌then◌else◌}
use mathlib.Core.Path.{◌≡◌, refl, ap, ◌∙◌}
use mathlib.Core.Bool.{Bool, true, false, not, ◌&&◌}
use mathlib.Core.List.{List, [], ◌∷◌}
use Prim.Native.Nat.{ℕ}
use lib.ListN.{length}
use borrow.Author.Tests.{eqb-false, not-true}
use Rattle.words.specs.Word.{word}
use Rattle.state.specs.Choice.{◌is◌, ◌among◌}
use Rattle.state.specs.Number.{DONE, BAD_SIZE, BAD_MODE, BAD_STATE, BAD_EVENT, NOT_HERE, NO_REGISTER, DISABLED}
use Rattle.state.specs.Place.{BLOCK_SIZE, NO_PLACE, CPSR, SCR, HCR}
use Rattle.state.proofs.Test.{and_right, true_is_not_false}
use Rattle.entry.specs.Code.{is_synchronous}
use Rattle.entry.specs.Route.{not_here, disabled}
use Rattle.banked.specs.Cell.{cell}
use Rattle.banked.specs.Right.{right}
use Rattle.returns.specs.Return.{wrong_a, has_saved}
use Rattle.rules.specs.Event.{Event, NOTE, RETURN, is_banked, bad_event}
use Rattle.rules.specs.Refusal.{unknown_mode, not_good, noted, bad_return, refusal}

-- no row applies
pub record Passed (b : List ℕ) (e : Event) : Type 0 where
  pub sized : not (length b is BLOCK_SIZE) ≡ false
  pub mode : unknown_mode b ≡ false
  pub good : not_good b ≡ false
  pub saved : (e.code is RETURN && bad_return b) ≡ false
  pub event : bad_event e.code e.a e.b ≡ false
  pub off : (e.code is RETURN && wrong_a (word b CPSR) e.a) ≡ false
  pub here : (is_synchronous e.code && not_here e.code e.a (word b CPSR) (word b SCR)) ≡ false
  pub returns : (e.code is RETURN && not (has_saved b)) ≡ false
  pub able : (is_synchronous e.code && disabled e.code (word b CPSR) (word b SCR) (word b HCR)) ≡ false
  pub register : (is_banked e.code && cell e.a is NO_PLACE) ≡ false
  pub right : (is_banked e.code && not (right (cell e.a) (word b CPSR) (word b SCR) is DONE)) ≡ false
  pub noted_mode : (e.code is NOTE && unknown_mode (noted b e)) ≡ false
  pub noted_good : (e.code is NOTE && not_good (noted b e)) ≡ false

-- none does before that of the right
pub record Reached (b : List ℕ) (e : Event) : Type 0 where
  pub sized : not (length b is BLOCK_SIZE) ≡ false
  pub mode : unknown_mode b ≡ false
  pub good : not_good b ≡ false
  pub saved : (e.code is RETURN && bad_return b) ≡ false
  pub event : bad_event e.code e.a e.b ≡ false
  pub off : (e.code is RETURN && wrong_a (word b CPSR) e.a) ≡ false
  pub here : (is_synchronous e.code && not_here e.code e.a (word b CPSR) (word b SCR)) ≡ false
  pub returns : (e.code is RETURN && not (has_saved b)) ≡ false
  pub able : (is_synchronous e.code && disabled e.code (word b CPSR) (word b SCR) (word b HCR)) ≡ false
  pub register : (is_banked e.code && cell e.a is NO_PLACE) ≡ false

-- their numbers
abbrev pub earlier : List ℕ
earlier = BAD_SIZE ∷ BAD_MODE ∷ BAD_STATE ∷ BAD_EVENT ∷ NOT_HERE ∷ DISABLED ∷ NO_REGISTER ∷ []

-- a row whose number is not the answer did not apply
pub past : (t : Bool) {n rest answer : ℕ} → (t ≡ true → n ≡ answer → ⊥) → (if t then n else rest) ≡ answer
    → (t ≡ false) × (rest ≡ answer)
past true h e = absurd (h refl e)
past false h e = (refl, e)

-- the answer by the rows from that of the right on
abbrev pub by_right : List ℕ → Event → ℕ
by_right b e =
    let r = right (cell e.a) (word b CPSR) (word b SCR) in
    if is_banked e.code && not (r is DONE) then r else
    if e.code is NOTE && unknown_mode (noted b e) then BAD_MODE else
    if e.code is NOTE && not_good (noted b e) then BAD_STATE else
    DONE

-- a number that none of the earlier rows has is given by these
pub reached : (b : List ℕ) (e : Event) (n : ℕ) → (n among earlier) ≡ false → refusal b e ≡ n → Reached b e × (by_right b e ≡ n)
unfolding refusal
reached b e n out h =
    let p1 = past _ (never BAD_SIZE refl) h in
    let p2 = past _ (never BAD_MODE refl) p1.1 in
    let p3 = past _ (never BAD_STATE refl) p2.1 in
    let r3 = past _ (never BAD_STATE refl) p3.1 in
    let p4 = past _ (never BAD_EVENT refl) r3.1 in
    let r4 = past _ (never BAD_EVENT refl) p4.1 in
    let p5 = past _ (never NOT_HERE refl) r4.1 in
    let r5 = past _ (never NOT_HERE refl) p5.1 in
    let p16 = past _ (never DISABLED refl) r5.1 in
    let p6 = past _ (never NO_REGISTER refl) p16.1 in
    let first : Reached b e = record {
      sized = p1.0;
      mode = p2.0;
      good = p3.0;
      saved = r3.0;
      event = p4.0;
      off = r4.0;
      here = p5.0;
      returns = r5.0;
      able = p16.0;
      register = p6.0;
    } in
    (first, p6.1)
  where
    never : (k : ℕ) → (k among earlier) ≡ true → {t : Bool} → t ≡ true → k ≡ n → ⊥
    never k is_one t z = true_is_not_false is_one (ap (λ i. i among earlier) z ∙ out)

pub passed : (b : List ℕ) (e : Event) → refusal b e ≡ DONE → Passed b e
passed b e h =
    let r = reached b e DONE refl h in
    let p7 = past _ denied r.1 in
    let p8 = past _ (λ t. eqb-false BAD_MODE DONE refl) p7.1 in
    let p9 = past _ (λ t. eqb-false BAD_STATE DONE refl) p8.1 in
    record {
      sized = r.0.sized;
      mode = r.0.mode;
      good = r.0.good;
      saved = r.0.saved;
      event = r.0.event;
      off = r.0.off;
      here = r.0.here;
      returns = r.0.returns;
      able = r.0.able;
      register = r.0.register;
      right = p7.0;
      noted_mode = p8.0;
      noted_good = p9.0;
    }
  where
    denied : (is_banked e.code && not (right (cell e.a) (word b CPSR) (word b SCR) is DONE)) ≡ true
        → right (cell e.a) (word b CPSR) (word b SCR) ≡ DONE → ⊥
    denied t z =
        let n = and_right (is_banked e.code) (not (right (cell e.a) (word b CPSR) (word b SCR) is DONE)) t in
        eqb-false (right (cell e.a) (word b CPSR) (word b SCR)) DONE
        (not-true (right (cell e.a) (word b CPSR) (word b SCR) is DONE) n) z
