-- A banked access that no row before its right refuses answers what the right says, and no other event is answered NO_RIGHT or
-- OWN_REGISTER: every other row has another number.
use Rattle.std.specs.Prelude.{if◌then◌else◌}
use mathlib.Core.Path.{◌≡◌, refl, sym, ap, ◌∙◌}
use mathlib.Core.Bool.{Bool, true, false, not, ◌&&◌}
use mathlib.Core.List.{List, [], ◌∷◌}
use mathlib.Core.Logic.{◌⊎◌, inl, inr, ◌↔◌}
use Prim.Native.Nat.{ℕ}
use lib.ListN.{length}
use borrow.Author.Tests.{eqb-true, eq-eqb, not-true, not-false}
use Rattle.words.specs.Word.{word}
use Rattle.state.specs.Choice.{◌is◌, ◌among◌}
use Rattle.state.specs.Field.{mode_field}
use Rattle.state.specs.Mode.{USER}
use Rattle.state.specs.Number.{DONE, BAD_MODE, BAD_STATE, NO_RIGHT, OWN_REGISTER}
use Rattle.state.specs.Place.{BLOCK_SIZE, CPSR, SCR}
use Rattle.state.proofs.Test.{true_is_not_false, at_one}
use Rattle.entry.specs.Code.{is_synchronous}
use Rattle.banked.specs.Cell.{cell}
use Rattle.banked.specs.Claims.{right_formerly}
use Rattle.banked.specs.Right.{own, right}
use Rattle.banked.proofs.Reasons as reasons
use Rattle.rules.specs.Event.{BANKED_READ, BANKED_WRITE, NOTE, RETURN, is_banked}
use Rattle.rules.specs.Refusal.{unknown_mode, not_good, noted, refusal}
use Rattle.rules.specs.declared.event.Event.{Event}
use Rattle.rules.proofs.Deciding.{fault_clear, unlike}
use Rattle.rules.proofs.Rows.{earlier, past, reached}
use Rattle.machine.specs.Claims.{Accesses}
use Rattle.machine.proofs.Goodness.{clear_fault}

module _ (b : List ℕ) (e : Event) where
  -- the right to the register that the event names
  abbrev its_right : ℕ
  its_right = right (cell e.a) (word b CPSR) (word b SCR)

  -- an access that comes to its right answers that
  row_of : (n : ℕ) → (if not (n is DONE) then n else DONE) ≡ n
  row_of n = by (n is DONE) refl
    where
      by : (t : Bool) → (n is DONE) ≡ t → (if not t then n else DONE) ≡ n
      by true h = sym (eqb-true n DONE h)
      by false h = refl

  pub access_answers : Accesses b e → refusal b e ≡ its_right
  unfolding refusal
  access_answers x =
      let clear = fault_clear b x.good in
      let other : (n : ℕ) → is_banked n ≡ false → (e.code is n) ≡ false = λ n h. unlike is_banked e.code n x.banked h in
      rw (
        eq-eqb (length b) BLOCK_SIZE x.sized,
        clear.0,
        clear.1,
        other RETURN refl,
        x.operands,
        not_synchronous e.code x.banked,
        x.banked,
        x.register,
        other NOTE refl,
        row_of its_right,
      )
    where
      not_synchronous : (code : ℕ) → is_banked code ≡ true → is_synchronous code ≡ false
      not_synchronous code h =
          not-true (is_synchronous code)
          (at_one (BANKED_READ ∷ BANKED_WRITE ∷ []) (λ c. not (is_synchronous c)) refl code h)

  -- the two numbers are given to an access alone
  abbrev two : List ℕ
  two = NO_RIGHT ∷ OWN_REGISTER ∷ []

  denied_accesses : (n : ℕ) → (n among two) ≡ true → refusal b e ≡ n → Accesses b e
  denied_accesses n is-of-two h =
      let out = at_one two (λ k. not (k among earlier)) refl n is-of-two in
      let r = reached b e n (not-true (n among earlier) out) h in
      let noted_mode = e.code is NOTE && unknown_mode (noted b e) in
      let noted_good = e.code is NOTE && not_good (noted b e) in
      let banked = is_banked_lem (is_banked e.code) its_right noted_mode noted_good r.1 in
      record {
        sized = eqb-true (length b) BLOCK_SIZE (not-false (length b is BLOCK_SIZE) r.0.sized);
        good = clear_fault b r.0.mode r.0.good;
        banked = banked;
        operands = r.0.event;
        register = rw banked at r.0.register;
      }
    where
      never : (k : ℕ) → (k among two) ≡ false → {t : Bool} → t ≡ true → k ≡ n → ⊥
      never k out t z = true_is_not_false is-of-two (ap (λ i. i among two) (sym z) ∙ out)

      is_banked_lem : (t : Bool) (r : ℕ) (m g : Bool)
          → (if t && not (r is DONE) then r else if m then BAD_MODE else if g then BAD_STATE else DONE) ≡ n → t ≡ true
      is_banked_lem true r m g k = refl
      is_banked_lem false r m g k =
          let p = past m (never BAD_MODE refl) k in
          absurd (never DONE refl {t = true} refl (past g (never BAD_STATE refl) p.1).1)

  -- ---- what was 7 is now 7 or 17, and nothing else is

  pub denied_exactly : ((refusal b e ≡ NO_RIGHT) ⊎ (refusal b e ≡ OWN_REGISTER))
      ↔ (Accesses b e × (right_formerly (cell e.a) (word b CPSR) (word b SCR) ≡ NO_RIGHT))
  denied_exactly = (to, λ h. back h.0 (split.0 h.1))
    where
      split : (right_formerly (cell e.a) (word b CPSR) (word b SCR) ≡ NO_RIGHT)
          ↔ ((its_right ≡ NO_RIGHT) ⊎ (its_right ≡ OWN_REGISTER))
      split = reasons.seven_before (cell e.a) (word b CPSR) (word b SCR)

      to : ((refusal b e ≡ NO_RIGHT) ⊎ (refusal b e ≡ OWN_REGISTER))
          → Accesses b e × (right_formerly (cell e.a) (word b CPSR) (word b SCR) ≡ NO_RIGHT)
      to (inl h) = let x = denied_accesses NO_RIGHT refl h in (x, split.1 (inl (sym (access_answers x) ∙ h)))
      to (inr h) = let x = denied_accesses OWN_REGISTER refl h in (x, split.1 (inr (sym (access_answers x) ∙ h)))

      back : Accesses b e → ((its_right ≡ NO_RIGHT) ⊎ (its_right ≡ OWN_REGISTER))
          → ((refusal b e ≡ NO_RIGHT) ⊎ (refusal b e ≡ OWN_REGISTER))
      back x (inl h) = inl (access_answers x ∙ h)
      back x (inr h) = inr (access_answers x ∙ h)

  -- ---- 17 exactly on the list

  abbrev mode : ℕ
  mode = mode_field (word b CPSR)

  pub own_exactly : (refusal b e ≡ OWN_REGISTER) ↔ (Accesses b e × ((mode is USER) ≡ false) × (own (cell e.a) mode ≡ true))
  own_exactly =
      let on_List = reasons.own_exactly (cell e.a) (word b CPSR) (word b SCR) in (
        λ h.
            let x = denied_accesses OWN_REGISTER refl h in
            let k = on_List.0 (sym (access_answers x) ∙ h) in
            (x, k.0, k.1),
        λ h. access_answers h.0 ∙ on_List.1 (h.1, h.2),
      )

  pub from_user : Accesses b e → (mode is USER) ≡ true → refusal b e ≡ NO_RIGHT
  from_user x h = access_answers x ∙ reasons.user_seven (cell e.a) (word b CPSR) (word b SCR) h
