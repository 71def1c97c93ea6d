-- No. 10 of document 02: the accesses that were NO_RIGHT are now NO_RIGHT or OWN_REGISTER and no others, and OWN_REGISTER is given
-- exactly on the list of current mode registers. What hangs on register, mode and state is tried at each of them.
use Rattle.std.specs.Prelude.{if◌then◌else◌}
use mathlib.Core.Path.{◌≡◌, refl, sym, ◌∙◌}
use mathlib.Core.Bool.{Bool, true, false, not, ◌&&◌, ◌||◌}
use mathlib.Core.Logic.{◌⊎◌, inl, inr, ◌↔◌}
use Prim.Native.Nat.{ℕ, ◌<◌}
use native.Mathlib.Omega.{arith}
use borrow.Author.Tests.{eqb-true, eqb-false}
use Rattle.state.specs.Choice.{◌is◌, ◌among◌}
use Rattle.state.specs.Field.{mode_field, SCR_NS}
use Rattle.state.specs.Mode.{USER, MONITOR, HYP, modes, known}
use Rattle.state.specs.Number.{DONE, NO_RIGHT, OWN_REGISTER}
use Rattle.state.specs.Place.{CPSR, ELR_hyp}
use Rattle.state.specs.State.{secure}
use Rattle.state.proofs.Test.{true_is_not_false, same, same_eq, implies, implied, every_bit, at_bit, every_below}
use Rattle.state.proofs.Test.{at_below, every_of, at_one}
use Rattle.banked.specs.Claims.{right_formerly, not_accessible}
use Rattle.banked.specs.Right.{current, denied, own, reason, right}

-- a number that is not another one
unlike : (n k : ℕ) → (n is k) ≡ false → n ≡ k → ⊥
unlike n k h = eqb-false n k h

-- ---- a mode's own registers are denied to it

tried_own : every_below 32 (λ m. every_of (current m) (λ p. every_bit (denied p m))) ≡ true
unfolding denied
tried_own = refl

own-denied : (p m : ℕ) (sec : Bool) → m < 32 → own p m ≡ true → denied p m sec ≡ true
unfolding own
own-denied p m sec l h =
    at_bit (denied p m)
    (at_one (current m) (λ p. every_bit (denied p m))
    (at_below 32 (λ m. every_of (current m) (λ p. every_bit (denied p m))) tried_own m l) p h) sec

-- "ELR_hyp is never 17"
pub elr_never_own : (cpsr : ℕ) → own ELR_hyp (mode_field cpsr) ≡ false
unfolding own
elr_never_own cpsr =
    same_eq (ELR_hyp among current (mode_field cpsr)) false
    (at_below 32 (λ m. same (ELR_hyp among current m) false) refl (mode_field cpsr) (omega arith))

-- a reason is a refusal
pub reason_refuses : (p m : ℕ) → (reason p m is DONE) ≡ false
unfolding reason
reason_refuses p m = refuses (m is USER) (own p m)
  where
    refuses : (user mine : Bool) → ((if user then NO_RIGHT else if mine then OWN_REGISTER else NO_RIGHT) is DONE) ≡ false
    refuses true mine = refl
    refuses false true = refl
    refuses false false = refl

-- ---- the right by its tests: denied, User, own

abbrev by : Bool → Bool → Bool → ℕ
by not-allowed user mine = if not-allowed then (if user then NO_RIGHT else if mine then OWN_REGISTER else NO_RIGHT) else DONE

abbrev formerly : Bool → ℕ
formerly not-allowed = if not-allowed then NO_RIGHT else DONE

seven_before_by : (not-allowed user mine : Bool)
    → (formerly not-allowed ≡ NO_RIGHT) ↔ ((by not-allowed user mine ≡ NO_RIGHT) ⊎ (by not-allowed user mine ≡ OWN_REGISTER))
seven_before_by true true mine = (λ h. inl refl, λ h. refl)
seven_before_by true false true = (λ h. inr refl, λ h. refl)
seven_before_by true false false = (λ h. inl refl, λ h. refl)
seven_before_by false user mine = (λ h. absurd (unlike DONE NO_RIGHT refl h), neither)
  where
    neither : ((DONE ≡ NO_RIGHT) ⊎ (DONE ≡ OWN_REGISTER)) → DONE ≡ NO_RIGHT
    neither (inl h) = h
    neither (inr h) = absurd (unlike DONE OWN_REGISTER refl h)

allowed_before_by : (not-allowed user mine : Bool) → (formerly not-allowed ≡ DONE) ↔ (by not-allowed user mine ≡ DONE)
allowed_before_by true true mine = (λ h. h, λ h. h)
allowed_before_by true false true = (λ h. absurd (unlike NO_RIGHT DONE refl h), λ h. absurd (unlike OWN_REGISTER DONE refl h))
allowed_before_by true false false = (λ h. h, λ h. h)
allowed_before_by false user mine = (λ h. h, λ h. h)

own_by : (not-allowed user mine : Bool) → (mine ≡ true → not-allowed ≡ true)
    → (by not-allowed user mine ≡ OWN_REGISTER) ↔ ((user ≡ false) × (mine ≡ true))
own_by true true mine i = (λ h. absurd (unlike NO_RIGHT OWN_REGISTER refl h), λ h. absurd (true_is_not_false refl h.0))
own_by true false true i = (λ h. (refl, refl), λ h. refl)
own_by true false false i = (λ h. absurd (unlike NO_RIGHT OWN_REGISTER refl h), λ h. absurd (true_is_not_false h.1 refl))
own_by false user mine i = (λ h. absurd (unlike DONE OWN_REGISTER refl h), λ h. absurd (true_is_not_false (i h.1) refl))

seven_by : (not-allowed user mine : Bool) → (by not-allowed user mine ≡ NO_RIGHT) ↔ ((not-allowed && (user || not mine)) ≡ true)
seven_by true true mine = (λ h. refl, λ h. refl)
seven_by true false true =
    (λ h. absurd (unlike OWN_REGISTER NO_RIGHT refl h), λ h. absurd (true_is_not_false h refl))
seven_by true false false = (λ h. refl, λ h. refl)
seven_by false user mine = (λ h. absurd (unlike DONE NO_RIGHT refl h), λ h. absurd (true_is_not_false h refl))

-- ---- where NO_RIGHT stays: User, and what is not accessible

-- Monitor is Secure, and Hyp is not
abbrev stands : ℕ → Bool → Bool
stands m sec = not (m is MONITOR && not sec) && not (m is HYP && sec)

abbrev stays : ℕ → ℕ → Bool → Bool
stays m p sec =
    implies (stands m sec) (same (denied p m sec && (m is USER || not (own p m))) (m is USER || not_accessible p m sec))

tried_stays : every_of modes (λ m. every_below CPSR (λ p. every_bit (stays m p))) ≡ true
unfolding denied own
tried_stays = refl

stays_at : (p m : ℕ) (sec : Bool) → p < CPSR → known m ≡ true → stands m sec ≡ true
    → (denied p m sec && (m is USER || not (own p m))) ≡ (m is USER || not_accessible p m sec)
unfolding known
stays_at p m sec l k s =
    same_eq _ _
    (implied (stands m sec) _
    (at_bit (stays m p)
    (at_below CPSR (λ p. every_bit (stays m p)) (at_one modes (λ m. every_below CPSR (λ p. every_bit (stays m p))) tried_stays m k) p l)
    sec) s)

-- the state of a mode, by SCR
stands_in : (m : ℕ) (ns : Bool) → (m is HYP && not ns) ≡ false → stands m (not ns || m is MONITOR) ≡ true
stands_in m ns h = by_tests (m is MONITOR) (m is HYP) ns refl refl h
  where
    MONITOR_is_not_HYP : MONITOR ≡ HYP → ⊥
    MONITOR_is_not_HYP = unlike MONITOR HYP refl

    by_tests : (mon hyp ns : Bool) → (m is MONITOR) ≡ mon → (m is HYP) ≡ hyp → (hyp && not ns) ≡ false
        → (not (mon && not (not ns || mon)) && not (hyp && (not ns || mon))) ≡ true
    by_tests true true true e f h = absurd (MONITOR_is_not_HYP (sym (eqb-true m MONITOR e) ∙ eqb-true m HYP f))
    by_tests true true false e f h = absurd (true_is_not_false refl h)
    by_tests true false true e f h = refl
    by_tests true false false e f h = refl
    by_tests false true true e f h = refl
    by_tests false true false e f h = absurd (true_is_not_false refl h)
    by_tests false false true e f h = refl
    by_tests false false false e f h = refl

-- ---- of a register at p, from the mode and the state of these words

module _ (p cpsr scr : ℕ) where
  abbrev m : ℕ
  m = mode_field cpsr

  -- what was 7 is now 7 or 17, and nothing else is
  pub seven_before : (right_formerly p cpsr scr ≡ NO_RIGHT) ↔ ((right p cpsr scr ≡ NO_RIGHT) ⊎ (right p cpsr scr ≡ OWN_REGISTER))
  unfolding right_formerly right reason
  seven_before = seven_before_by (denied p m (secure cpsr scr)) (m is USER) (own p m)

  -- nothing is newly allowed or denied
  pub allowed_before : (right_formerly p cpsr scr ≡ DONE) ↔ (right p cpsr scr ≡ DONE)
  unfolding right_formerly right reason
  allowed_before = allowed_before_by (denied p m (secure cpsr scr)) (m is USER) (own p m)

  -- 17 exactly on the list, but for User
  pub own_exactly : (right p cpsr scr ≡ OWN_REGISTER) ↔ (((m is USER) ≡ false) × (own p m ≡ true))
  unfolding right reason
  own_exactly = own_by _ _ _ (own-denied p m (secure cpsr scr) (omega arith))

  -- "any register from User is 7"
  pub user_seven : (m is USER) ≡ true → right p cpsr scr ≡ NO_RIGHT
  unfolding right reason denied
  user_seven h = rw h

  -- 7 exactly from User, and for what is not accessible
  pub seven_exactly : p < CPSR → known m ≡ true → (m is HYP && not (SCR_NS scr)) ≡ false
      → (right p cpsr scr ≡ NO_RIGHT) ↔ ((m is USER || not_accessible p m (secure cpsr scr)) ≡ true)
  unfolding right reason
  seven_exactly l k h =
      let both = seven_by (denied p m (secure cpsr scr)) (m is USER) (own p m) in
      let e = stays_at p m (secure cpsr scr) l k (stands_in m (SCR_NS scr) h) in
      (λ g. sym e ∙ both.0 g, λ g. both.1 (e ∙ g))
