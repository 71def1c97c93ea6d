-- What a return leaves in CPSR: a legal one the saved word, whose mode may stand there, an illegal one the mode as it was. So a
-- good block stays good, the Exception level never rises, and Non-secure state is never left.
use Rattle.std.proofs.Common.{◌≡◌, ℕ, ◌/◌, ◌%◌, ◌^◌, ◌<◌, ◌≤◌, Bool, true, false, not, ◌&&◌, ◌||◌, ltb, ◌↔◌, sym, refl}
use Rattle.std.proofs.Common.{ap, ◌∙◌, arith, lit<, ltb-false, ltb-true, eq-eqb, if◌then◌else◌}
use borrow.Author.Tests.{not-true, not-false}
use Rattle.state.specs.Choice.{◌is◌}
use Rattle.state.specs.Field.{bit, bits, mode_field, CPSR_T, SCR_NS, HCR_TGE}
use Rattle.state.specs.Mode.{MONITOR, HYP, USER, known}
use Rattle.state.specs.State.{secure}
use Rattle.state.proofs.Good.{Good}
use Rattle.state.proofs.Laws.{ns_el1_lem}
use Rattle.state.proofs.Test.{and_left, and_right, refuted, true_is_not_false}
use Rattle.returns.specs.Level.{EL0, EL1, EL2, EL3, level}
use Rattle.returns.specs.Illegal.{reserved_mode, level_above, hyp_without_ns, el1_under_tge, illegal}
use Rattle.returns.specs.Return.{bad_saved, is_illegal, mode_kept, word_after, less, address_after}

-- ---- no row applies

pub record Legal (current to : ℕ) (ns tge : Bool) : Type 0 where
  pub mode : reserved_mode to ≡ false
  pub below : level_above current to ns ≡ false
  pub hyp : hyp_without_ns to ns ≡ false
  pub guest : el1_under_tge to ns tge ≡ false

none : (a b c d : Bool) → (if a then true else (if b then true else (if c then true else (if d then true else false)))) ≡ false
    → (a ≡ false) × (b ≡ false) × (c ≡ false) × (d ≡ false)
none true b c d h = absurd (true_is_not_false refl h)
none false true c d h = absurd (true_is_not_false refl h)
none false false true d h = absurd (true_is_not_false refl h)
none false false false true h = absurd (true_is_not_false refl h)
none false false false false h = (refl, refl, refl, refl)

pub legal : (current to : ℕ) (ns tge : Bool) → illegal current to ns tge ≡ false → Legal current to ns tge
unfolding illegal
legal current to ns tge h =
    let n = none _ _ _ _ h in
    record { mode = n.0; below = n.1; hyp = n.2; guest = n.3 }

pub is_legal : (current to : ℕ) (ns tge : Bool) → Legal current to ns tge → illegal current to ns tge ≡ false
unfolding illegal
is_legal current to ns tge l = rw (l.mode, l.below, l.hyp, l.guest)

-- ---- the word that keeps the mode

module _ (cpsr saved : ℕ) where
  pub kept_mode : mode_field (mode_kept cpsr saved) ≡ mode_field cpsr
  unfolding mode_kept
  kept_mode = omega arith

  pub kept_clear : bits 24 21 (mode_kept cpsr saved) ≡ 0
  unfolding mode_kept
  kept_clear = omega arith

  -- IL is 1, and the other fields are the saved word's
  pub kept_il : bit 20 (mode_kept cpsr saved) ≡ true
  unfolding mode_kept
  kept_il = eq-eqb (mode_kept cpsr saved / 2 ^ 20 % 2) 1 (omega arith)

  pub kept_high : bits 31 25 (mode_kept cpsr saved) ≡ bits 31 25 saved
  unfolding mode_kept
  kept_high = omega arith

  pub kept_low : bits 19 5 (mode_kept cpsr saved) ≡ bits 19 5 saved
  unfolding mode_kept
  kept_low = omega arith

  pub kept_fits : mode_kept cpsr saved < 2 ^ 32
  unfolding mode_kept
  kept_fits = omega arith

-- ---- levels with NS 1: Monitor alone stands at EL3

monitor_high : (m : ℕ) → (m is MONITOR) ≡ true → level m true ≡ EL3
unfolding level
monitor_high m e = rw e

below_monitor : (m : ℕ) → (m is MONITOR) ≡ false → level m true < EL3
unfolding level
below_monitor m e = by (m is MONITOR) (m is HYP) (m is USER) e
  where
    by : (monitor hyp user : Bool) → monitor ≡ false
        → (if monitor then EL3 else (if hyp then EL2 else (if user then EL0 else EL1))) < EL3
    by true hyp user h = absurd (true_is_not_false refl h)
    by false true user h = lit< tt
    by false false true h = lit< tt
    by false false false h = lit< tt

ltb_same : (n : ℕ) → ltb n n ≡ false
ltb_same n = refuted (ltb n n) (λ e. let l = ltb-true n n e in absurd (omega arith))

-- ---- CPSR after, by whether the return is illegal

module _ (cpsr scr hcr saved : ℕ) where
  pub after_cases : (P : ℕ → Type 0) → (is_illegal cpsr scr hcr saved ≡ false → P saved)
      → (is_illegal cpsr scr hcr saved ≡ true → P (mode_kept cpsr saved)) → P (word_after cpsr scr hcr saved)
  unfolding word_after
  after_cases P f g = by (is_illegal cpsr scr hcr saved) refl
    where
      by : (t : Bool) → is_illegal cpsr scr hcr saved ≡ t → P (if t then mode_kept cpsr saved else saved)
      by true e = g e
      by false e = f e

  abbrev Lawful : Type 0
  Lawful = Legal (level (mode_field cpsr) (SCR_NS scr)) (mode_field saved) (SCR_NS scr) (HCR_TGE hcr)

  lawful : is_illegal cpsr scr hcr saved ≡ false → Lawful
  lawful = legal (level (mode_field cpsr) (SCR_NS scr)) (mode_field saved) (SCR_NS scr) (HCR_TGE hcr)

  legal_good : bad_saved saved ≡ false → Lawful → Good saved scr hcr
  legal_good c l = record {
    known_mode = not-false (known (mode_field saved)) l.mode;
    clear = not-false (bits 24 21 saved is 0) c;
    standing = rw (l.hyp, ns_el1_lem saved scr, l.guest);
  }

  pub word_good : Good cpsr scr hcr → bad_saved saved ≡ false → Good (word_after cpsr scr hcr saved) scr hcr
  word_good g c =
      after_cases (λ w. Good w scr hcr) (λ e. legal_good c (lawful e))
      (λ e. record {
        known_mode = rw (kept_mode cpsr saved) g.known_mode;
        clear = eq-eqb (bits 24 21 (mode_kept cpsr saved)) 0 (kept_clear cpsr saved);
        standing = rw (kept_mode cpsr saved) g.standing;
      })

  pub word_fits : saved < 2 ^ 32 → word_after cpsr scr hcr saved < 2 ^ 32
  word_fits l = after_cases (λ w. w < 2 ^ 32) (λ e. l) (λ e. kept_fits cpsr saved)

  -- the level never rises
  pub level_falls : level (mode_field (word_after cpsr scr hcr saved)) (SCR_NS scr) ≤ level (mode_field cpsr) (SCR_NS scr)
  level_falls =
      after_cases (λ w. level (mode_field w) (SCR_NS scr) ≤ level (mode_field cpsr) (SCR_NS scr))
      (λ e. ltb-false (level (mode_field cpsr) (SCR_NS scr)) (level (mode_field saved) (SCR_NS scr)) (lawful e).below)
      (λ e. rw (kept_mode cpsr saved) (omega arith))

  -- Non-secure state is never left: a mode that is not Monitor's stands below Monitor
  pub stays_non_secure : secure cpsr scr ≡ false → secure (word_after cpsr scr hcr saved) scr ≡ false
  stays_non_secure h =
      after_cases (λ w. secure w scr ≡ false) (λ e. not_monitor (mode_field saved) (SCR_NS scr) (lawful e).below h)
      (λ e. rw (kept_mode cpsr saved) h)
    where
      not_monitor : (to : ℕ) (ns : Bool) → ltb (level (mode_field cpsr) ns) (level to ns) ≡ false
          → (not ns || mode_field cpsr is MONITOR) ≡ false → (not ns || to is MONITOR) ≡ false
      not_monitor to true b m =
          refuted (to is MONITOR)
          (λ e.
          let high = monitor_high to e in
          let low = below_monitor (mode_field cpsr) m in
          let k = ltb-false (level (mode_field cpsr) true) (level to true) b in
          absurd (omega arith))
      not_monitor to false b m = m

  -- on a good block a return to the same mode is legal, so an illegal one leaves another word than the saved one
  to_itself : Good cpsr scr hcr → mode_field saved ≡ mode_field cpsr → is_illegal cpsr scr hcr saved ≡ false
  to_itself g e =
      is_legal (level (mode_field cpsr) (SCR_NS scr)) (mode_field saved) (SCR_NS scr) (HCR_TGE hcr)
      (record {
        mode = rw e (ap not g.known_mode);
        below = rw e (ltb_same (level (mode_field cpsr) (SCR_NS scr)));
        hyp = rw e (not-true _ (and_left _ _ g.standing));
        guest =
            rw (e, ← ns_el1_lem cpsr scr) (not-true _ (and_right (not (mode_field cpsr is HYP && not (SCR_NS scr))) _ g.standing));
      })

  pub saved_exactly : Good cpsr scr hcr → (word_after cpsr scr hcr saved ≡ saved) ↔ (is_illegal cpsr scr hcr saved ≡ false)
  saved_exactly g = (after_cases (λ w. w ≡ saved → is_illegal cpsr scr hcr saved ≡ false) (λ e h. e) moved, rest)
    where
      moved : is_illegal cpsr scr hcr saved ≡ true → mode_kept cpsr saved ≡ saved → is_illegal cpsr scr hcr saved ≡ false
      moved e h = to_itself g (sym (ap mode_field h) ∙ kept_mode cpsr saved)

      rest : is_illegal cpsr scr hcr saved ≡ false → word_after cpsr scr hcr saved ≡ saved
      rest = after_cases (λ w. is_illegal cpsr scr hcr saved ≡ false → w ≡ saved) (λ e h. refl) (λ e h. absurd (true_is_not_false e h))

pub address_fits : (saved link a : ℕ) → address_after saved link a < 2 ^ 32
unfolding address_after
address_fits saved link a = by (CPSR_T saved)
  where
    by : (t : Bool) → (if t then bits 31 1 (less link a) else bits 31 2 (less link a)) < 2 ^ 32
    by true = omega arith
    by false = omega arith
