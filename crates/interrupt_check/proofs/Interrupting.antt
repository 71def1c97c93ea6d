-- A check, by the test of its operands and by what it found.
use Rattle.std.specs.Prelude.{Option, Some, None, Result, Ok, Err}
use mathlib.Core.Path.{◌≡◌, refl, sym, ◌∙◌}
use mathlib.Core.Bool.{Bool, true, false, not, ◌&&◌, ◌||◌}
use mathlib.Core.List.{List}
use Prim.Native.Nat.{ℕ, ◌<◌, ◌^◌}
use lib.Dec.{ltb}
use lib.ListN.{length}
use Rattle.words.specs.Word.{word}
use Rattle.state.specs.Choice.{◌is◌}
use Rattle.state.specs.Number.{DONE}
use Rattle.state.specs.Place.{BLOCK_SIZE, CPSR, PC, SCR, HCR}
use Rattle.state.specs.Field.{mode_field, HCR_TGE}
use Rattle.state.specs.Mode.{MONITOR, HYP}
use Rattle.state.specs.State.{fault, secure}
use Rattle.state.specs.declared.refusal.Refusal.{Refusal}
use Rattle.state.specs.declared.refusal.Refusal.TheVariants.{BadEvent}
use Rattle.entry.specs.Route.{wrap}
use Rattle.entry.proofs.Ways.{wrap_none}
use Rattle.interrupts.specs.Check.{found, offset_of, physical_way, virtual_way, way}
use Rattle.interrupts.specs.Kind.{Kind, serror, fiq, irq, R, M, own_mode, own_offset, addend}
use Rattle.interrupts.specs.declared.exception.Exception.{Exception}
use Rattle.rules.specs.Event.{INTERRUPT_CHECK, LINE_VALUES, bad_event}
use Rattle.rules.specs.Parts.{CameTo}
use Rattle.rules.specs.Step.{Take, taken_by, checked, action}
use Rattle.rules.specs.declared.verdict.Verdict.{Verdict}
use Rattle.rules.specs.declared.verdict.Verdict.TheVariants.{NothingTaken}
use Rattle.rules.proofs.Carrying.{same_action}
use Rattle.rules.proofs.Deciding.{event, at_check}
use Rattle.rules.proofs.Operands.{within, malformed}

-- to another mode than Hyp it goes at its own offset
own_offset_lem : (k : Kind) (to from : ℕ) → (to is HYP) ≡ false → offset_of k to from ≡ own_offset k
own_offset_lem serror to from h = rw h
own_offset_lem fiq to from h = refl
own_offset_lem irq to from h = refl

own_is_not_hyp : (k : Kind) → (own_mode k is HYP) ≡ false
own_is_not_hyp serror = refl
own_is_not_hyp fiq = refl
own_is_not_hyp irq = refl

-- with R 0 and this M, does it go to Hyp?
abbrev ToHyp : ℕ → ℕ → ℕ → Bool → Bool
ToHyp cpsr scr hcr m = mode_field cpsr is HYP || (not (secure cpsr scr) && (HCR_TGE hcr || m))

-- a physical one, whose R was found to be r, goes its way: to Monitor, to Hyp, or to its own mode
pub record Routed (k : Kind) (x : Exception) (cpsr scr hcr pc : ℕ) (r : Bool) : Type 0 where
  pub is_to_monitor : {link : ℕ} → r ≡ true → link ≡ wrap pc (addend k)
      → Take x MONITOR (own_offset k) link ≡ taken_by x (physical_way k cpsr scr hcr pc)
  pub is_to_hyp : {m v : Bool} → r ≡ false → m ≡ M k hcr → v ≡ ToHyp cpsr scr hcr m → v ≡ true
      → Take x HYP (offset_of k HYP (mode_field cpsr)) pc ≡ taken_by x (physical_way k cpsr scr hcr pc)
  pub to_own : {m v : Bool} {link : ℕ} → r ≡ false → m ≡ M k hcr → v ≡ ToHyp cpsr scr hcr m → v ≡ false
      → link ≡ wrap pc (addend k) → Take x (own_mode k) (own_offset k) link ≡ taken_by x (physical_way k cpsr scr hcr pc)

pub physical : (k : Kind) (x : Exception) (cpsr scr hcr pc : ℕ) {r : Bool} → r ≡ R k scr → pc < 2 ^ 32
    → Routed k x cpsr scr hcr pc r
physical k x cpsr scr hcr pc {r} e fits = record {
  is_to_monitor = λ t h. rw (h, at t, own_offset_lem k MONITOR (mode_field cpsr) refl);
  is_to_hyp = λ t m v h. rw (at t, asked m v h, wrap_none pc fits);
  to_own = λ t m v h l. rw (
    l,
    at t,
    asked m v h,
    own_offset_lem k (own_mode k) (mode_field cpsr) (own_is_not_hyp k),
    own_is_not_hyp k,
  );
}
  where
    at : {t : Bool} → r ≡ t → R k scr ≡ t
    at h = sym e ∙ h

    asked : {m v t : Bool} → m ≡ M k hcr → v ≡ ToHyp cpsr scr hcr m → v ≡ t → ToHyp cpsr scr hcr (M k hcr) ≡ t
    asked m v h = rw (← m) (sym v ∙ h)

-- a virtual one, which was found to be y, goes to the guest
pub to_guest : (k : Kind) (pc : ℕ) {x y : Exception} {link : ℕ} → x ≡ y → link ≡ wrap pc (addend k)
    → Take x (own_mode k) (own_offset k) link ≡ taken_by y (virtual_way k pc)
to_guest k pc e h = rw (e, h, own_is_not_hyp k)

-- on a good block
module _ (b : List ℕ) (a w : ℕ) (size : length b ≡ BLOCK_SIZE) (good : fault b ≡ DONE) where
  pub check_malformed : (ltb a LINE_VALUES && w is 0) ≡ false → CameTo b (action b (event INTERRUPT_CHECK a w)) (Err BadEvent) b
  unfolding bad_event
  check_malformed t = malformed b INTERRUPT_CHECK a w size good refl (within LINE_VALUES a w t)

  module _ (t : (ltb a LINE_VALUES && w is 0) ≡ true) {cpsr scr hcr : ℕ} (ec : cpsr ≡ word b CPSR) (es : scr ≡ word b SCR)
      (eh : hcr ≡ word b HCR) where
    by : {f : Option Exception} → f ≡ found a cpsr scr hcr → checked a cpsr scr hcr (word b PC) f ≡ action b (event INTERRUPT_CHECK a w)
    unfolding bad_event
    by e = rw (e, ec, es, eh) (at_check b a w size good (within LINE_VALUES a w t))

    pub check_takes : (x : Exception) {o : Result Verdict Refusal} {l : List ℕ} → Some x ≡ found a cpsr scr hcr
        → CameTo b (taken_by x (way x cpsr scr hcr (word b PC))) o l → CameTo b (action b (event INTERRUPT_CHECK a w)) o l
    check_takes x e = same_action b (by e)

    pub check_quiet : None ≡ found a cpsr scr hcr → CameTo b (action b (event INTERRUPT_CHECK a w)) (Ok (NothingTaken a)) b
    check_quiet e = same_action b (by e) (record { block = refl; answer = refl; verdict = refl; small = tt })
