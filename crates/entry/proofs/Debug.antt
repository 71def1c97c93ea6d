-- A debug abort (document 02, No. 11) is routed by an A that is here where its own is: TDE sends to Hyp only what may have a stage 2.
use Rattle.std.proofs.Common.{◌≡◌, ℕ, Bool, true, false, not, ◌&&◌, ◌||◌, sym, refl, ap, ◌∙◌, eqb-true, if◌then◌else◌}
use Rattle.state.specs.Choice.{◌is◌}
use Rattle.state.specs.Field.{mode_field, HDCR_TDE}
use Rattle.state.specs.Mode.{USER, HYP, el1}
use Rattle.state.specs.State.{secure, ns_user, ns_el1}
use Rattle.state.proofs.Test.{and_left, and_right, true_is_not_false}
use Rattle.entry.specs.Code.{PREFETCH_ABORT, STAGE_2, debug, stage2}
use Rattle.entry.specs.Route.{not_here, debug_trapped, routed_a}
use Rattle.entry.proofs.Ways.{el1_no_hyp}

-- neither Secure nor in Hyp
pub of_guest : (cpsr scr : ℕ) → (ns_user cpsr scr || ns_el1 cpsr scr) ≡ true → (secure cpsr scr || mode_field cpsr is HYP) ≡ false
of_guest cpsr scr h = by (secure cpsr scr) (m is USER) refl h
  where
    m : ℕ
    m = mode_field cpsr

    by : (sec user : Bool) → (m is USER) ≡ user → ((not sec && user) || (not sec && el1 m)) ≡ true → (sec || m is HYP) ≡ false
    by true user e k = absurd (true_is_not_false k refl)
    by false true e k = ap (λ n. n is HYP) (eqb-true m USER e)
    by false false e k = el1_no_hyp m k

pub here_routed : (code a cpsr scr hdcr : ℕ) → not_here code (routed_a code a cpsr scr hdcr) cpsr scr ≡ not_here code a cpsr scr
unfolding not_here
here_routed code a cpsr scr hdcr = by (debug_trapped code a cpsr scr hdcr) refl
  where
    asked : (t : Bool) → (t && false) ≡ false
    asked true = refl
    asked false = refl

    -- what asks for a stage 2 is here
    here : (x : ℕ) → debug_trapped code a cpsr scr hdcr ≡ true → not_here code x cpsr scr ≡ false
    here x h =
        let is_debug = and_left (code is PREFETCH_ABORT && debug a) _ h in
        let is_guest = and_left _ (HDCR_TDE hdcr) (and_right (code is PREFETCH_ABORT && debug a) _ h) in
        rw (eqb-true code PREFETCH_ABORT (and_left (code is PREFETCH_ABORT) (debug a) is_debug), of_guest cpsr scr is_guest)
        (asked (stage2 x))

    by : (t : Bool) → debug_trapped code a cpsr scr hdcr ≡ t → not_here code (if t then STAGE_2 else a) cpsr scr ≡ not_here code a cpsr scr
    by true h = here STAGE_2 h ∙ sym (here a h)
    by false h = refl
