-- A debug abort that TDE traps is routed as one of stage 2 (entry's routed_a), which from there goes to Hyp; any other by its own A, of
-- which neither bit that routing asks for is set, as none of A 0 is.
use mathlib.Core.Path.{◌≡◌, refl, ap, ◌∙◌}
use mathlib.Core.Bool.{Bool, true, false, ◌||◌}
use mathlib.Core.List.{List}
use Prim.Native.Nat.{ℕ}
use lib.ListN.{length}
use borrow.Author.Tests.{eq-eqb}
use Rattle.words.specs.Word.{word}
use Rattle.state.specs.Choice.{◌is◌}
use Rattle.state.specs.Field.{mode_field, HDCR_TDE}
use Rattle.state.specs.Mode.{HYP, known}
use Rattle.state.specs.Number.{DONE}
use Rattle.state.specs.Place.{BLOCK_SIZE, CPSR, SCR, HCR, HDCR}
use Rattle.state.specs.State.{secure, fault}
use Rattle.state.proofs.Test.{and_left, true_is_not_false}
use Rattle.entry.specs.Code.{PREFETCH_ABORT, STAGE_2}
use Rattle.entry.specs.Route.{not_here, disabled, to_monitor, to_hyp}
use Rattle.entry.specs.Route as synchronous
use Rattle.entry.proofs.Debug.{of_guest}
use Rattle.rules.specs.Event.{bad_event}
use Rattle.rules.specs.Refusal.{refusal}
use Rattle.rules.specs.Step.{routed_in, action, done_action, answer_to, block_after, answer, after}
use Rattle.rules.proofs.Deciding.{fault_clear}
use Rattle.machine.specs.Claims.{debug_abort, plain_abort, debug_trapped_in, DebugToHyp, AsPlain, target, offset}
use Rattle.machine.proofs.Leaving.{enters_as_routed}

module _ (b : List ℕ) where
  -- ---- trapped

  module _ (h : debug_trapped_in b ≡ true) where
    -- from there it is not Hyp
    not_hyp : (mode_field (word b CPSR) is HYP) ≡ false
    not_hyp =
        or_second (secure (word b CPSR) (word b SCR)) (mode_field (word b CPSR) is HYP)
        (of_guest (word b CPSR) (word b SCR) (and_left _ (HDCR_TDE (word b HDCR)) h))
      where
        or_second : (t u : Bool) → (t || u) ≡ false → u ≡ false
        or_second true u e = absurd (true_is_not_false refl e)
        or_second false u e = e

    as_stage2 : routed_in b PREFETCH_ABORT 4 ≡ STAGE_2
    as_stage2 = rw h refl

    pub is_to_hyp : target b debug_abort ≡ HYP
    unfolding synchronous.target to_monitor to_hyp
    is_to_hyp = ap (λ a. synchronous.target PREFETCH_ABORT a (word b CPSR) (word b SCR) (word b HCR)) as_stage2

    pub at_14 : offset b debug_abort ≡ 0x14
    unfolding synchronous.offset synchronous.target to_monitor to_hyp
    at_14 =
        ap (λ a. synchronous.offset PREFETCH_ABORT a (word b CPSR) (word b SCR) (word b HCR)) as_stage2
        ∙ rw not_hyp refl

  -- no row refuses it
  done : length b ≡ BLOCK_SIZE → fault b ≡ DONE → refusal b debug_abort ≡ DONE
  unfolding refusal bad_event not_here disabled
  done l g = let clear = fault_clear b g in rw (eq-eqb (length b) BLOCK_SIZE l, clear.0, clear.1) refl

  pub debug_to_hyp : length b ≡ BLOCK_SIZE → fault b ≡ DONE → debug_trapped_in b ≡ true → DebugToHyp b
  debug_to_hyp l g h =
      record { done = done l g; is_to_hyp = is_to_hyp h; at_14 = at_14 h; enters = enters_as_routed b debug_abort (done l g) refl }

  -- ---- not trapped

  same_action : debug_trapped_in b ≡ false → action b debug_abort ≡ action b plain_abort
  unfolding action done_action refusal known bad_event not_here disabled synchronous.way synchronous.target synchronous.offset
      synchronous.link to_monitor to_hyp
  same_action h = rw h refl

  pub debug_as_plain : debug_trapped_in b ≡ false → AsPlain b
  unfolding answer after
  debug_as_plain h = record { answers = ap (answer_to b) (same_action h); leaves = ap (block_after b) (same_action h) }
