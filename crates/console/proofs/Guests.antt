-- A batch of its lengths leaves the answers and the block of single direct steps in order; of banked accesses these are the machine's own,
-- of which its theorem speaks.
use Rattle.std.specs.Prelude.{if◌then◌else◌}
use mathlib.Core.Path.{◌≡◌, refl, sym, ap, ◌∙◌}
use mathlib.Core.Bool.{Bool, true, false}
use mathlib.Core.List.{List, [], ◌∷◌}
use Prim.Native.Nat.{ℕ}
use lib.ListN.{length, take}
use lib.Seq.{take-length}
use borrow.Author.Tests.{eq-eqb, eqb-true}
use Rattle.state.specs.Choice.{◌is◌}
use Rattle.state.specs.Number.{DONE, BAD_SIZE}
use Rattle.state.specs.Place.{BLOCK_SIZE}
use Rattle.state.proofs.Test.{refuted, true_is_not_false}
use Rattle.rules.specs.Direct.{direct_run, direct_answers}
use Rattle.rules.specs.Event.{INTERRUPT_CHECK, is_banked}
use Rattle.rules.specs.Known.{direct}
use Rattle.rules.specs.Run.{run_by, answers_by, run, answers}
use Rattle.rules.specs.Step.{answer, after}
use Rattle.rules.specs.declared.event.Event.{Event}
use Rattle.rules.specs.declared.verdict.Answer.{Answer}
use Rattle.machine.specs.Guest.{Guests, AllBanked}
use Rattle.machine.proofs.Guest.{nothing_carried}
use Rattle.machine.proofs.Theorems.{lines_retired}
use Rattle.console.specs.Batch.{suits}
use Rattle.console.specs.Guest.{Call, SameToBoth, GuestTheorems}

-- ---- a list of banked accesses, each of which a direct step sees as it is

no_check : (code : ℕ) → is_banked code ≡ true → (code is INTERRUPT_CHECK) ≡ false
no_check code h =
    refuted (code is INTERRUPT_CHECK) (λ t. true_is_not_false h (ap is_banked (eqb-true code INTERRUPT_CHECK t)))

as_they_are : (es : List Event) (b : List ℕ) → AllBanked es → (direct_answers b es ≡ answers b es) × (direct_run b es ≡ run b es)
unfolding run_by answers_by
as_they_are [] b k = (refl, refl)
as_they_are (e ∷ es) b k =
    let same : direct e ≡ e = lines_retired.others_stay e (rw (no_check e.code k.0) refl) in
    let rest = as_they_are es (after b e) k.1 in (
      (λ i. answer b (same i) ∷ direct_answers (after b (same i)) es) ∙ ap (λ (xs : List Answer). answer b e ∷ xs) rest.0,
      (λ i. direct_run (after b (same i)) es) ∙ rest.1,
    )

-- ---- a call whose block has its size

module _ {es : List Event} (x : Call es) (size : length x.block ≡ BLOCK_SIZE) (banked : AllBanked es) where
  suited : suits es x.room x.block ≡ true
  suited = simp (eq-eqb (length es) (length x.room) x.fits, eq-eqb (length x.block) BLOCK_SIZE size)

  done : x.number ≡ DONE
  done = x.batched.number ∙ ap (λ (t : Bool). if t then DONE else BAD_SIZE) suited

  told_is : x.told ≡ answers x.block es
  told_is =
      x.batched.answered
      ∙ ap (λ (t : Bool). if t then direct_answers x.block es else x.room) suited
      ∙ (as_they_are es x.block banked).0

  -- the block after all its events, which are the first of them, so many as there are
  left_is : run x.block (take (length es) es) ≡ x.left
  left_is =
      ap (run x.block) (take-length es)
      ∙ sym (as_they_are es x.block banked).1
      ∙ sym (x.batched.block ∙ ap (λ (t : Bool). if t then direct_run x.block es else x.block) suited)

same_to_both : {es : List Event} (one other : Call es) → Guests one.block other.block → AllBanked es → SameToBoth one other
same_to_both {es} one other g k =
    let s = g.alike.first_size in
    let t = g.alike.second_size in
    let h = nothing_carried one.block other.block es g k in
    let n = length es in
    record {
      one_done = done one s k;
      other_done = done other t k;
      same_answers = told_is one s k ∙ h.same_answers ∙ sym (told_is other t k);
      alike = rw (left_is one s k, left_is other t k) at (h.stay_alike n);
      one_keeps = rw (left_is one s k) at (h.first_keeps n);
      other_keeps = rw (left_is other t k) at (h.second_keeps n);
    }

pub theorems : GuestTheorems
theorems = record { same_to_both = same_to_both }
