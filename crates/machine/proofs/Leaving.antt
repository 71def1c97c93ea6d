-- What a step leaves, by the code of its event.
use mathlib.Core.Path.{◌≡◌, refl, ap, ◌∙◌}
use mathlib.Core.Bool.{Bool, true, false, not, ◌&&◌, ◌||◌}
use mathlib.Core.Logic.{◌⊎◌, inl, inr}
use mathlib.Core.List.{List}
use Prim.Native.Nat.{ℕ}
use lib.ListN.{length}
use borrow.Author.Tests.{eq-eqb, ne_eqb, not-false}
use Rattle.words.specs.Word.{word, put}
use Rattle.state.specs.Field.{SCR_SCD, SCR_HCE}
use Rattle.state.specs.Number.{DONE}
use Rattle.state.specs.Place.{BLOCK_SIZE, CPSR, SCR, HCR, HDCR}
use Rattle.banked.specs.Cell.{cell}
use Rattle.returns.specs.Return.{pc_returned}
use Rattle.rules.specs.Event.{BANKED_READ, BANKED_WRITE, NOTE, RETURN}
use Rattle.entry.specs.Code.{INTERRUPT_CHECK, SMC, HVC, is_synchronous}
use Rattle.entry.specs.Route as synchronous
use Rattle.entry.proofs.Debug.{here_routed}
use Rattle.state.proofs.Test.{true_is_not_false}
use Rattle.rules.proofs.Deciding.{by_code}
use Rattle.rules.proofs.Rows.{passed}
use Rattle.machine.specs.Claims.{target, offset, link, EntersAsRouted}
use Rattle.rules.specs.declared.event.Event.{Event}
use Rattle.rules.specs.Refusal.{refusal}
use Rattle.rules.specs.Step.{ANSWER_SIZE, Take, returned, done_action, action, answer_to, block_after, answer, after}
use Rattle.rules.specs.Step.{number_returned, block_left, answer_left, answer_bytes}
use Rattle.rules.specs.Verdict.{answer_for, refused_with}
use Rattle.rules.specs.declared.verdict.Verdict.TheVariants.{Register, Written, Returned}
use Rattle.interrupts.specs.declared.exception.Exception.TheVariants.{Synchronous}

-- a refused step: its number, the value 0, and every byte
pub refused_leaves : (b : List ℕ) (e : Event) → (refusal b e ≡ DONE → ⊥)
    → (answer b e ≡ refused_with (refusal b e)) × (after b e ≡ b)
unfolding answer after action
refused_leaves b e h = let t = ne_eqb (refusal b e) DONE h in (rw t, rw t)

-- an SMC that is trapped is not disabled
pub trap_first : (cpsr scr hcr : ℕ) → synchronous.trapped SMC cpsr scr hcr ≡ true → synchronous.disabled SMC cpsr scr hcr ≡ false
unfolding synchronous.disabled
trap_first cpsr scr hcr h = rw h (barred (SCR_SCD scr))
  where
    barred : (d : Bool) → (d && false || false) ≡ false
    barred true = refl
    barred false = refl

module _ (b : List ℕ) (e : Event) (done : refusal b e ≡ DONE) where
  done_is : action b e ≡ done_action b e
  unfolding action
  done_is = rw (eq-eqb (refusal b e) DONE done)

  pub left : after b e ≡ block_after b (done_action b e)
  unfolding after
  left = ap (block_after b) done_is

  told : answer b e ≡ answer_to b (done_action b e)
  unfolding answer
  told = ap (answer_to b) done_is

  pub read_tells : e.code ≡ BANKED_READ → answer b e ≡ answer_for (Register (word b (cell e.a)))
  unfolding done_action
  read_tells c = told ∙ rw c

  pub write_tells : e.code ≡ BANKED_WRITE → answer b e ≡ answer_for (Written e.b)
  unfolding done_action
  write_tells c = told ∙ rw c

  pub note_tells : e.code ≡ NOTE → answer b e ≡ answer_for (Written e.b)
  unfolding done_action
  note_tells c = told ∙ rw c

  -- a synchronous event that no row refuses goes its way
  pub takes_as_routed : is_synchronous e.code ≡ true → action b e ≡ Take Synchronous (target b e) (offset b e) (link b e)
  unfolding synchronous.way
  takes_as_routed y =
      let here : synchronous.not_here e.code e.a (word b CPSR) (word b SCR) ≡ false = rw y at (passed b e done).here in
      let able : synchronous.disabled e.code (word b CPSR) (word b SCR) (word b HCR) ≡ false = rw y at (passed b e done).able in
      let routed = here_routed e.code e.a (word b CPSR) (word b SCR) (word b HDCR) in
      done_is
      ∙ by_code (λ x. x ≡ Take Synchronous (target b e) (offset b e) (link b e)) b e.code e.a e.b
      (λ c. absurd (not_one INTERRUPT_CHECK refl c)) (λ c. absurd (not_one BANKED_READ refl c))
      (λ c. absurd (not_one BANKED_WRITE refl c)) (λ c. absurd (not_one NOTE refl c))
      (λ c. absurd (not_one RETURN refl c)) (λ o. rw (routed, y, here, able))
    where
      not_one : (k : ℕ) → is_synchronous k ≡ false → e.code ≡ k → ⊥
      not_one k n c = true_is_not_false y (ap is_synchronous c ∙ n)

  pub enters_as_routed : is_synchronous e.code ≡ true → EntersAsRouted b e
  unfolding answer after
  enters_as_routed y =
      let goes = takes_as_routed y in
      record { answers = ap (answer_to b) goes; leaves = ap (block_after b) goes }

  -- a return that no row refuses writes CPSR and PC
  pub returns : e.code ≡ RETURN → action b e ≡ returned b e.a
  unfolding done_action
  returns c = done_is ∙ rw c

  pub return_tells : e.code ≡ RETURN → answer b e ≡ answer_for (Returned (pc_returned b e.a))
  unfolding answer
  return_tells c = ap (answer_to b) (returns c)

  -- a call that no row refuses has its bit as asked, or was trapped
  smc_bits : (d t : Bool) → (d && not t || false) ≡ false → (d ≡ false) ⊎ (t ≡ true)
  smc_bits true true h = inr refl
  smc_bits true false h = absurd (true_is_not_false refl h)
  smc_bits false t h = inl refl

  pub smc_enabled : e.code ≡ SMC
      → (SCR_SCD (word b SCR) ≡ false) ⊎ (synchronous.trapped SMC (word b CPSR) (word b SCR) (word b HCR) ≡ true)
  unfolding synchronous.disabled
  smc_enabled c = smc_bits _ _ (rw c at (passed b e done).able)

  pub hvc_enabled : e.code ≡ HVC → SCR_HCE (word b SCR) ≡ true
  unfolding synchronous.disabled
  hvc_enabled c = not-false _ (rw c at (passed b e done).able)

  pub read_leaves_lem : e.code ≡ BANKED_READ → after b e ≡ b
  unfolding done_action
  read_leaves_lem c = left ∙ rw c

  pub write_leaves_lem : e.code ≡ BANKED_WRITE → after b e ≡ put b (cell e.a) e.b
  unfolding done_action
  write_leaves_lem c = left ∙ rw c

  pub note_leaves : e.code ≡ NOTE → after b e ≡ put b e.a e.b
  unfolding done_action
  note_leaves c = left ∙ rw c

-- over an answer buffer that has its size, as the block has: the same step
pub lent : (b : List ℕ) (e : Event) (m : List ℕ) → length b ≡ BLOCK_SIZE → length m ≡ ANSWER_SIZE
    → (number_returned b e m ≡ (answer b e).number) × (block_left b e m ≡ after b e) × (answer_left b e m ≡ answer_bytes (answer b e))
unfolding number_returned block_left answer_left
lent b e m s z =
    let t = eq-eqb (length b) BLOCK_SIZE s in
    let u = eq-eqb (length m) ANSWER_SIZE z in
    (rw (t, u), rw (t, u), rw (t, u))
