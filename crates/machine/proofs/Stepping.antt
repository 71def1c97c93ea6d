-- The step put together: what was decided is carried out; over an answer buffer, a wrong size leaves both buffers.
use Rattle.std.specs.Array.{IsWholeChunk}
use mathlib.Core.Path.{◌≡◌, refl, sym, subst, ◌∙◌}
use mathlib.Core.Bool.{false}
use mathlib.Core.List.{List}
use Prim.Native.Nat.{ℕ, ◌<◌, ◌^◌}
use lib.ListN.{length}
use borrow.Author.Tests.{eqb-false, eq-eqb, ne_eqb}
use Rattle.words.specs.Word.{word}
use Rattle.state.specs.Choice.{◌is◌}
use Rattle.state.specs.Number.{DONE, BAD_SIZE, BAD_EVENT}
use Rattle.state.specs.Place.{BLOCK_SIZE, CPSR, SCR, HCR}
use Rattle.state.specs.Refusal.{number}
use Rattle.state.specs.State.{fault, fault_of}
use Rattle.state.specs.declared.refusal.Refusal.{Refusal}
use Rattle.state.specs.declared.refusal.Refusal.TheVariants.{BadEvent}
use Rattle.state.proofs.Sets.{Unlike, unlike_among}
use Rattle.entry.specs.Code.{codes, is_known}
use Rattle.rules.specs.declared.event.Event.{Event}
use Rattle.rules.specs.Step.{ANSWER_SIZE, Action, Refuse, action, answer_to, block_after, answer, after, number_returned}
use Rattle.rules.specs.Step.{block_left, answer_left, answer_bytes}
use Rattle.rules.specs.Known.{direct, SeenCode}
use Rattle.rules.specs.Parts.{Carried, Told}
use Rattle.rules.specs.Verdict.{refused_with}
use Rattle.rules.specs.declared.verdict.Answer.{Answer}
use Rattle.rules.proofs.Carrying.{refused, carried, refuses}
use Rattle.rules.proofs.Deciding.{event, bad_size, faulty, fault_read, no_code}

module _ (b : List ℕ) (e : Event) where
  carried_out : {x : Action} {r : Answer} {l : List ℕ} → x ≡ action b e → (r ≡ answer_to b x) × (l ≡ block_after b x)
      → (r ≡ answer b e) × (l ≡ after b e)
  unfolding answer after
  carried_out h p = (rw (← h) p.0, rw (← h) p.1)

  pub wrong_size : {r : Answer} → (length b ≡ BLOCK_SIZE → ⊥) → r ≡ refused_with BAD_SIZE
      → (r ≡ answer b e) × (b ≡ after b e)
  wrong_size {r} n h = carried_out {x = Refuse BAD_SIZE} {r = r} {l = b} (bad_size b e (ne_eqb (length b) BLOCK_SIZE n)) (h, refl)

  -- a fault that was found refuses
  pub by_fault : {n : ℕ} → length b ≡ BLOCK_SIZE → n ≡ fault b → (n ≡ DONE → ⊥) → Refuse n ≡ action b e
  by_fault s h k = rw h (faulty b e s (λ z. k (h ∙ z)))

  -- what a step on buffers of the right sizes returns and leaves; its value fits a word
  abbrev pub Performed : ℕ → List ℕ → List ℕ → Type 0
  Performed n l m =
      (n ≡ (answer b e).number) × ((l ≡ after b e) × ((m ≡ answer_bytes (answer b e)) × ((answer b e).value < 2 ^ 32)))

  pub performed : {n : ℕ} {l m : List ℕ} → Carried b (action b e) n l m → Performed n l m
  unfolding answer after
  performed h = (h.1.0, (h.0, (h.1.1, h.1.2)))

  -- over an answer buffer
  module _ (buffer : List ℕ) where
    -- what it returns, and what it leaves in the block and in the buffer
    abbrev pub Stepped : ℕ → List ℕ → List ℕ → Type 0
    Stepped n l m = (n ≡ number_returned b e buffer) × ((l ≡ block_left b e buffer) × (m ≡ answer_left b e buffer))

    pub wrong_block : (length b ≡ BLOCK_SIZE → ⊥) → Stepped BAD_SIZE b buffer
    unfolding number_returned block_left answer_left
    wrong_block n = let t = ne_eqb (length b) BLOCK_SIZE n in (rw t, (rw t, rw t))

    pub wrong_buffer : length b ≡ BLOCK_SIZE → (length buffer ≡ ANSWER_SIZE → ⊥) → Stepped BAD_SIZE b buffer
    unfolding number_returned block_left answer_left
    wrong_buffer s n =
        let t = eq-eqb (length b) BLOCK_SIZE s in
        let u = ne_eqb (length buffer) ANSWER_SIZE n in
        (rw (t, u), (rw (t, u), rw (t, u)))

    pub right_sizes : {n : ℕ} {l m : List ℕ} → length b ≡ BLOCK_SIZE → length buffer ≡ ANSWER_SIZE → Performed n l m
        → Stepped n l m
    unfolding number_returned block_left answer_left
    right_sizes s z p =
        let t = eq-eqb (length b) BLOCK_SIZE s in
        let u = eq-eqb (length buffer) ANSWER_SIZE z in
        (rw (t, u) p.0, (rw (t, u) p.1.0, rw (t, u) p.1.1.0))

-- a code that is no arm's, as the last of them knows it
pub no_arm : (code : ℕ) → Unlike (Unit {0}) code codes → is_known code ≡ false
no_arm code h = (unlike_among (Unit {0}) code codes h).1

-- by the three words that were read of a block
module _ (b : List ℕ) (s : length b ≡ BLOCK_SIZE) {cpsr scr hcr : ℕ} (ec : cpsr ≡ word b CPSR) (es : scr ≡ word b SCR)
    (eh : hcr ≡ word b HCR) where
  -- a fault refuses any event
  pub refused_by_fault : (e : Event) (r : Refusal) → number r ≡ fault_of cpsr scr hcr → {n : ℕ} {m : List ℕ}
      → Told (refused_with (number r)) n m → Carried b (action b e) n b m
  refused_by_fault e r f t =
      carried b (action b e)
      (refused b r (by_fault b e s (fault_read b ec es eh f) (eqb-false (number r) DONE (refuses r)))) t

  -- and without one a code that is no arm's is refused
  pub refused_by_code : DONE ≡ fault_of cpsr scr hcr → (code a w : ℕ) → Unlike (Unit {0}) code codes → {n : ℕ} {m : List ℕ}
      → Told (refused_with BAD_EVENT) n m → Carried b (action b (event code a w)) n b m
  refused_by_code f code a w u t =
      carried b (action b (event code a w))
      (refused b BadEvent (no_code b a w s (sym (fault_read b ec es eh f)) code (no_arm code u))) t

-- what is carried out on an array is carried out on the slice that it is
pub on_slice : (e : Event) {b k : List ℕ} {n : ℕ} {l m : List ℕ} → k ≡ b → Carried k (action k e) n l m → Carried b (action b e) n l m
on_slice e {n = n} {l = l} {m = m} q h = subst (λ (x : List ℕ). Carried x (action x e) n l m) q h
