-- A note is judged by the words that it would leave; one on another word leaves them as they are.
use Rattle.std.specs.Prelude.{Result, Ok, Err}
use mathlib.Core.Path.{◌≡◌, refl, sym, ap, ◌∙◌}
use mathlib.Core.List.{List}
use Prim.Native.Nat.{ℕ, ◌<◌, ◌≤◌, ◌^◌}
use borrow.Author.Tests.{ne_eqb}
use lib.ListN.{length}
use Rattle.words.specs.Word.{word, put}
use Rattle.state.specs.Number.{DONE}
use Rattle.state.specs.Place.{BLOCK_SIZE, PLACES, CPSR, SCR, HCR}
use Rattle.state.specs.Refusal.{number_of}
use Rattle.state.specs.State.{fault, fault_of}
use Rattle.state.specs.declared.refusal.Refusal.{Refusal}
use Rattle.state.specs.declared.refusal.Refusal.TheVariants.{BadEvent}
use Rattle.rules.specs.Event.{NOTE, bad_event}
use Rattle.rules.specs.Parts.{CameTo, judged_put}
use Rattle.rules.specs.Step.{action}
use Rattle.rules.specs.declared.verdict.Verdict.{Verdict}
use Rattle.rules.specs.declared.verdict.Verdict.TheVariants.{Written}
use Rattle.rules.proofs.Carrying.{refused, refuses, same_action}
use Rattle.rules.proofs.Deciding.{event, noted_word, at_note}
use Rattle.rules.proofs.Operands.{beyond, below, malformed}

-- the word put, unless what was judged refuses it
module _ (b : List ℕ) (p v : ℕ) {judged : Result Unit Refusal} where
  pub put_refused : (r : Refusal) → judged ≡ Err r → CameTo b (judged_put p v (number_of judged)) (Err r) b
  unfolding judged_put
  put_refused r e = rw (e, refuses r) (refused b r refl)

  pub put_done : {x : Unit {0}} {l : List ℕ} → judged ≡ Ok x → l ≡ put b p v
      → CameTo b (judged_put p v (number_of judged)) (Ok (Written v)) l
  unfolding judged_put
  put_done e h = rw e (record { block = h; answer = refl; verdict = refl; small = tt })

-- the fault of the words that a note of v at the place a would leave, by which of them it is on
module _ (b : List ℕ) (a v : ℕ) where
  abbrev pub noted_fault : ℕ
  noted_fault = fault_of (noted_word a v CPSR (word b CPSR)) (noted_word a v SCR (word b SCR)) (noted_word a v HCR (word b HCR))

  pub on_cpsr : {n scr hcr : ℕ} → a ≡ CPSR → scr ≡ word b SCR → hcr ≡ word b HCR → n ≡ fault_of v scr hcr → n ≡ noted_fault
  on_cpsr e es eh f = rw (e, ← es, ← eh) f

  pub on_scr : {n cpsr hcr : ℕ} → a ≡ SCR → cpsr ≡ word b CPSR → hcr ≡ word b HCR → n ≡ fault_of cpsr v hcr → n ≡ noted_fault
  on_scr e ec eh f = rw (e, ← ec, ← eh) f

  pub on_hcr : {n cpsr scr : ℕ} → a ≡ HCR → cpsr ≡ word b CPSR → scr ≡ word b SCR → n ≡ fault_of cpsr scr v → n ≡ noted_fault
  on_hcr e ec es f = rw (e, ← ec, ← es) f

  pub on_another : (a ≡ CPSR → ⊥) → (a ≡ SCR → ⊥) → (a ≡ HCR → ⊥) → fault b ≡ DONE → DONE ≡ noted_fault
  unfolding fault
  on_another c s h good = rw (ne_eqb a CPSR c, ne_eqb a SCR s, ne_eqb a HCR h) (sym good)

  -- on a good block
  module _ (size : length b ≡ BLOCK_SIZE) (good : fault b ≡ DONE) where
    pub note_malformed : PLACES ≤ a → CameTo b (action b (event NOTE a v)) (Err BadEvent) b
    unfolding bad_event
    note_malformed l = malformed b NOTE a v size good refl (beyond PLACES a l)

    pub noted : {n : ℕ} {o : Result Verdict Refusal} {l : List ℕ} → a < PLACES → v < 2 ^ 32 → n ≡ noted_fault
        → CameTo b (judged_put a v n) o l → CameTo b (action b (event NOTE a v)) o l
    unfolding bad_event
    noted la fits e = same_action b (ap (judged_put a v) e ∙ at_note b a v size good fits (below PLACES a la))
