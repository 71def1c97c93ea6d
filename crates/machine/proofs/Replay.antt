-- What is read back of an answer buffer: on a block of its right size the two words of the answer. Of a block of another size `replay`
-- leaves the buffer as it was, and `advance` refuses one before there is a buffer.
use mathlib.Core.Path.{◌≡◌, refl, ap, ◌∙◌}
use mathlib.Core.Bool.{Bool, true, false}
use mathlib.Core.List.{List, [], ◌∷◌}
use Prim.Native.Nat.{ℕ, ◌<◌, ◌^◌}
use lib.ListN.{length}
use borrow.Author.Tests.{eq-eqb, eqb-true, eqb-false}
use Rattle.words.specs.Word.{spelt, word}
use Rattle.state.specs.Choice.{◌is◌}
use Rattle.state.specs.Number.{BAD_SIZE}
use Rattle.state.specs.Place.{BLOCK_SIZE}
use Rattle.rules.specs.declared.event.Event.{Event}
use Rattle.rules.specs.Parts.{Carried}
use Rattle.rules.specs.Step.{ANSWER_SIZE, action, answer, after, number_returned, block_left, answer_left}
use Rattle.rules.specs.Verdict.{refused_with}
use Rattle.rules.specs.declared.verdict.Answer.{Answer}
use Rattle.rules.proofs.Buffer.{first_word, second_word}
use Rattle.machine.proofs.Laws.{number_fits}
use Rattle.machine.proofs.Stepping.{Performed, wrong_size, performed, on_slice}

-- an answer by its two words
abbrev pub answer_in : ℕ → ℕ → Answer
answer_in n v = record { number = n; value = v }

-- an answer buffer that nothing was written into yet
abbrev pub cleared : List ℕ
cleared = 0 ∷ 0 ∷ 0 ∷ 0 ∷ 0 ∷ 0 ∷ 0 ∷ 0 ∷ []

module _ (b : List ℕ) (e : Event) where
  module _ (buffer : List ℕ) where
    -- the value fits a word where the step is carried out
    abbrev pub Fits : Type 0
    Fits = length b ≡ BLOCK_SIZE → length buffer ≡ ANSWER_SIZE → (answer b e).value < 2 ^ 32

    -- what `replay` says of the number that it returns and of the block and the buffer that it leaves
    abbrev pub Replayed : ℕ → List ℕ → List ℕ → Type 0
    Replayed n l m =
        (n ≡ number_returned b e buffer) × ((l ≡ block_left b e buffer) × ((m ≡ answer_left b e buffer) × Fits))

    -- both sizes are right: the step is carried out
    pub carried : {l m : List ℕ} {n : ℕ} → Replayed n l m → length b ≡ BLOCK_SIZE → length buffer ≡ ANSWER_SIZE
        → Performed b e n l m
    unfolding number_returned block_left answer_left
    carried p s z =
        let t = eq-eqb (length b) BLOCK_SIZE s in
        let u = eq-eqb (length buffer) ANSWER_SIZE z in
        (rw (t, u) at p.0, (rw (t, u) at p.1.0, (rw (t, u) at p.1.1.0, p.1.1.1 s z)))

  -- its answer is the two words of the buffer
  first_read : {l m : List ℕ} {n : ℕ} → Performed b e n l m → word m 0 ≡ (answer b e).number
  first_read p = rw p.1.1.0 (first_word (answer b e).number (answer b e).value (number_fits b e))

  second_read : {l m : List ℕ} {n : ℕ} → Performed b e n l m → word m 1 ≡ (answer b e).value
  second_read p = rw p.1.1.0 (second_word (answer b e).number (answer b e).value p.1.1.1)

  pub read_back : {l m : List ℕ} {n : ℕ} → Performed b e n l m → answer_in (word m 0) (word m 1) ≡ answer b e
  read_back p = λ i. answer_in (first_read p i) (second_read p i)

  -- the answer by value, over a buffer of one's own, on a block whose size was found right
  pub by_value : {k l m : List ℕ} {n v w : ℕ} → k ≡ b → Carried k (action k e) n l m → v ≡ word m 0 → w ≡ word m 1
      → (answer_in v w ≡ answer b e) × (l ≡ after b e)
  by_value q h x y = let p = performed b e (on_slice e q h) in ((λ i. answer_in (x i) (y i)) ∙ read_back p, p.1.0)

  -- and on one of another size
  pub by_value_refused : {v : ℕ} → (length b ≡ BLOCK_SIZE → ⊥) → v ≡ BAD_SIZE → (answer_in v 0 ≡ answer b e) × (b ≡ after b e)
  by_value_refused n x = wrong_size b e n (ap refused_with x)

  -- the answer of a replay by value, over a buffer of one's own, whatever the block's size is
  pub by_replay : {l m : List ℕ} {n v : ℕ} → Replayed cleared n l m → v ≡ word m 1
      → (answer_in n v ≡ answer b e) × (l ≡ after b e)
  unfolding number_returned block_left answer_left spelt
  by_replay {l} {m} {n} {v} p q = by (length b is BLOCK_SIZE) refl
    where
      by : (t : Bool) → (length b is BLOCK_SIZE) ≡ t → (answer_in n v ≡ answer b e) × (l ≡ after b e)
      by true t =
          let k = carried cleared p (eqb-true (length b) BLOCK_SIZE t) refl in
          ((λ i. answer_in (k.0 i) ((q ∙ second_read k) i)), k.1.0)
      by false t =
          let r : answer_in n v ≡ refused_with BAD_SIZE =
          λ i. answer_in ((rw t at p.0) i) ((q ∙ ap (λ (z : List ℕ). word z 1) (rw t at p.1.1.0)) i) in
          let w = wrong_size b e (eqb-false (length b) BLOCK_SIZE t) r in
          (w.0, (rw t at p.1.0) ∙ w.1)
