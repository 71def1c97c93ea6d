-- What is proved of batches (document 02, No. 2), and the wrong ones that are none.
use Rattle.std.specs.Prelude.{◌≡◌, List, [], ◌∷◌, ◌++◌, ℕ, length}
use Rattle.state.specs.Number.{DONE}
use Rattle.state.specs.Place.{BLOCK_SIZE}
use Rattle.rules.specs.declared.event.Event.{Event}
use Rattle.rules.specs.declared.verdict.Answer.{Answer}
use Rattle.rules.specs.Direct.{direct_answer, direct_run, direct_answers}
use Rattle.rules.specs.Known.{direct}
use Rattle.rules.specs.Refusal.{refusal}
use Rattle.rules.specs.Verdict.{refused_with}
use Rattle.console.specs.Batch.{Batched}

-- a function from events, a list of answers and a block to the list of answers that it leaves
abbrev pub Batcher : Type 0
Batcher = List Event → List Answer → List ℕ → List Answer

-- what `Batched` asks of it where the lengths go together
abbrev pub Meets : Batcher → Type 0
Meets f =
    (es : List Event) (room : List Answer) (b : List ℕ) → length es ≡ length room → length b ≡ BLOCK_SIZE
    → f es room b ≡ direct_answers b es

-- ---- wrong ones

abbrev pub reversed : List Answer → List Answer
reversed [] = []
reversed (x ∷ xs) = reversed xs ++ (x ∷ [])

-- the answers in reverse
abbrev pub Reverses : Batcher → Type 0
Reverses f =
    (es : List Event) (room : List Answer) (b : List ℕ) → length es ≡ length room → length b ≡ BLOCK_SIZE
    → f es room b ≡ reversed (direct_answers b es)

-- an event that is refused stops the batch: behind it the answers are as they were
abbrev pub Stops : Batcher → Type 0
Stops f =
    (e : Event) (es : List Event) (x : Answer) (room : List Answer) (b : List ℕ) → length es ≡ length room
    → length b ≡ BLOCK_SIZE → (refusal b (direct e) ≡ DONE → ⊥)
    → f (e ∷ es) (x ∷ room) b ≡ direct_answer b e ∷ room

-- every event is answered on the block of the first
abbrev pub on_the_first : List ℕ → List Event → List Answer
on_the_first b [] = []
on_the_first b (e ∷ es) = direct_answer b e ∷ on_the_first b es

abbrev pub UsesTheFirst : Batcher → Type 0
UsesTheFirst f =
    (es : List Event) (room : List Answer) (b : List ℕ) → length es ≡ length room → length b ≡ BLOCK_SIZE
    → f es room b ≡ on_the_first b es

-- ---- the theorems

pub record BatchTheorems : Type 0 where
  -- a batch of es and then one of fs is a batch of es and fs
  pub one_after_another : (es fs : List Event) (room₁ room₂ told₁ told₂ : List Answer) (b c d : List ℕ)
      → Batched es room₁ b DONE told₁ c
      → Batched fs room₂ c DONE told₂ d
      → Batched (es ++ fs) (room₁ ++ room₂) b DONE (told₁ ++ told₂) d
  -- an event that is refused in the middle has its number, and changes nothing for the rest
  pub refused_changes_nothing : (es fs : List Event) (e : Event) (b : List ℕ) → (refusal (direct_run b es) (direct e) ≡ DONE → ⊥)
      → direct_run b (es ++ (e ∷ fs)) ≡ direct_run b (es ++ fs)
  pub refused_has_its_number : (es fs : List Event) (e : Event) (b : List ℕ) → (refusal (direct_run b es) (direct e) ≡ DONE → ⊥)
      → let c = direct_run b es in
      direct_answers b (es ++ (e ∷ fs)) ≡ direct_answers b es ++ (refused_with (refusal c (direct e)) ∷ direct_answers c fs)
  -- three wrong batches
  pub not_reversing : (f : Batcher) → Meets f → Reverses f → ⊥
  pub not_stopping : (f : Batcher) → Meets f → Stops f → ⊥
  pub not_on_the_first : (f : Batcher) → Meets f → UsesTheFirst f → ⊥
