-- Two words put into an answer buffer are all of it, and they are read back.
use mathlib.Core.Path.{◌≡◌, refl}
use mathlib.Core.List.{List, [], ◌∷◌, ◌++◌}
use Prim.Native.Nat.{ℕ, ◌<◌, ◌^◌}
use native.Mathlib.Omega.{arith}
use lib.ListN.{length}
use Rattle.words.specs.Word.{le32, put, spelt, word}
use Rattle.words.proofs.Laws.{spells}
use Rattle.rules.specs.Step.{ANSWER_SIZE}

pub two_words : (l : List ℕ) (n v : ℕ) → length l ≡ ANSWER_SIZE → put (put l 0 n) 1 v ≡ le32 n ++ le32 v
unfolding put
two_words (a ∷ b ∷ c ∷ d ∷ e ∷ f ∷ g ∷ h ∷ []) n v q = refl
two_words [] n v q = absurd (omega arith)
two_words (a ∷ []) n v q = absurd (omega arith)
two_words (a ∷ b ∷ []) n v q = absurd (omega arith)
two_words (a ∷ b ∷ c ∷ []) n v q = absurd (omega arith)
two_words (a ∷ b ∷ c ∷ d ∷ []) n v q = absurd (omega arith)
two_words (a ∷ b ∷ c ∷ d ∷ e ∷ []) n v q = absurd (omega arith)
two_words (a ∷ b ∷ c ∷ d ∷ e ∷ f ∷ []) n v q = absurd (omega arith)
two_words (a ∷ b ∷ c ∷ d ∷ e ∷ f ∷ g ∷ []) n v q = absurd (omega arith)
two_words (a ∷ b ∷ c ∷ d ∷ e ∷ f ∷ g ∷ h ∷ i ∷ l) n v q = absurd (omega arith)

module _ (n v : ℕ) where
  pub first_word : n < 2 ^ 32 → word (le32 n ++ le32 v) 0 ≡ n
  unfolding spelt
  first_word h = spells n h

  pub second_word : v < 2 ^ 32 → word (le32 n ++ le32 v) 1 ≡ v
  unfolding spelt
  second_word h = spells v h
