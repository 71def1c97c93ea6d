-- Two strings of whole words are the same where all their words are: each word is four bytes and spells them.
use mathlib.Core.Path.{◌≡◌, refl, sym, ap, ◌∙◌}
use mathlib.Core.List.{List, [], ◌∷◌, ◌++◌}
use Prim.Native.Nat.{ℕ, zero, suc, ◌+◌, ◌*◌, ◌<◌}
use native.Mathlib.Omega.{arith}
use lib.ListN.{length, drop, get_or, length-drop}
use lib.Seq.{get_or-drop}
use Rattle.words.specs.Word.{le32, spelt, word, Bytes}
use Rattle.words.proofs.Spell.{spelt_split, bytes_drop}

-- what is spelt behind n bytes
spelt-drop : (n : ℕ) (r : List ℕ) (i : ℕ) → spelt (drop n r) i ≡ spelt r (n + i)
unfolding spelt
spelt-drop n r i =
    let at : (j k : ℕ) → n + j ≡ k → get_or (drop n r) j 0 ≡ get_or r k 0 = λ j k e.
    get_or-drop n r j 0 ∙ ap (λ (m : ℕ). get_or r m 0) e in
    let a = at i (n + i) refl in
    let b = at (i + 1) (n + i + 1) (omega arith) in
    let c = at (i + 2) (n + i + 2) (omega arith) in
    let d = at (i + 3) (n + i + 3) (omega arith) in
    λ j. a j + 256 * (b j + 256 * (c j + 256 * d j))

-- the words behind the first
word-drop : (r : List ℕ) (p : ℕ) → word (drop 4 r) p ≡ word r (suc p)
word-drop r p = let e : 4 + 4 * p ≡ 4 * suc p = omega arith in spelt-drop 4 r (4 * p) ∙ ap (spelt r) e

pub same_words : (n : ℕ) (a b : List ℕ) → length a ≡ 4 * n → length b ≡ 4 * n → Bytes a → Bytes b
    → ((p : ℕ) → p < n → word a p ≡ word b p) → a ≡ b
same_words zero [] [] la lb ha hb w = refl
same_words zero [] (y ∷ b) la lb ha hb w = absurd (omega arith)
same_words zero (x ∷ a) b la lb ha hb w = absurd (omega arith)
same_words (suc n) a b la lb ha hb w =
    let first : spelt a 0 ≡ spelt b 0 = w 0 (omega arith) in
    let rest = same_words n (drop 4 a) (drop 4 b) (omega (arith, length-drop 4 a)) (omega (arith, length-drop 4 b))
    (bytes_drop 4 a ha) (bytes_drop 4 b hb)
    (λ p l. word-drop a p ∙ w (suc p) (omega arith) ∙ sym (word-drop b p)) in
    spelt_split a 0 ha (omega arith) ∙ (λ i. le32 (first i) ++ rest i) ∙ sym (spelt_split b 0 hb (omega arith))
