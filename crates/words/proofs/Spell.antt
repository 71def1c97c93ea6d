-- Numbers as bytes, and back: bytes spell one number and a number has one spelling, so a list of bytes can be cut into
-- the numbers that it spells; and what bytes spell does not hang on those behind them.
use mathlib.Core.Path.{◌≡◌, sym, ap, ◌∙◌}
use mathlib.Core.List.{List, [], ◌∷◌, ◌++◌}
use Prim.Native.Nat.{ℕ, zero, suc, ◌+◌, ◌*◌, ◌/◌, ◌%◌, ◌<◌, ◌≤◌, ◌^◌}
use native.Mathlib.Omega.{arith}
use native.Mathlib.Numerals.{add-one, add-two, add-three, add-four}
use lib.ListN.{length, take, drop, get_or, replicate, get_or-append}
use lib.Seq.{drop-cons, get_or-drop}
use lib.Dec.{lit<}
use Rattle.words.specs.Word.{le16, le32, half, spelt, Bytes}

-- the two bytes of a half spell it
pub spells_half : (w : ℕ) → w < 2 ^ 16 → w % 256 + 256 * (w / 256 % 256) ≡ w
spells_half w h = omega arith

-- two, and four, bytes are those of the number that they spell
pub le16_join : (a b : ℕ) → a < 256 → b < 256 → le16 (a + 256 * b) ≡ a ∷ b ∷ []
le16_join a b ha hb =
    let e : (a + 256 * b) / 256 ≡ b = omega arith in
    let a0 : (a + 256 * b) % 256 ≡ a = omega arith in
    let b0 : b % 256 ≡ b = omega arith in
    λ i. a0 i ∷ (ap (λ (x : ℕ). x % 256) e ∙ b0) i ∷ []

pub le32_join : (a b c d : ℕ) → a < 256 → b < 256 → c < 256 → d < 256
    → le32 (a + 256 * (b + 256 * (c + 256 * d))) ≡ a ∷ b ∷ c ∷ d ∷ []
le32_join a b c d ha hb hc hd =
    let w : ℕ = a + 256 * (b + 256 * (c + 256 * d)) in
    let e1 : w / 256 ≡ b + 256 * (c + 256 * d) = omega arith in
    let e2 : w / 256 / 256 ≡ c + 256 * d =
    ap (λ (x : ℕ). x / 256) e1 ∙ (let q : (b + 256 * (c + 256 * d)) / 256 ≡ c + 256 * d = omega arith in q) in
    let e3 : w / 256 / 256 / 256 ≡ d =
    ap (λ (x : ℕ). x / 256) e2 ∙ (let q : (c + 256 * d) / 256 ≡ d = omega arith in q) in
    let a0 : w % 256 ≡ a = omega arith in
    let b0 : (b + 256 * (c + 256 * d)) % 256 ≡ b = omega arith in
    let c0 : (c + 256 * d) % 256 ≡ c = omega arith in
    let d0 : d % 256 ≡ d = omega arith in
    λ i. a0 i ∷ (ap (λ (x : ℕ). x % 256) e1 ∙ b0) i ∷ (ap (λ (x : ℕ). x % 256) e2 ∙ c0) i
    ∷ (ap (λ (x : ℕ). x % 256) e3 ∙ d0) i ∷ []

-- a list of bytes from i on is the number spelt there, and the rest
pub spelt_split : (r : List ℕ) (i : ℕ) → Bytes r → i + 4 ≤ length r → drop i r ≡ le32 (spelt r i) ++ drop (i + 4) r
unfolding spelt
spelt_split r i h k =
    let c0 = drop-cons r i 0 (omega arith) in
    let c1 : drop (suc i) r ≡ get_or r (i + 1) 0 ∷ drop (i + 2) r =
    rw (add-one, add-two, drop-cons r (suc i) 0 (omega arith)) in
    let c2 : drop (i + 2) r ≡ get_or r (i + 2) 0 ∷ drop (i + 3) r =
    rw (add-two, add-three, drop-cons r (suc (suc i)) 0 (omega arith)) in
    let c3 : drop (i + 3) r ≡ get_or r (i + 3) 0 ∷ drop (i + 4) r =
    rw (add-three, add-four, drop-cons r (suc (suc (suc i))) 0 (omega arith)) in
    let joined = le32_join (get_or r i 0) (get_or r (i + 1) 0) (get_or r (i + 2) 0) (get_or r (i + 3) 0) (h i) (h (i + 1))
    (h (i + 2)) (h (i + 3)) in
    c0
    ∙ ap (λ (l : List ℕ). get_or r i 0 ∷ l) c1
    ∙ ap (λ (l : List ℕ). get_or r i 0 ∷ get_or r (i + 1) 0 ∷ l) c2
    ∙ ap (λ (l : List ℕ). get_or r i 0 ∷ get_or r (i + 1) 0 ∷ get_or r (i + 2) 0 ∷ l) c3
    ∙ ap (λ (l : List ℕ). l ++ drop (i + 4) r) (sym joined)

pub half_split : (r : List ℕ) (i : ℕ) → Bytes r → i + 2 ≤ length r → drop i r ≡ le16 (half r i) ++ drop (i + 2) r
unfolding half
half_split r i h k =
    let c0 = drop-cons r i 0 (omega arith) in
    let c1 : drop (suc i) r ≡ get_or r (i + 1) 0 ∷ drop (i + 2) r =
    rw (add-one, add-two, drop-cons r (suc i) 0 (omega arith)) in
    let joined = le16_join (get_or r i 0) (get_or r (i + 1) 0) (h i) (h (i + 1)) in
    c0 ∙ ap (λ (l : List ℕ). get_or r i 0 ∷ l) c1 ∙ ap (λ (l : List ℕ). l ++ drop (i + 2) r) (sym joined)

-- a word is two halves, so it spells two numbers at once
pub two_halves : (r : List ℕ) (m n : ℕ) → Bytes r → m < 2 ^ 16 → spelt r 0 ≡ m + 65536 * n
    → (half r 0 ≡ m) × (half r 2 ≡ n)
unfolding spelt half
two_halves r m n h l e =
    let a = h 0 in
    let b = h 1 in
    let c = h 2 in
    let d = h 3 in
    (omega arith, omega arith)

pub as_word : (r : List ℕ) (m n : ℕ) → half r 0 ≡ m → half r 2 ≡ n → spelt r 0 ≡ m + 65536 * n
unfolding spelt half
as_word r m n p q = omega arith

-- what stands behind does not change what is spelt
module _ (r t : List ℕ) where
  pub half_front : (i : ℕ) → i + 2 ≤ length r → half (r ++ t) i ≡ half r i
  unfolding half
  half_front i h =
      let a = get_or-append r t 0 i (omega arith) in
      let b = get_or-append r t 0 (i + 1) (omega arith) in
      λ j. a j + 256 * b j

  pub spelt_front : (i : ℕ) → i + 4 ≤ length r → spelt (r ++ t) i ≡ spelt r i
  unfolding spelt
  spelt_front i h =
      let a = get_or-append r t 0 i (omega arith) in
      let b = get_or-append r t 0 (i + 1) (omega arith) in
      let c = get_or-append r t 0 (i + 2) (omega arith) in
      let d = get_or-append r t 0 (i + 3) (omega arith) in
      λ j. a j + 256 * (b j + 256 * (c j + 256 * d j))

-- ---- lists of bytes

-- the bytes of a number are bytes
pub bytes_half : (w : ℕ) → Bytes (le16 w)
bytes_half w zero = omega arith
bytes_half w (suc zero) = omega arith
bytes_half w (suc (suc i)) = lit< tt

pub bytes_word : (w : ℕ) → Bytes (le32 w)
bytes_word w zero = omega arith
bytes_word w (suc zero) = omega arith
bytes_word w (suc (suc zero)) = omega arith
bytes_word w (suc (suc (suc zero))) = omega arith
bytes_word w (suc (suc (suc (suc i)))) = lit< tt

-- one list of bytes after another is a list of bytes, and so is none, or a run of zeros
pub bytes_none : Bytes []
bytes_none i = lit< tt

pub bytes_append : (a b : List ℕ) → Bytes a → Bytes b → Bytes (a ++ b)
bytes_append [] b h k i = k i
bytes_append (x ∷ a) b h k zero = h zero
bytes_append (x ∷ a) b h k (suc i) = bytes_append a b (λ j. h (suc j)) k i

pub bytes_zeros : (n : ℕ) → Bytes (replicate n 0)
bytes_zeros zero i = lit< tt
bytes_zeros (suc n) zero = lit< tt
bytes_zeros (suc n) (suc i) = bytes_zeros n i

-- a part of a list of bytes is a list of bytes
pub bytes_drop : (n : ℕ) (r : List ℕ) → Bytes r → Bytes (drop n r)
bytes_drop n r h i = rw get_or-drop (h (n + i))

pub bytes_take : (n : ℕ) (r : List ℕ) → Bytes r → Bytes (take n r)
bytes_take zero r h i = lit< tt
bytes_take (suc n) [] h i = lit< tt
bytes_take (suc n) (x ∷ r) h zero = h zero
bytes_take (suc n) (x ∷ r) h (suc i) = bytes_take n r (λ j. h (suc j)) i
