-- What a reader expects of word and put: a word put is read back, the other words stay, the length stays, bytes stay bytes.
-- Nothing outside this file looks inside the two definitions.
use mathlib.Core.Path.{◌≡◌, refl, ◌∙◌}
use mathlib.Core.List.{List, [], ◌∷◌, append_assoc}
use Prim.Native.Nat.{ℕ, zero, suc, ◌+◌, ◌-◌, ◌*◌, ◌/◌, ◌%◌, ◌^◌, ◌<◌, ◌≤◌}
use native.Mathlib.Omega.{arith}
use native.Mathlib.Numerals.{add-one, add-two, add-three}
use lib.ListN.{length, get_or, set, drop, length-set}
use lib.Dec.{lit<}
use lib.Seq.{sets, sets-eq, get_or-set_same, get_or-set_other, length-sets, drop-drop, drop-set-lt}
use borrow.Rule.Slice.PartMut.{put_mid}
use Rattle.std.specs.Int.{w32, to_le_bytes}
use Rattle.words.specs.Word.{le32, spelt, word, put, Bytes}

pub length-put : (b : List ℕ) (p w : ℕ) → length (put b p w) ≡ length b
unfolding put
length-put b p w = length-sets b (4 * p) (le32 w)

-- the four bytes, as std makes them, copied over those at the place
pub put_is : (b : List ℕ) (p w : ℕ) → 4 * p + 4 ≤ length b
    → put b p w ≡ put_mid (4 * p) (4 * p + 4 - 4 * p) b (to_le_bytes w32 w)
unfolding put
put_is b p w h =
    let two : w / 256 / 256 ≡ w / 256 ^ 2 = omega arith in
    let three : w / 256 / 256 / 256 ≡ w / 256 ^ 3 = omega arith in
    let four : 4 * p + 4 - 4 * p ≡ 4 = omega arith in
    rw (four, drop-drop, sets-eq (le32 w) b (4 * p) h, append_assoc, three, two)

-- the stores one by one, each at its own byte
put_sets : (b : List ℕ) (p w : ℕ)
    → put b p w
    ≡ set
    (set (set (set b (4 * p) (w % 256)) (4 * p + 1) (w / 256 % 256)) (4 * p + 2) (w / 256 / 256 % 256))
    (4 * p + 3)
    (w / 256 / 256 / 256 % 256)
unfolding put
put_sets b p w = simp (add-one, add-two, add-three)

-- a byte outside the four stays
pub byte_other : (b : List ℕ) (p w j : ℕ) → (j / 4 ≡ p → ⊥) → get_or (put b p w) j 0 ≡ get_or b j 0
byte_other b p w j n =
    let n0 : (j ≡ 4 * p → ⊥) = λ e. n (omega arith) in
    let n1 : (j ≡ 4 * p + 1 → ⊥) = λ e. n (omega arith) in
    let n2 : (j ≡ 4 * p + 2 → ⊥) = λ e. n (omega arith) in
    let n3 : (j ≡ 4 * p + 3 → ⊥) = λ e. n (omega arith) in
    rw (put_sets b p w, get_or-set_other, get_or-set_other, get_or-set_other, get_or-set_other)

-- into two lists of one length: a byte that both have alike, they have alike after it
set_alike : (s t : List ℕ) (i v j : ℕ) → length s ≡ length t → get_or s j 0 ≡ get_or t j 0 → get_or (set s i v) j 0 ≡ get_or (set t i v) j 0
set_alike [] [] i v j l h = h
set_alike [] (y ∷ t) i v j l h = absurd (omega arith)
set_alike (x ∷ s) [] i v j l h = absurd (omega arith)
set_alike (x ∷ s) (y ∷ t) zero v zero l h = refl
set_alike (x ∷ s) (y ∷ t) zero v (suc j) l h = h
set_alike (x ∷ s) (y ∷ t) (suc i) v zero l h = h
set_alike (x ∷ s) (y ∷ t) (suc i) v (suc j) l h = set_alike s t i v j (omega arith) h

sets_alike : (s t : List ℕ) (i : ℕ) (vs : List ℕ) (j : ℕ) → length s ≡ length t → get_or s j 0 ≡ get_or t j 0
    → get_or (sets s i vs) j 0 ≡ get_or (sets t i vs) j 0
sets_alike s t i [] j l h = h
sets_alike s t i (v ∷ vs) j l h =
    sets_alike (set s i v) (set t i v) (suc i) vs j (omega (arith, length-set s i v, length-set t i v)) (set_alike s t i v j l h)

pub byte_alike : (b c : List ℕ) (p w j : ℕ) → length b ≡ length c → get_or b j 0 ≡ get_or c j 0
    → get_or (put b p w) j 0 ≡ get_or (put c p w) j 0
unfolding put
byte_alike b c p w j l h = sets_alike b c (4 * p) (le32 w) j l h

-- a word put at p leaves the word at any other place
pub word-put_other : (b : List ℕ) (p w q : ℕ) → (p ≡ q → ⊥) → word (put b p w) q ≡ word b q
unfolding spelt
word-put_other b p w q n =
    rw (
      byte_other b p w (4 * q) (λ e. n (omega arith)),
      byte_other b p w (4 * q + 1) (λ e. n (omega arith)),
      byte_other b p w (4 * q + 2) (λ e. n (omega arith)),
      byte_other b p w (4 * q + 3) (λ e. n (omega arith)),
    )

-- the bytes behind it stay
pub drop-put : (b : List ℕ) (p w n : ℕ) → 4 * p + 4 ≤ n → drop n (put b p w) ≡ drop n b
drop-put b p w n h =
    rw (put_sets b p w)
    (drop-set-lt n _ (4 * p + 3) _ (omega arith)
    ∙ drop-set-lt n _ (4 * p + 2) _ (omega arith)
    ∙ drop-set-lt n _ (4 * p + 1) _ (omega arith)
    ∙ drop-set-lt n b (4 * p) _ (omega arith))

-- the four bytes of a word spell it
pub spells : (w : ℕ) → w < 2 ^ 32
    → w % 256 + 256 * (w / 256 % 256 + 256 * (w / 256 / 256 % 256 + 256 * (w / 256 / 256 / 256 % 256))) ≡ w
spells w h = omega arith

-- a word put at a place inside the block is read back there
module _ (b : List ℕ) (p w : ℕ) (h : 4 * p + 4 ≤ length b) where
  abbrev l0 : List ℕ
  l0 = set b (4 * p) (w % 256)

  abbrev l1 : List ℕ
  l1 = set l0 (4 * p + 1) (w / 256 % 256)

  abbrev l2 : List ℕ
  l2 = set l1 (4 * p + 2) (w / 256 / 256 % 256)

  b3 : get_or (put b p w) (4 * p + 3) 0 ≡ w / 256 / 256 / 256 % 256
  b3 =
      rw (put_sets b p w)
      (get_or-set_same l2 (4 * p + 3) (w / 256 / 256 / 256 % 256) 0 (simp length-set (omega arith)))

  b2 : get_or (put b p w) (4 * p + 2) 0 ≡ w / 256 / 256 % 256
  b2 =
      rw (put_sets b p w)
      (get_or-set_other l2 (4 * p + 3) (4 * p + 2) (w / 256 / 256 / 256 % 256) 0 (λ e. omega arith)
      ∙ get_or-set_same l1 (4 * p + 2) (w / 256 / 256 % 256) 0 (simp length-set (omega arith)))

  b1 : get_or (put b p w) (4 * p + 1) 0 ≡ w / 256 % 256
  b1 =
      rw (put_sets b p w)
      (get_or-set_other l2 (4 * p + 3) (4 * p + 1) (w / 256 / 256 / 256 % 256) 0 (λ e. omega arith)
      ∙ get_or-set_other l1 (4 * p + 2) (4 * p + 1) (w / 256 / 256 % 256) 0 (λ e. omega arith)
      ∙ get_or-set_same l0 (4 * p + 1) (w / 256 % 256) 0 (simp length-set (omega arith)))

  b0 : get_or (put b p w) (4 * p) 0 ≡ w % 256
  b0 =
      rw (put_sets b p w)
      (get_or-set_other l2 (4 * p + 3) (4 * p) (w / 256 / 256 / 256 % 256) 0 (λ e. omega arith)
      ∙ get_or-set_other l1 (4 * p + 2) (4 * p) (w / 256 / 256 % 256) 0 (λ e. omega arith)
      ∙ get_or-set_other l0 (4 * p + 1) (4 * p) (w / 256 % 256) 0 (λ e. omega arith)
      ∙ get_or-set_same b (4 * p) (w % 256) 0 (omega arith))

  pub word-put_same : w < 2 ^ 32 → word (put b p w) p ≡ w
  unfolding spelt
  word-put_same l = rw (b0, b1, b2, b3) (spells w l)

-- four bytes spell a number below 2^32
pub spelt_fits : (r : List ℕ) (i : ℕ) → Bytes r → spelt r i < 2 ^ 32
unfolding spelt
spelt_fits r i h =
    let a = h i in
    let b = h (i + 1) in
    let c = h (i + 2) in
    let d = h (i + 3) in
    omega arith

-- a byte set in a list of bytes leaves a list of bytes, and so do the bytes of a word
bytes_set : (s : List ℕ) (i v : ℕ) → Bytes s → v < 256 → Bytes (set s i v)
bytes_set [] i v h l j = h j
bytes_set (x ∷ s) zero v h l zero = l
bytes_set (x ∷ s) zero v h l (suc j) = h (suc j)
bytes_set (x ∷ s) (suc i) v h l zero = h zero
bytes_set (x ∷ s) (suc i) v h l (suc j) = bytes_set s i v (λ k. h (suc k)) l j

bytes_sets : (s : List ℕ) (i : ℕ) (vs : List ℕ) → Bytes s → Bytes vs → Bytes (sets s i vs)
bytes_sets s i [] h k = h
bytes_sets s i (v ∷ vs) h k = bytes_sets (set s i v) (suc i) vs (bytes_set s i v h (k zero)) (λ j. k (suc j))

low : (x : ℕ) → x % 256 < 256
low x = omega arith

pub bytes_le32 : (w : ℕ) → Bytes (le32 w)
bytes_le32 w zero = low w
bytes_le32 w (suc zero) = low (w / 256)
bytes_le32 w (suc (suc zero)) = low (w / 256 / 256)
bytes_le32 w (suc (suc (suc zero))) = low (w / 256 / 256 / 256)
bytes_le32 w (suc (suc (suc (suc j)))) = lit< tt

pub bytes_put : (b : List ℕ) (p w : ℕ) → Bytes b → Bytes (put b p w)
unfolding put
bytes_put b p w h = bytes_sets b (4 * p) (le32 w) h (bytes_le32 w)
