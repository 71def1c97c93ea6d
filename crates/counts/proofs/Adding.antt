-- Words added one by one: as long as every sum is a word, the bytes spell the sums.
use mathlib.Core.Path.{◌≡◌, refl, sym, ap, ◌∙◌}
use mathlib.Core.Bool.{Bool, true, false, ◌&&◌, ◌||◌}
use mathlib.Core.Logic.{◌↔◌}
use mathlib.Core.List.{List, ◌++◌}
use Prim.Native.Nat.{ℕ, zero, suc, ◌+◌, ◌-◌, ◌*◌, ◌<◌, ◌≤◌, ◌^◌}
use native.Mathlib.Omega.{arith}
use lib.ListN.{length, drop, get_or, length-append}
use lib.Seq.{drop-length}
use lib.Dec.{eqb, ltb, leb}
use borrow.Author.Count.{below_more}
use borrow.Author.Tests.{le-leb, leb-true, ltb-false, le-ltb, eqb-true, eqb-false}
use Rattle.words.specs.Word.{le32, spelt, word, put, Bytes}
use Rattle.words.proofs.Laws.{word-put_same, word-put_other, length-put, bytes_put, spells}
use Rattle.words.proofs.Agree.{never}
use Rattle.words.proofs.Spell.{spelt_split}
use Rattle.counts.specs.Counts.{WORDS, COUNTS_SIZE, spell_words, any_passes}
use Rattle.counts.specs.Parts.{Fits}

-- ---- every sum is a word

-- the sums below w are words
abbrev pub Below : List ℕ → List ℕ → ℕ → Type 0
Below a b w = (j : ℕ) → j < w → word a j + word b j < 2 ^ 32

pub below_none : (a b : List ℕ) → (true ≡ true) ↔ Below a b 0
below_none a b = (λ e j l. absurd (omega arith), λ h. refl)

pub below_next : (a b : List ℕ) (t : Bool) (w x y : ℕ) → x ≡ word a w → y ≡ word b w → x < 2 ^ 32
    → (t ≡ true) ↔ Below a b w
    → ((t && leb y (4294967295 - x)) ≡ true) ↔ Below a b (w + 1)
below_next a b true w x y p q f h = (
  (λ e. below_more (λ (j : ℕ). word a j + word b j < 2 ^ 32) w (h.0 refl)
      (let l = leb-true y (4294967295 - x) e in omega arith)),
  (λ g. le-leb y (4294967295 - x) (let l = g w (omega arith) in omega arith)),
)
below_next a b false w x y p q f h = ((λ e. never e), (λ g. h.1 (λ j l. g j (omega arith))))

-- ---- the sums, spelt

module _ (a b : List ℕ) where
  -- the words below w are sums, the others as they were
  pub record Added (c : List ℕ) (w : ℕ) : Type 0 where
    pub size : length c ≡ COUNTS_SIZE
    pub bytes : Bytes c
    pub sums : (j : ℕ) → j < w → word c j ≡ word a j + word b j
    pub others : (j : ℕ) → w ≤ j → word c j ≡ word a j

  pub added_none : length a ≡ COUNTS_SIZE → Bytes a → Added a 0
  added_none l by =
      record {
        size = l;
        bytes = by;
        sums = λ j h. absurd (omega arith);
        others = λ j h. refl;
      }

  pub added_next : (c : List ℕ) (w : ℕ) → w < WORDS → Fits a b → Added c w → (x y : ℕ) → x ≡ word c w → y ≡ word b w
      → (d : List ℕ)
      → d ≡ put c w (x + y)
      → Added d (w + 1)
  added_next c w l fits h x y p q d e =
      let sum : x + y ≡ word a w + word b w = omega (arith, h.others w (omega arith)) in
      let is : d ≡ put c w (word a w + word b w) = e ∙ ap (put c w) sum in
      let same = word-put_same c w (word a w + word b w) (omega (arith, h.size)) (fits w l) in
      record {
        size = ap length is ∙ length-put c w (word a w + word b w) ∙ h.size;
        bytes = rw is (bytes_put c w (word a w + word b w) h.bytes);
        sums = below_more (λ (j : ℕ). word d j ≡ word a j + word b j) w
            (λ j k. ap (λ (r : List ℕ). word r j) is
            ∙ word-put_other c w (word a w + word b w) j (λ q. omega arith) ∙ h.sums j k)
            (ap (λ (r : List ℕ). word r w) is ∙ same);
        others = λ j k. ap (λ (r : List ℕ). word r j) is
            ∙ word-put_other c w (word a w + word b w) j (λ q. omega arith) ∙ h.others j (omega arith);
      }

-- bytes are spelt by their words
spelt_words : (m w : ℕ) (c : List ℕ) → Bytes c → length c ≡ 4 * (w + m) → drop (4 * w) c ≡ spell_words m w (word c)
unfolding spell_words
spelt_words zero w c by l = let n : 4 * w ≡ length c = omega arith in ap (λ (k : ℕ). drop k c) n ∙ drop-length c
spelt_words (suc m) w c by l =
    let n : 4 * w + 4 ≡ 4 * (w + 1) = omega arith in
    spelt_split c (4 * w) by (omega arith)
    ∙ ap (λ (t : List ℕ). le32 (word c w) ++ t)
    (ap (λ (k : ℕ). drop k c) n ∙ spelt_words m (w + 1) c by (omega arith))

-- and by any words that are the same
pub same_words : (m w : ℕ) (f g : ℕ → ℕ) → ((j : ℕ) → j < w + m → f j ≡ g j) → spell_words m w f ≡ spell_words m w g
unfolding spell_words
same_words zero w f g h = refl
same_words (suc m) w f g h =
    (λ i. le32 (h w (omega arith) i) ++ same_words m (w + 1) f g (λ j l. h j (omega arith)) i)

pub added_all : (a b c : List ℕ) (w : ℕ) → WORDS ≤ w → Added a b c w
    → c ≡ spell_words WORDS 0 (λ (j : ℕ). word a j + word b j)
added_all a b c w l h =
    spelt_words WORDS 0 c h.bytes h.size
    ∙ same_words WORDS 0 (word c) (λ (j : ℕ). word a j + word b j) (λ j k. h.sums j (omega arith))

-- a word of what is spelt
module _ (x : ℕ) (t : List ℕ) where
  first_word : x < 2 ^ 32 → word (le32 x ++ t) 0 ≡ x
  unfolding spelt
  first_word l = spells x l

  next_word : (w : ℕ) → word (le32 x ++ t) (suc w) ≡ word t w
  unfolding spelt
  next_word w =
      let e : 4 * suc w ≡ suc (suc (suc (suc (4 * w)))) = omega arith in
      let e1 : 4 * suc w + 1 ≡ suc (suc (suc (suc (4 * w + 1)))) = omega arith in
      let e2 : 4 * suc w + 2 ≡ suc (suc (suc (suc (4 * w + 2)))) = omega arith in
      let e3 : 4 * suc w + 3 ≡ suc (suc (suc (suc (4 * w + 3)))) = omega arith in
      λ i. get_or (le32 x ++ t) (e i) 0
      + 256 * (get_or (le32 x ++ t) (e1 i) 0 + 256 * (get_or (le32 x ++ t) (e2 i) 0 + 256 * get_or (le32 x ++ t) (e3 i) 0))

pub spelt_word : (m v : ℕ) (f : ℕ → ℕ) → ((j : ℕ) → j < v + m → f j < 2 ^ 32) → (w : ℕ) → w < m
    → word (spell_words m v f) w ≡ f (v + w)
unfolding spell_words
spelt_word zero v f h w l = absurd (omega arith)
spelt_word (suc m) v f h zero l =
    let n : v ≡ v + 0 = omega arith in
    first_word (f v) (spell_words m (v + 1) f) (h v (omega arith)) ∙ ap f n
spelt_word (suc m) v f h (suc w) l =
    let n : v + 1 + w ≡ v + suc w = omega arith in
    next_word (f v) (spell_words m (v + 1) f) w ∙ spelt_word m (v + 1) f (λ j k. h j (omega arith)) w (omega arith) ∙ ap f n

pub length_spelt : (m v : ℕ) (f : ℕ → ℕ) → length (spell_words m v f) ≡ 4 * m
unfolding spell_words
length_spelt zero v f = refl
length_spelt (suc m) v f = omega (arith, length-append (le32 (f v)) (spell_words m (v + 1) f), length_spelt m (v + 1) f)

-- ---- does any sum pass the largest word?

pub none_passes : (m w : ℕ) (f : ℕ → ℕ) → ((j : ℕ) → j < w + m → f j < 2 ^ 32) → any_passes m w f ≡ false
unfolding any_passes
none_passes zero w f h = refl
none_passes (suc m) w f h =
    (λ i. le-ltb 4294967295 (f w) (let l = h w (omega arith) in omega arith) i || any_passes m (w + 1) f)
    ∙ none_passes m (w + 1) f (λ j l. h j (omega arith))

pub all_below : (m w : ℕ) (f : ℕ → ℕ) → any_passes m w f ≡ false → (j : ℕ) → w ≤ j → j < w + m → f j < 2 ^ 32
unfolding any_passes
all_below zero w f e j l k = absurd (omega arith)
all_below (suc m) w f e j l k =
    go (ltb 4294967295 (f w)) refl (eqb w j) refl e (λ h more. all_below m (w + 1) f h j more (omega arith))
  where
    go : (t : Bool) → ltb 4294967295 (f w) ≡ t → (u : Bool) → eqb w j ≡ u → (t || any_passes m (w + 1) f) ≡ false
        → (any_passes m (w + 1) f ≡ false → w + 1 ≤ j → f j < 2 ^ 32)
        → f j < 2 ^ 32
    go true p u q h rest = never (sym h)
    go false p true q h rest =
        let at : w ≡ j = eqb-true w j q in
        let low = ltb-false 4294967295 (f w) p in
        rw (← at) (let x : f w < 2 ^ 32 = omega arith in x)
    go false p false q h rest =
        let d = eqb-false w j q in
        rest h (omega arith)
