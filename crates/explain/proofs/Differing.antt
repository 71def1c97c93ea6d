-- The first difference is the part at which the two words differ and before which all agree: a walk over the parts stops
-- there and nowhere else.
use Rattle.std.specs.Prelude.{if◌then◌else◌}
use mathlib.Core.Path.{◌≡◌, refl, sym, ap, ◌∙◌}
use mathlib.Core.Bool.{Bool, true, false}
use mathlib.Core.Logic.{◌⊎◌, inl, inr}
use mathlib.Core.List.{List}
use Prim.Native.Nat.{ℕ, zero, suc, ◌+◌, ◌-◌, ◌<◌, ◌≤◌}
use native.Mathlib.Omega.{arith}
use lib.Dec.{eqb}
use borrow.Author.Tests.{eq-eqb, ne_eqb, eqb-true, eqb-false}
use Rattle.words.specs.Word.{word}
use Rattle.state.specs.Choice.{◌is◌}
use Rattle.rules.specs.declared.verdict.Answer.{Answer}
use Rattle.explain.specs.declared.Difference.{Difference}
use Rattle.explain.specs.Explain.{NUMBER_PART, VALUE_PART, BLOCK_PART, part_word, none, differing}

-- ---- any two rows of words

module _ (f g : ℕ → ℕ) where
  -- the words at this part, as a difference
  abbrev pub between : ℕ → Difference
  between q = record { part = q; found = f q; due = g q }

  -- the two rows agree from one part up to another
  abbrev pub Alike : ℕ → ℕ → Type 0
  Alike part q = (j : ℕ) → part ≤ j → j < q → f j ≡ g j

  pub differing_at : (m part q : ℕ) → part ≤ q → q < part + m → Alike part q → (f q ≡ g q → ⊥)
      → differing m part f g ≡ between q
  unfolding differing
  differing_at zero part q l h a n = absurd (omega arith)
  differing_at (suc m) part q l h a n =
      go (eqb part q) refl (λ less. differing_at m (part + 1) q less (omega arith) (λ j k. a j (omega arith)) n)
    where
      go : (t : Bool) → eqb part q ≡ t → (part + 1 ≤ q → differing m (part + 1) f g ≡ between q)
          → differing (suc m) part f g ≡ between q
      go true e more =
          let p : part ≡ q = eqb-true part q e in
          rw p (simp (ne_eqb (f q) (g q) n))
      go false e more =
          let d = eqb-false part q e in
          simp (eq-eqb (f part) (g part) (a part (omega arith) (omega arith))) (more (omega arith))

  pub differing-none : (m part : ℕ) → Alike part (part + m) → differing m part f g ≡ none
  unfolding differing
  differing-none zero part a = refl
  differing-none (suc m) part a =
      simp (eq-eqb (f part) (g part) (a part (omega arith) (omega arith)))
      (differing-none m (part + 1) (λ j k l. a j (omega arith) (omega arith)))

  -- the part at which two rows differ first, of m from this one on
  pub record First (m part : ℕ) : Type 0 where
    pub at : ℕ
    pub from : part ≤ at
    pub to : at < part + m
    pub before : Alike part at
    pub differ : f at ≡ g at → ⊥

  pub first : (m part : ℕ) → Alike part (part + m) ⊎ First m part
  first zero part = inl (λ j k l. absurd (omega arith))
  first (suc m) part = go (eqb (f part) (g part)) refl (first m (part + 1))
    where
      at_part : f part ≡ g part → (q : ℕ) → Alike (part + 1) q → Alike part q
      at_part e q a j k l = by (eqb part j) refl
        where
          by : (t : Bool) → eqb part j ≡ t → f j ≡ g j
          by true w = let p : part ≡ j = eqb-true part j w in rw (← p) e
          by false w = let d = eqb-false part j w in a j (omega arith) l

      go : (t : Bool) → eqb (f part) (g part) ≡ t → Alike (part + 1) (part + 1 + m) ⊎ First m (part + 1)
          → Alike part (part + suc m) ⊎ First (suc m) part
      go false e more =
          inr
          (record {
            at = part;
            from = omega arith;
            to = omega arith;
            before = λ j k l. absurd (omega arith);
            differ = eqb-false (f part) (g part) e;
          })
      go true e (inl a) =
          inl (at_part (eqb-true (f part) (g part) e) (part + suc m) (λ j k l. a j k (omega arith)))
      go true e (inr w) =
          inr
          (record {
            at = w.at;
            from = omega (arith, w.from);
            to = omega (arith, w.to);
            before = at_part (eqb-true (f part) (g part) e) w.at w.before;
            differ = w.differ;
          })

-- ---- the parts of two Steps

-- the word of a part of the block
pub part_block : (x : Answer) (c : List ℕ) (p : ℕ) → part_word x c (BLOCK_PART + p) ≡ word c p
part_block x c p =
    let q : BLOCK_PART + p - BLOCK_PART ≡ p = omega arith in
    let number : (BLOCK_PART + p ≡ NUMBER_PART → ⊥) = λ e. omega arith in
    let value : (BLOCK_PART + p ≡ VALUE_PART → ⊥) = λ e. omega arith in
    simp (ne_eqb (BLOCK_PART + p) NUMBER_PART number, ne_eqb (BLOCK_PART + p) VALUE_PART value) (ap (word c) q)

-- answers that differ
module _ (x y : Answer) (c d : List ℕ) (m : ℕ) (l : 2 ≤ m) where
  pub number_differs : (x.number ≡ y.number → ⊥)
      → differing m NUMBER_PART (part_word x c) (part_word y d)
      ≡ record { part = NUMBER_PART; found = x.number; due = y.number }
  number_differs n =
      differing_at (part_word x c) (part_word y d) m NUMBER_PART NUMBER_PART (omega arith) (omega arith) (λ j k h. absurd (omega arith)) n

  pub value_differs : x.number ≡ y.number → (x.value ≡ y.value → ⊥)
      → differing m NUMBER_PART (part_word x c) (part_word y d)
      ≡ record { part = VALUE_PART; found = x.value; due = y.value }
  value_differs e n =
      differing_at (part_word x c) (part_word y d) m NUMBER_PART VALUE_PART (omega arith) (omega arith) (λ j k h. one j (omega arith)) n
    where
      one : (j : ℕ) → j ≡ NUMBER_PART → part_word x c j ≡ part_word y d j
      one j w = rw w e

module _ (x y : Answer) (c d : List ℕ) (number : x.number ≡ y.number) (value : x.value ≡ y.value) where
  -- answers that agree, and blocks that do in the first p words, agree in the first parts
  pub parts_alike : (p : ℕ) → ((j : ℕ) → j < p → word c j ≡ word d j)
      → Alike (part_word x c) (part_word y d) NUMBER_PART (BLOCK_PART + p)
  parts_alike p a q l h = go (q is NUMBER_PART) (q is VALUE_PART) refl refl
    where
      go : (t u : Bool) → (q is NUMBER_PART) ≡ t → (q is VALUE_PART) ≡ u
          → (if t then x.number else if u then x.value else word c (q - BLOCK_PART))
          ≡ (if t then y.number else if u then y.value else word d (q - BLOCK_PART))
      go true u e w = number
      go false true e w = value
      go false false e w =
          let n = eqb-false q NUMBER_PART e in
          let v = eqb-false q VALUE_PART w in
          a (q - BLOCK_PART) (omega arith)

  -- so the first word of the blocks that differs is the first part that does
  pub block_differs : (m p : ℕ) → 2 + p < m → ((j : ℕ) → j < p → word c j ≡ word d j)
      → (word c p ≡ word d p → ⊥)
      → differing m NUMBER_PART (part_word x c) (part_word y d)
      ≡ record { part = BLOCK_PART + p; found = word c p; due = word d p }
  block_differs m p l a n =
      let f = part_block x c p in
      let g = part_block y d p in
      differing_at (part_word x c) (part_word y d) m NUMBER_PART (BLOCK_PART + p) (omega arith) (omega arith) (parts_alike p a)
      (λ e. n (sym f ∙ e ∙ g))
      ∙ (λ i. record { part = BLOCK_PART + p; found = f i; due = g i })
