-- How faults add up: the first one wins, so a chain is 0 only where each link is, and each number says which test failed.
use mathlib.Core.Path.{◌≡◌, refl, subst}
use mathlib.Core.Bool.{Bool, true, false, ◌&&◌}
use mathlib.Core.Logic.{◌⊎◌, inl, inr}
use mathlib.Core.List.{List, [], ◌∷◌}
use Prim.Native.Nat.{ℕ, zero, suc, ◌<◌, ◌≤◌}
use native.Mathlib.Omega.{arith}
use lib.ListN.{length}
use lib.Dec.{eqb, leb, lit<}
use borrow.Author.Tests.{le-leb, lt-leb, eq-eqb, ne_eqb, leb-true, leb-false, eqb-true}
use Rattle.words.specs.Word.{half}
use Rattle.records.specs.declared.report.Report.{Report}
use Rattle.records.specs.Layout.{head_size, length_at, kind_at}
use Rattle.records.specs.Report.{unless, ◌else◌, refused, same_bytes, head_number, SHORT, BAD_RECORD}

-- true and false differ
pub differ : {X : Type 0} → false ≡ true → X
differ e = absurd (let z : ◌≡◌ {A = ℕ} 0 1 = cc in omega arith)

-- a number is 0, or not; it is below another, or not
pub zero_or_not : (n : ℕ) → (n ≡ 0) ⊎ (n ≡ 0 → ⊥)
zero_or_not zero = inl refl
zero_or_not (suc n) = inr (λ e. omega arith)

pub below : (m n : ℕ) → (m < n) ⊎ (n ≤ m)
below m n = go (leb n m) refl
  where
    go : (t : Bool) → leb n m ≡ t → (m < n) ⊎ (n ≤ m)
    go true e = inr (leb-true n m e)
    go false e = inl (leb-false n m e)

-- ---- the first fault of two

pub else_first : (n m : ℕ) → (n ≡ 0 → ⊥) → (n else m) ≡ n
else_first zero m h = absurd (h refl)
else_first (suc n) m h = refl

pub else_second : (n m : ℕ) → n ≡ 0 → (n else m) ≡ m
else_second zero m h = refl
else_second (suc n) m h = absurd (omega arith)

pub else_zero : (n m : ℕ) → (n else m) ≡ 0 → (n ≡ 0) × (m ≡ 0)
else_zero zero m h = (refl, h)
else_zero (suc n) m h = absurd (omega arith)

pub unless_zero : (t : Bool) (f : ℕ) → 0 < f → unless t f ≡ 0 → t ≡ true
unless_zero true f l h = refl
unless_zero false f l h = absurd (omega arith)

-- ---- a report, or what is said of the rest

pub refused_on : (n place k : ℕ) (v : Report) → n ≡ 0 → refused n place k v ≡ v
refused_on zero place k v h = refl
refused_on (suc n) place k v h = absurd (omega arith)

pub refused_at : (n place k : ℕ) (v : Report) → (n ≡ 0 → ⊥)
    → refused n place k v ≡ record { number = n; place = place; steps = k }
refused_at zero place k v h = absurd (h refl)
refused_at (suc n) place k v h = refl

pub refused_zero : (n place k : ℕ) (v : Report) → (refused n place k v).number ≡ 0 → (n ≡ 0) × (v.number ≡ 0)
refused_zero zero place k v h = (refl, h)
refused_zero (suc n) place k v h = absurd (omega arith)

-- ---- the same bytes

pub same_refl : (xs : List ℕ) → same_bytes xs xs ≡ true
same_refl [] = refl
same_refl (x ∷ xs) = simp (eq-eqb x x refl) (same_refl xs)

pub same_yes : (xs ys : List ℕ) → xs ≡ ys → same_bytes xs ys ≡ true
same_yes xs ys e = subst (λ (l : List ℕ). same_bytes xs l ≡ true) e (same_refl xs)

pub same_true : (xs ys : List ℕ) → same_bytes xs ys ≡ true → xs ≡ ys
same_true [] [] h = refl
same_true [] (y ∷ ys) h = differ h
same_true (x ∷ xs) [] h = differ h
same_true (x ∷ xs) (y ∷ ys) h = go (eqb x y) refl h (same_true xs ys)
  where
    go : (t : Bool) → eqb x y ≡ t → (t && same_bytes xs ys) ≡ true → (same_bytes xs ys ≡ true → xs ≡ ys)
        → ◌≡◌ {A = List ℕ} (x ∷ xs) (y ∷ ys)
    go true e q more = let p : xs ≡ ys = more q in let z : x ≡ y = eqb-true x y e in cc
    go false e q more = differ q

pub same_no : (xs ys : List ℕ) → (xs ≡ ys → ⊥) → same_bytes xs ys ≡ false
same_no xs ys h = go (same_bytes xs ys) refl
  where
    go : (t : Bool) → same_bytes xs ys ≡ t → t ≡ false
    go true e = absurd (h (same_true xs ys e))
    go false e = refl

-- ---- a record's head

module _ (len kind : ℕ) (r : List ℕ) where
  pub head_short : length r < head_size → head_number len kind r ≡ SHORT
  unfolding head_number
  head_short h = simp (lt-leb _ _ h)

  pub head_cut : head_size ≤ length r → half r length_at ≡ len → half r kind_at ≡ kind → length r < len
      → head_number len kind r ≡ SHORT
  unfolding head_number
  head_cut h a b k = simp (le-leb _ _ h, eq-eqb _ _ a, eq-eqb _ _ b, lt-leb _ _ k)

  pub head_right : head_size ≤ length r → half r length_at ≡ len → half r kind_at ≡ kind → len ≤ length r
      → head_number len kind r ≡ 0
  unfolding head_number
  head_right h a b k = simp (le-leb _ _ h, eq-eqb _ _ a, eq-eqb _ _ b, le-leb _ _ k)

  -- the length and the kind are not both those due
  pub head_bad : head_size ≤ length r → (half r length_at ≡ len → half r kind_at ≡ kind → ⊥)
      → head_number len kind r ≡ BAD_RECORD
  unfolding head_number
  head_bad h n = go (eqb (half r length_at) len) refl
    where
      go : (t : Bool) → eqb (half r length_at) len ≡ t → head_number len kind r ≡ BAD_RECORD
      go true e = simp (le-leb _ _ h, e, ne_eqb _ _ (n (eqb-true _ _ e)))
      go false e = simp (le-leb _ _ h, e)

  -- and back: what each number says of the head
  pub head_whole : head_number len kind r ≡ 0
      → (head_size ≤ length r) × (half r length_at ≡ len) × (half r kind_at ≡ kind) × (len ≤ length r)
  unfolding head_number
  head_whole h =
      let p = else_zero (unless (leb head_size (length r)) SHORT) _ h in
      let q = else_zero (unless (eqb (half r length_at) len) BAD_RECORD) _ p.1 in
      let w = else_zero (unless (eqb (half r kind_at) kind) BAD_RECORD) _ q.1 in (
        leb-true _ _ (unless_zero _ SHORT (lit< tt) p.0),
        eqb-true _ _ (unless_zero _ BAD_RECORD (lit< tt) q.0),
        eqb-true _ _ (unless_zero _ BAD_RECORD (lit< tt) w.0),
        leb-true _ _ (unless_zero _ SHORT (lit< tt) w.1),
      )
