-- Facts that antt computes: a test that passes everywhere it is tried holds wherever it was tried.
use Rattle.std.specs.Prelude.{if◌then◌else◌}
use mathlib.Core.Path.{◌≡◌, refl, sym, ◌∙◌}
use mathlib.Core.Bool.{Bool, true, false, not, ◌&&◌, ◌||◌}
use mathlib.Core.List.{List, [], ◌∷◌}
use Prim.Native.Nat.{ℕ, zero, suc, ◌+◌, ◌<◌}
use native.Mathlib.Nat.{add-zero, add-suc, suc-add, zero-add, le_of_suc-le-suc, not-suc-le-zero}
use native.Mathlib.Omega.{arith}
use lib.Dec.{eqb}
use lib.ListN.{length, get_or}
use borrow.Author.Tests.{eqb-true, eqb-false, not-true, not-false}
use Rattle.state.specs.Choice.{◌among◌}

pub and_left : (a b : Bool) → (a && b) ≡ true → a ≡ true
and_left true b h = refl
and_left false b h = h

pub and_right : (a b : Bool) → (a && b) ≡ true → b ≡ true
and_right true b h = h
and_right false b h = let z : ◌≡◌ {A = Bool} false true = h in cc

-- from two facts, both
pub both : {a b : Bool} → a ≡ true → b ≡ true → (a && b) ≡ true
both {a = true} p q = q
both {a = false} p q = p

-- what is not true is false
pub refuted : (a : Bool) → (a ≡ true → ⊥) → a ≡ false
refuted true h = absurd (h refl)
refuted false h = refl

pub true_is_not_false : {a : Bool} → a ≡ true → a ≡ false → ⊥
true_is_not_false p q = let z : ◌≡◌ {A = ℕ} 0 1 = let y : ◌≡◌ {A = Bool} true false = sym p ∙ q in cc in omega arith

-- what a call answered, and how the branch on it went, tell of what it is equal to
pub told : {r x t : Bool} → r ≡ x → r ≡ t → x ≡ t
told e h = sym e ∙ h

pub told_not : {r x : Bool} → r ≡ x → not r ≡ true → x ≡ false
told_not {r} e h = sym e ∙ not-true r h

pub told_still : {r x : Bool} → r ≡ x → not r ≡ false → x ≡ true
told_still {r} e h = sym e ∙ not-false r h

-- the same of a test of two parts
pub told_both : {r p q x y t : Bool} → p ≡ x → q ≡ y → r ≡ (p && q) → r ≡ t → (x && y) ≡ t
told_both d e f h = cc

-- of two tests, one or neither
pub first_of_two : (x y : Bool) → x ≡ true → (x || y) ≡ true
first_of_two x y h = rw h

pub neither : (x y : Bool) → x ≡ false → y ≡ false → (x || y) ≡ false
neither x y h k = rw (h, k)

-- are two tests the same?
abbrev pub same : Bool → Bool → Bool
same true b = b
same false b = not b

pub same_eq : (a b : Bool) → same a b ≡ true → a ≡ b
same_eq true true h = refl
same_eq true false h = sym h
same_eq false true h = h
same_eq false false h = refl

-- where the first holds, the second does
abbrev pub implies : Bool → Bool → Bool
implies a b = not a || b

pub implied : (a b : Bool) → implies a b ≡ true → a ≡ true → b ≡ true
implied true b h e = h
implied false b h e = let z : ◌≡◌ {A = Bool} false true = e in cc

-- the test passes with the bit set and with it clear
abbrev pub every_bit : (Bool → Bool) → Bool
every_bit f = f true && f false

pub at_bit : (f : Bool → Bool) → every_bit f ≡ true → (t : Bool) → f t ≡ true
at_bit f h true = and_left (f true) (f false) h
at_bit f h false = and_right (f true) (f false) h

-- the test passes at each number below k
abbrev pub every_below : ℕ → (ℕ → Bool) → Bool
every_below zero f = true
every_below (suc k) f = f k && every_below k f

pub at_below : (k : ℕ) (f : ℕ → Bool) → every_below k f ≡ true → (n : ℕ) → n < k → f n ≡ true
at_below zero f h n l = absurd (not-suc-le-zero l)
at_below (suc k) f h n l = by (eqb n k) refl (λ m. at_below k f (and_right (f k) (every_below k f) h) n m)
  where
    by : (t : Bool) → eqb n k ≡ t → (n < k → f n ≡ true) → f n ≡ true
    by true e rest = rw (eqb-true n k e) (and_left (f k) (every_below k f) h)
    by false e rest = let d = eqb-false n k e in rest (omega arith)

-- the test passes at each number of the list
abbrev pub every_of : List ℕ → (ℕ → Bool) → Bool
every_of [] f = true
every_of (x ∷ xs) f = f x && every_of xs f

pub at_one : (xs : List ℕ) (f : ℕ → Bool) → every_of xs f ≡ true → (n : ℕ) → (n among xs) ≡ true → f n ≡ true
at_one [] f h n e = let z : ◌≡◌ {A = Bool} false true = e in cc
at_one (x ∷ xs) f h n e = by (eqb n x) refl e (at_one xs f (and_right (f x) (every_of xs f) h) n)
  where
    by : (t : Bool) → eqb n x ≡ t → (if t then true else n among xs) ≡ true → ((n among xs) ≡ true → f n ≡ true)
        → f n ≡ true
    by true q g rest = rw (eqb-true n x q) (and_left (f x) (every_of xs f) h)
    by false q g rest = rest g

-- the test passes at each entry of a table and its index, counted from i
abbrev pub every_entry : ℕ → List ℕ → (ℕ → ℕ → Bool) → Bool
every_entry i [] f = true
every_entry i (x ∷ xs) f = f i x && every_entry (suc i) xs f

entry_from : (xs : List ℕ) (f : ℕ → ℕ → Bool) (i : ℕ) → every_entry i xs f ≡ true → (k : ℕ) → k < length xs
    → f (i + k) (get_or xs k 0) ≡ true
entry_from [] f i h k l = absurd (not-suc-le-zero l)
entry_from (x ∷ xs) f i h zero l = rw add-zero (and_left (f i x) (every_entry (suc i) xs f) h)
entry_from (x ∷ xs) f i h (suc k) l =
    let e : i + suc k ≡ suc i + k = add-suc i k ∙ sym (suc-add i k) in
    rw e (entry_from xs f (suc i) (and_right (f i x) (every_entry (suc i) xs f) h) k (le_of_suc-le-suc l))

pub at_entry : (xs : List ℕ) (f : ℕ → ℕ → Bool) → every_entry 0 xs f ≡ true → (k : ℕ) → k < length xs
    → f k (get_or xs k 0) ≡ true
at_entry xs f h k l = rw zero-add at (entry_from xs f 0 h k l)
