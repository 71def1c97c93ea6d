-- A set of modes as a word, bit n for the mode of number n, says what the list of those modes says.
use Rattle.std.specs.Prelude.{if◌then◌else◌}
use mathlib.Core.Path.{◌≡◌, refl, sym}
use mathlib.Core.Bool.{Bool, true, false, ◌&&◌, ◌||◌}
use mathlib.Core.List.{List, [], ◌∷◌, ◌++◌}
use Prim.Native.Nat.{ℕ, ◌<◌, ◌≤◌}
use native.Mathlib.Omega.{arith}
use lib.Dec.{eqb, ltb}
use borrow.Author.Tests.{ne_eqb, ltb-true, ltb-false}
use Rattle.state.specs.Choice.{◌among◌}
pub use Rattle.state.specs.Parts.{in_set}
use Rattle.state.specs.Mode.{modes, el1_modes, guest_modes, known, el1, guest}
use Rattle.state.specs.declared.mode.TheConstants.{MODES, EL1_MODES, GUEST_MODES}
use Rattle.state.proofs.Test.{same, same_eq, every_below, at_below, every_of, and_left, and_right}

pub in_set_lem : (set : ℕ) (ms : List ℕ) → every_below 32 (λ n. same (in_set set n) (n among ms)) ≡ true → (n : ℕ) → n < 32
    → in_set set n ≡ (n among ms)
in_set_lem set ms h n l =
    same_eq (in_set set n) (n among ms) (at_below 32 (λ n. same (in_set set n) (n among ms)) h n l)

-- no number of k or more is in a list of smaller ones
pub among_out : (k : ℕ) (xs : List ℕ) → every_of xs (λ x. ltb x k) ≡ true → (n : ℕ) → k ≤ n → (n among xs) ≡ false
among_out k [] h n l = refl
among_out k (x ∷ xs) h n l =
    let b = ltb-true x k (and_left (ltb x k) (every_of xs (λ x. ltb x k)) h) in
    rw (ne_eqb n x (λ e. omega arith)) (among_out k xs (and_right (ltb x k) (every_of xs (λ x. ltb x k)) h) n l)

-- looked up by a shift, a set is its list
pub listed : (set : ℕ) (ms : List ℕ) → every_below 32 (λ n. same (in_set set n) (n among ms)) ≡ true
    → every_of ms (λ n. ltb n 32) ≡ true → (n : ℕ) → (ltb n 32 && in_set set n) ≡ (n among ms)
listed set ms h k n = by (ltb n 32) refl
  where
    by : (t : Bool) → ltb n 32 ≡ t → (t && in_set set n) ≡ (n among ms)
    by true e = in_set_lem set ms h n (ltb-true n 32 e)
    by false e = sym (among_out 32 ms k n (ltb-false n 32 e))

-- the code's sets of modes are the lists of them
pub known_says : (n : ℕ) → (ltb n 32 && in_set MODES n) ≡ known n
unfolding known
known_says = listed MODES modes refl refl

pub el1_says : (n : ℕ) → (ltb n 32 && in_set EL1_MODES n) ≡ el1 n
unfolding el1
el1_says = listed EL1_MODES el1_modes refl refl

pub guest_says : (n : ℕ) → (ltb n 32 && in_set GUEST_MODES n) ≡ guest n
unfolding guest
guest_says = listed GUEST_MODES guest_modes refl refl

-- in two lists, one after the other
pub among_append : (n : ℕ) (xs ys : List ℕ) → (n among (xs ++ ys)) ≡ (n among xs || n among ys)
among_append n [] ys = refl
among_append n (x ∷ xs) ys = by (eqb n x) (among_append n xs ys)
  where
    by : (t : Bool) → (n among (xs ++ ys)) ≡ (n among xs || n among ys)
        → (if t then true else n among (xs ++ ys)) ≡ ((if t then true else n among xs) || n among ys)
    by true h = refl
    by false h = h

-- the number is none of them, as the last arm of a `match` says it, which knows P besides
abbrev pub Unlike : Type 0 → ℕ → List ℕ → Type 0
Unlike P n [] = P
Unlike P n (x ∷ xs) = Unlike (P × (n ≡ x → ⊥)) n xs

pub unlike_among : (P : Type 0) (n : ℕ) (xs : List ℕ) → Unlike P n xs → P × ((n among xs) ≡ false)
unlike_among P n [] h = (h, refl)
unlike_among P n (x ∷ xs) h = let r = unlike_among (P × (n ≡ x → ⊥)) n xs h in (r.0.0, rw (ne_eqb n x r.0.1) r.1)
