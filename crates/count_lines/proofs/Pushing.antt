-- A number in decimal is put before a text from its last digit on.
use Rattle.std.specs.Prelude.{if◌then◌else◌}
use mathlib.Core.Path.{◌≡◌, refl, sym, ap, ◌∙◌}
use mathlib.Core.Bool.{Bool, true, false}
use mathlib.Core.List.{List, [], ◌∷◌, ◌++◌, append_assoc, append-nil}
use Prim.Native.Nat.{ℕ, zero, suc, ◌+◌, ◌/◌, ◌%◌, ◌<◌, ◌≤◌, ◌^◌}
use native.Mathlib.Omega.{arith}
use native.Mathlib.Nat.{pow-suc, pow-zero}
use lib.ListN.{length, length-append}
use lib.Dec.{ltb}
use borrow.Author.Tests.{lt-ltb, le-ltb, ltb-true, ltb-false}
use Rattle.count_lines.specs.Lines.{ZERO, digits, decimal}
use Rattle.count_lines.specs.Parts.{TEXT_SIZE}

-- ---- a number in decimal

pub digits_few : (most n : ℕ) → length (digits most n) ≤ most
unfolding digits
digits_few zero n = omega arith
digits_few (suc most) n = go (ltb n 10) (digits_few most (n / 10))
  where
    go : (t : Bool) → length (digits most (n / 10)) ≤ most
        → length (if t then (ZERO + n) ∷ [] else digits most (n / 10) ++ ((ZERO + n % 10) ∷ [])) ≤ suc most
    go true h = omega arith
    go false h = omega (arith, length-append (digits most (n / 10)) ((ZERO + n % 10) ∷ []))

one_digit : (most n : ℕ) → n < 10 → digits (suc most) n ≡ (ZERO + n) ∷ []
unfolding digits
one_digit most n l =
    ap (λ (t : Bool). if t then (ZERO + n) ∷ [] else digits most (n / 10) ++ ((ZERO + n % 10) ∷ [])) (lt-ltb n 10 l)

more_digits : (most n : ℕ) → 10 ≤ n → digits (suc most) n ≡ digits most (n / 10) ++ ((ZERO + n % 10) ∷ [])
unfolding digits
more_digits most n l =
    ap (λ (t : Bool). if t then (ZERO + n) ∷ [] else digits most (n / 10) ++ ((ZERO + n % 10) ∷ [])) (le-ltb n 10 l)

pub decimal_one : (n : ℕ) → n < 10 → length (decimal n) ≡ 1
decimal_one n l = ap length (one_digit 9 n l)

pub decimal_two : (n : ℕ) → n < 100 → length (decimal n) ≤ 2
decimal_two n l = go (ltb n 10) refl
  where
    go : (t : Bool) → ltb n 10 ≡ t → length (decimal n) ≤ 2
    go true e = omega (arith, decimal_one n (ltb-true n 10 e))
    go false e =
        let h = ltb-false n 10 e in
        omega (
          arith,
          ap length (more_digits 9 n h),
          length-append (digits 9 (n / 10)) ((ZERO + n % 10) ∷ []),
          ap length (one_digit 8 (n / 10) (omega arith)),
        )

-- what was put before the text t, so that it is u, and what of the number is left
pub record Written (t : List ℕ) (n : ℕ) (u : List ℕ) (rest : ℕ) : Type 0 where
  pub most : ℕ
  pub low : rest < 10 ^ suc most
  pub done : List ℕ
  pub is : u ≡ done ++ t
  pub parts : decimal n ≡ digits (suc most) rest ++ done

pub written_none : (t : List ℕ) (n : ℕ) → n < 2 ^ 32 → Written t n t n
written_none t n l =
    record {
      most = 9;
      low = omega arith;
      done = [];
      is = refl;
      parts = sym (append-nil (decimal n));
    }

module _ (t : List ℕ) (n : ℕ) (u : List ℕ) (rest : ℕ) (w : Written t n u rest) where
  -- there is room for one digit more
  left : 1 ≤ length (digits (suc w.most) rest)
  unfolding digits
  left = go (ltb rest 10)
    where
      go : (s : Bool)
          → 1 ≤ length (if s then (ZERO + rest) ∷ [] else digits w.most (rest / 10) ++ ((ZERO + rest % 10) ∷ []))
      go true = omega arith
      go false = omega (arith, length-append (digits w.most (rest / 10)) ((ZERO + rest % 10) ∷ []))

  pub written_room : length (decimal n) + length t ≤ TEXT_SIZE → length u < TEXT_SIZE
  written_room l =
      let d = length-append (digits (suc w.most) rest) w.done in
      omega (arith, left, ap length w.parts, d, ap length w.is, length-append w.done t)

  pub written_next : 10 ≤ rest → (v : List ℕ) → v ≡ (ZERO + rest % 10) ∷ u → Written t n v (rest / 10)
  written_next l v e = go w.most w.low w.parts
    where
      go : (m : ℕ) → rest < 10 ^ suc m → decimal n ≡ digits (suc m) rest ++ w.done → Written t n v (rest / 10)
      go zero low parts = absurd (omega (arith, pow-suc 10 0, pow-zero 10))
      go (suc m) low parts =
          record {
            most = m;
            low = omega (arith, pow-suc 10 (suc m));
            done = (ZERO + rest % 10) ∷ w.done;
            is = e ∙ ap (λ (x : List ℕ). (ZERO + rest % 10) ∷ x) w.is;
            parts = parts
                ∙ ap (λ (x : List ℕ). x ++ w.done) (more_digits (suc m) rest l)
                ∙ append_assoc (digits (suc m) (rest / 10)) ((ZERO + rest % 10) ∷ []) w.done;
          }

  pub written_last : rest < 10 → (v : List ℕ) → v ≡ (ZERO + rest) ∷ u → v ≡ decimal n ++ t
  written_last l v e =
      e ∙ ap (λ (x : List ℕ). (ZERO + rest) ∷ x) w.is
      ∙ ap (λ (x : List ℕ). x ++ t) (sym (w.parts ∙ ap (λ (x : List ℕ). x ++ w.done) (one_digit w.most rest l)))
