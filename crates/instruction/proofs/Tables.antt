-- Fields that tile a word, whatever they are: their values in a word make the word, and what is put into them is in them.
use mathlib.Core.Path.{◌≡◌, refl, sym, ap, subst, ◌∙◌}
use mathlib.Core.Bool.{Bool, true, ◌&&◌}
use mathlib.Core.List.{List, [], ◌∷◌}
use Prim.Native.Nat.{ℕ, zero, suc, ◌+◌, ◌-◌, ◌*◌, ◌/◌, ◌%◌, ◌^◌, ◌<◌, ◌≤◌}
use native.Mathlib.Omega.{arith}
use native.Mathlib.Nat.{suc-add, add-zero, add_assoc, zero-add, add-mul, mul_assoc, one-mul, zero-mul, mul-le-mul_right}
use native.Mathlib.Nat.{pow-succ', one-le-pow}
use native.Mathlib.Nat.{mod-lt, mod-one, mod-eq_of_lt, div-eq_of_lt, div-add-mod', mul-add-div_right, mul-add-mod_self_right}
use lib.Dec.{leb}
use borrow.Author.Tests.{eqb-true, leb-true}
use Rattle.state.specs.Choice.{◌is◌}
use Rattle.state.proofs.Test.{and_left, and_right}
use Rattle.instruction.specs.Encoding.{Field, values, in_word}
use Rattle.instruction.specs.Instruction.{total}

-- each field begins where the one before it ends: together they are the n low bits
abbrev pub Tiles : ℕ → List Field → Type 0
Tiles n [] = n ≡ 0
Tiles n (f ∷ fs) = (n ≡ f.high + 1) × ((f.low ≤ f.high) × Tiles f.low fs)

-- by computation
abbrev pub are_tiles : ℕ → List Field → Bool
are_tiles n [] = n is 0
are_tiles n (f ∷ fs) = (n is f.high + 1) && (leb f.low f.high && are_tiles f.low fs)

pub tiled : (n : ℕ) (fs : List Field) → are_tiles n fs ≡ true → Tiles n fs
tiled n [] h = eqb-true n 0 h
tiled n (f ∷ fs) h =
    let rest = and_right (n is f.high + 1) (leb f.low f.high && are_tiles f.low fs) h in (
      eqb-true n (f.high + 1) (and_left (n is f.high + 1) (leb f.low f.high && are_tiles f.low fs) h),
      (
        leb-true f.low f.high (and_left (leb f.low f.high) (are_tiles f.low fs) rest),
        tiled f.low fs (and_right (leb f.low f.high) (are_tiles f.low fs) rest),
      ),
    )

-- of every field
abbrev pub Each : (Field → Type 0) → List Field → Type 0
Each P [] = Unit {0}
Each P (f ∷ fs) = P f × Each P fs

-- what a field counts in the word
abbrev pub unit : Field → ℕ
unit f = 2 ^ f.low

-- ---- powers and remainders

pow_plus : (m n : ℕ) → 2 ^ (m + n) ≡ 2 ^ m * 2 ^ n
pow_plus zero n = ap (λ k. 2 ^ k) (zero-add n) ∙ sym (one-mul (2 ^ n))
pow_plus (suc m) n =
    ap (λ k. 2 ^ k) (suc-add m n)
    ∙ pow-succ' 2 (m + n)
    ∙ ap (λ k. 2 * k) (pow_plus m n)
    ∙ sym (mul_assoc 2 (2 ^ m) (2 ^ n))
    ∙ ap (λ k. k * 2 ^ n) (sym (pow-succ' 2 m))

positive : (n : ℕ) → 0 < 2 ^ n
positive n = one-le-pow n 2 (omega arith)

-- the values of a field with those of the bits below it
up_to : (f : Field) → f.low ≤ f.high → 2 ^ (f.high + 1) ≡ values f * 2 ^ f.low
up_to f l =
    let sum : f.high + 1 ≡ f.high + 1 - f.low + f.low = omega (arith, l) in
    ap (λ k. 2 ^ k) sum ∙ pow_plus (f.high + 1 - f.low) f.low

-- a digit and what is below it stay below
digit_below : (d r b a : ℕ) → d < b → r < a → d * a + r < b * a
digit_below d r b a h l =
    let times : (d + 1) * a ≡ d * a + a = add-mul d 1 a ∙ ap (λ k. d * a + k) (one-mul a) in
    let one_more : d + 1 ≤ b = omega (arith, h) in
    let next : (d + 1) * a ≤ b * a = mul-le-mul_right a one_more in
    omega (arith, times, next, l)

split : (w b a : ℕ) → 0 < b → 0 < a → w % (b * a) ≡ w / a % b * a + w % a
split w b a h l =
    let q = w / a in
    let low = q % b * a + w % a in
    let parted : w ≡ q / b * (b * a) + low =
    sym (div-add-mod' w a)
    ∙ ap (λ k. k * a + w % a) (sym (div-add-mod' q b))
    ∙ ap (λ k. k + w % a) (add-mul (q / b * b) (q % b) a ∙ ap (λ k. k + q % b * a) (mul_assoc (q / b) b a))
    ∙ add_assoc (q / b * (b * a)) (q % b * a) (w % a) in
    ap (λ k. k % (b * a)) parted
    ∙ mul-add-mod_self_right (q / b) (b * a) low
    ∙ mod-eq_of_lt (digit_below (q % b) (w % a) b a (mod-lt q h) (mod-lt w l))

-- ---- a word by its fields

-- the values that they have in a word make it, as far as they go
pub whole : (n : ℕ) (fs : List Field) (w : ℕ) → Tiles n fs → total unit (λ f. in_word f w) fs ≡ w % 2 ^ n
whole n [] w t = sym (mod-one w) ∙ ap (λ k. w % 2 ^ k) (sym t)
whole n (f ∷ fs) w t =
    let rest = whole f.low fs w t.1.1 in
    let size : 2 ^ n ≡ values f * 2 ^ f.low = ap (λ k. 2 ^ k) t.0 ∙ up_to f t.1.0 in
    ap (λ k. in_word f w * unit f + k) rest
    ∙ sym (split w (values f) (unit f) (positive (f.high + 1 - f.low)) (positive f.low))
    ∙ ap (λ k. w % k) (sym size)

-- values that fit make a number of so many bits
pub below : (n : ℕ) (fs : List Field) (v : Field → ℕ) → Tiles n fs → Each (λ f. v f < values f) fs → total unit v fs < 2 ^ n
below n [] v t h = positive n
below n (f ∷ fs) v t h =
    let size : 2 ^ n ≡ values f * 2 ^ f.low = ap (λ k. 2 ^ k) t.0 ∙ up_to f t.1.0 in
    rw size (digit_below (v f) (total unit v fs) (values f) (unit f) h.0 (below f.low fs v t.1.1 h.1))

-- and they are in it, whatever is above them
kept : (n : ℕ) (fs : List Field) (v : Field → ℕ) → Tiles n fs → Each (λ f. v f < values f) fs → (above : ℕ)
    → Each (λ f. in_word f (above * 2 ^ n + total unit v fs) ≡ v f) fs
kept n [] v t h above = tt
kept n (f ∷ fs) v t h above =
    let rest = total unit v fs in
    let digits = above * values f + v f in
    let size : 2 ^ n ≡ values f * unit f = ap (λ k. 2 ^ k) t.0 ∙ up_to f t.1.0 in
    let word : above * 2 ^ n + (v f * unit f + rest) ≡ digits * unit f + rest =
    ap (λ k. above * k + (v f * unit f + rest)) size
    ∙ sym (add_assoc (above * (values f * unit f)) (v f * unit f) rest)
    ∙ ap (λ k. k + v f * unit f + rest) (sym (mul_assoc above (values f) (unit f)))
    ∙ ap (λ k. k + rest) (sym (add-mul (above * values f) (v f) (unit f))) in
    let divided : (digits * unit f + rest) / unit f ≡ digits =
    mul-add-div_right (positive f.low) digits rest
    ∙ ap (λ k. digits + k) (div-eq_of_lt (below f.low fs v t.1.1 h.1))
    ∙ add-zero digits in
    let here : in_word f (digits * unit f + rest) ≡ v f =
    ap (λ k. k % values f) divided ∙ mul-add-mod_self_right above (values f) (v f) ∙ mod-eq_of_lt h.0 in
    subst (λ w. Each (λ g. in_word g w ≡ v g) (f ∷ fs)) (sym word) (here, kept f.low fs v t.1.1 h.1 digits)

pub put_is_in : (n : ℕ) (fs : List Field) (v : Field → ℕ) → Tiles n fs → Each (λ f. v f < values f) fs
    → Each (λ f. in_word f (total unit v fs) ≡ v f) fs
put_is_in n fs v t h =
    let sum = total unit v fs in
    let none : 0 * 2 ^ n + sum ≡ sum = ap (λ k. k + sum) (zero-mul (2 ^ n)) ∙ zero-add sum in
    subst (λ w. Each (λ g. in_word g w ≡ v g) fs) none (kept n fs v t h 0)

-- ---- of every field

pub same_total : (counts v u : Field → ℕ) (fs : List Field) → Each (λ f. v f ≡ u f) fs → total counts v fs ≡ total counts u fs
same_total counts v u [] h = refl
same_total counts v u (f ∷ fs) h = λ i. h.0 i * counts f + same_total counts v u fs h.1 i
