-- Which layout a string has is seen in the four bytes of its head, whatever stands behind them.
use mathlib.Core.Path.{◌≡◌, sym, ap, ◌∙◌}
use mathlib.Core.Bool.{true, not}
use mathlib.Core.Logic.{◌⊎◌, inl, inr}
use mathlib.Core.List.{List, ◌++◌}
use Prim.Native.Nat.{ℕ, ◌+◌, ◌-◌, ◌*◌, ◌<◌, ◌≤◌}
use native.Mathlib.Omega.{arith}
use lib.ListN.{length, take, drop, get_or, length-append, length-take, take-append-drop, get_or-append}
use lib.Seq.{get_or-take, get_or-append-add}
use borrow.Author.Tests.{le-leb, lt-leb, eq-eqb, ne_eqb}
use Rattle.words.specs.Word.{half}
use Rattle.words.proofs.Spell.{half_front}
use Rattle.state.specs.Choice.{◌is◌}
use Rattle.records.specs.Layout.{head_size, kind_at, new_layout, is_old}
use Rattle.records.proofs.Faults.{zero_or_not}

-- without a head it is old
pub old_short : (s : List ℕ) → length s < head_size → true ≡ is_old s
unfolding is_old
old_short s h = rw (lt-leb head_size (length s) h)

pub old_front : (x y : List ℕ) → head_size ≤ length x → is_old (x ++ y) ≡ is_old x
unfolding is_old
old_front x y h =
    let more : head_size ≤ length (x ++ y) = omega (arith, length-append x y) in
    rw (le-leb head_size (length (x ++ y)) more, le-leb head_size (length x) h, half_front x y kind_at (omega arith))

-- the first so many bytes of u, a head at least, and the bytes r behind them
pub old_held : (u r : List ℕ) (n : ℕ) → head_size ≤ n → head_size ≤ length u → is_old u ≡ is_old (take n u ++ r)
old_held u r n h l =
    let long : head_size ≤ length (take n u) = omega (arith, length-take n u) in
    sym (ap is_old (take-append-drop n u))
    ∙ old_front (take n u) (drop n u) long
    ∙ sym (old_front (take n u) r long)

-- the two bytes of the kind
pub old_other : (s : List ℕ) → head_size ≤ length s → (get_or s kind_at 0 ≡ new_layout.start_kind → ⊥) → true ≡ is_old s
unfolding is_old half
old_other s l h =
    let other : get_or s kind_at 0 + 256 * get_or s (kind_at + 1) 0 ≡ new_layout.start_kind → ⊥ = λ e. h (omega arith) in
    rw (le-leb head_size (length s) l, ne_eqb _ _ other)

pub old_kind : (s : List ℕ) → head_size ≤ length s → get_or s kind_at 0 ≡ new_layout.start_kind
    → not (get_or s (kind_at + 1) 0 is 0) ≡ is_old s
unfolding is_old half
old_kind s l h = go (zero_or_not (get_or s (kind_at + 1) 0))
  where
    go : (get_or s (kind_at + 1) 0 ≡ 0) ⊎ (get_or s (kind_at + 1) 0 ≡ 0 → ⊥) → not (get_or s (kind_at + 1) 0 is 0) ≡ is_old s
    go (inl z) =
        let e : get_or s kind_at 0 + 256 * get_or s (kind_at + 1) 0 ≡ new_layout.start_kind = omega arith in
        rw (le-leb head_size (length s) l, eq-eqb _ _ z, eq-eqb _ _ e)
    go (inr z) =
        let e : get_or s kind_at 0 + 256 * get_or s (kind_at + 1) 0 ≡ new_layout.start_kind → ⊥ = λ w. z (omega arith) in
        rw (le-leb head_size (length s) l, ne_eqb _ _ z, ne_eqb _ _ e)

-- ---- the first n bytes of u, and the bytes r behind them

module _ (u r : List ℕ) (n : ℕ) where
  pub length_begun : n ≤ length u → length (take n u ++ r) ≡ n + length r
  length_begun h = omega (arith, length-append (take n u) r, length-take n u)

  pub begun_held : (i : ℕ) → n ≤ length u → i < n → get_or u i 0 ≡ get_or (take n u ++ r) i 0
  begun_held i h l =
      sym (get_or-take n u i 0 l) ∙ sym (get_or-append (take n u) r 0 i (omega (arith, length-take n u)))

  pub begun_behind : (i : ℕ) → n ≤ length u → n ≤ i → get_or r (i - n) 0 ≡ get_or (take n u ++ r) i 0
  begun_behind i h l =
      let long : length (take n u) ≡ n = omega (arith, length-take n u) in
      let e : length (take n u) + (i - n) ≡ i = omega arith in
      sym (get_or-append-add (take n u) r (i - n) 0) ∙ ap (λ (j : ℕ). get_or (take n u ++ r) j 0) e
