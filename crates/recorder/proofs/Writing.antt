-- Bytes written over others: word by word from the front on, from a place on in what is lent, and one run behind another.
use mathlib.Core.Path.{◌≡◌, sym, ap, ◌∙◌}
use mathlib.Core.List.{List, [], ◌++◌, append_assoc, append-nil}
use Prim.Native.Nat.{ℕ, ◌+◌, ◌-◌, ◌*◌, ◌≤◌}
use native.Mathlib.Omega.{arith}
use native.Mathlib.Nat.{add_assoc}
use lib.ListN.{length, take, drop, length-append, length-drop, drop_of_length-le}
use lib.Seq.{sets-eq, take_at, drop_at, drop-drop, drop-append-add, take_all, take-add, length-take-le}
use Rattle.words.specs.Word.{le32, put}
use Rattle.recorder.specs.Recorded.{written_at}

-- ---- words

-- the word at the place p, where p words f stand in front
pub put_behind : (f r : List ℕ) (p w : ℕ) → length f ≡ 4 * p → 4 ≤ length r → put (f ++ r) p w ≡ f ++ (le32 w ++ drop 4 r)
unfolding put
put_behind f r p w l h =
    let front : take (4 * p) (f ++ r) ≡ f = take_at f r (4 * p) l in
    let rest : drop (4 * p + 4) (f ++ r) ≡ drop 4 r =
    ap (λ (n : ℕ). drop (n + 4) (f ++ r)) (sym l) ∙ drop-append-add f r 4 in
    sets-eq (le32 w) (f ++ r) (4 * p) (omega (arith, l, h, length-append f r))
    ∙ (λ i. front i ++ le32 w ++ rest i)
    ∙ append_assoc f (le32 w) (drop 4 r)

-- ---- a part that begins at a place, and was written over from its front on

-- a callee was lent the bytes from the place on, and left r, of n bytes, and what stood behind as many
pub over_part : (s r c : List ℕ) (at n : ℕ) → length r ≡ n → at + n ≤ length s
    → c ≡ r ++ drop n (take (length s - at) (drop at s))
    → take at s ++ (c ++ drop (length s - at) (drop at s)) ≡ written_at s at r
over_part s r c at n k h e =
    let long = length-drop at s in
    let past : drop (length s - at) (drop at s) ≡ [] = drop_of_length-le (drop at s) {i = length s - at} (omega (arith, long)) in
    let all : take (length s - at) (drop at s) ≡ drop at s = take_all (length s - at) (drop at s) (omega (arith, long)) in
    let left : c ≡ r ++ drop (at + length r) s =
    e
    ∙ (λ i. r ++ drop (sym k i) (all i))
    ∙ ap (λ (l : List ℕ). r ++ l) (drop-drop (length r) at s) in
    (λ i. take at s ++ (left i ++ past i)) ∙ ap (λ (l : List ℕ). take at s ++ l) (append-nil (r ++ drop (at + length r) s))

-- ---- one run behind another

pub length_written : (s r : List ℕ) (at : ℕ) → at + length r ≤ length s → length (written_at s at r) ≡ length s
length_written s r at h =
    let front : length (take at s) ≡ at = length-take-le at s (omega (arith, h)) in
    let whole = length-append (take at s) (r ++ drop (at + length r) s) in
    let behind = length-append r (drop (at + length r) s) in
    omega (arith, h, front, whole, behind, length-drop (at + length r) s)

module _ (s f r : List ℕ) (at : ℕ) (h : at + (length f + length r) ≤ length s) where
  front_of : take (at + length f) (written_at s at f) ≡ take at s ++ f
  front_of =
      let long : length (take at s ++ f) ≡ at + length f =
      length-append (take at s) f ∙ ap (λ (n : ℕ). n + length f) (length-take-le at s (omega (arith, h))) in
      ap (take (at + length f)) (sym (append_assoc (take at s) f (drop (at + length f) s)))
      ∙ take_at (take at s ++ f) (drop (at + length f) s) (at + length f) long

  rest_of : drop (at + length f + length r) (written_at s at f) ≡ drop (at + (length f + length r)) s
  rest_of =
      let long : length (take at s ++ f) ≡ at + length f =
      length-append (take at s) f ∙ ap (λ (n : ℕ). n + length f) (length-take-le at s (omega (arith, h))) in
      sym (drop-drop (length r) (at + length f) (written_at s at f))
      ∙ ap (λ (l : List ℕ). drop (length r) (drop (at + length f) l)) (sym (append_assoc (take at s) f (drop (at + length f) s)))
      ∙ ap (drop (length r)) (drop_at (take at s ++ f) (drop (at + length f) s) (at + length f) long)
      ∙ drop-drop (length r) (at + length f) s
      ∙ ap (λ (n : ℕ). drop n s) (add_assoc at (length f) (length r))

  -- f was written from the place on, and r right behind it: that is both together
  pub written_on : written_at (written_at s at f) (at + length f) r ≡ written_at s at (f ++ r)
  written_on =
      (λ i. front_of i ++ (r ++ rest_of i))
      ∙ append_assoc (take at s) f (r ++ drop (at + (length f + length r)) s)
      ∙ ap (λ (l : List ℕ). take at s ++ l) (sym (append_assoc f r (drop (at + (length f + length r)) s)))
      ∙ ap (λ (n : ℕ). take at s ++ (f ++ r ++ drop (at + n) s)) (sym (length-append f r))

  -- f was written from the place on, and again, and r behind it
  pub written_again : written_at (written_at s at f) at (f ++ r) ≡ written_at s at (f ++ r)
  written_again =
      let first : length (take at s) ≡ at = length-take-le at s (omega (arith, h)) in
      let front : take at (written_at s at f) ≡ take at s = take_at (take at s) (f ++ drop (at + length f) s) at first in
      let end : at + length (f ++ r) ≡ at + length f + length r =
      ap (λ (n : ℕ). at + n) (length-append f r) ∙ sym (add_assoc at (length f) (length r)) in
      let rest : drop (at + length (f ++ r)) (written_at s at f) ≡ drop (at + length (f ++ r)) s =
      ap (λ (n : ℕ). drop n (written_at s at f)) end
      ∙ rest_of
      ∙ ap (λ (n : ℕ). drop (at + n) s) (sym (length-append f r)) in
      λ i. front i ++ (f ++ r ++ rest i)

-- bytes that are written over by themselves stay
pub written_same : (s r : List ℕ) (at n : ℕ) → at + n ≤ length s → written_at s at (take n (drop at s) ++ r) ≡ written_at s (at + n) r
written_same s r at n h =
    let kept = take n (drop at s) in
    let long : length kept ≡ n = length-take-le n (drop at s) (omega (arith, h, length-drop at s)) in
    let whole : at + length (kept ++ r) ≡ at + n + length r = omega (arith, long, length-append kept r) in
    (λ i. take at s ++ (kept ++ r ++ drop (whole i) s))
    ∙ ap (λ (l : List ℕ). take at s ++ l) (append_assoc kept r (drop (at + n + length r) s))
    ∙ sym (append_assoc (take at s) kept (r ++ drop (at + n + length r) s))
    ∙ ap (λ (l : List ℕ). l ++ (r ++ drop (at + n + length r) s)) (sym (take-add at n s))

-- as many bytes in the place of those of the middle part
pub write_middle : (f g r t : List ℕ) (n : ℕ) → length f ≡ n → length g ≡ length r → written_at (f ++ (g ++ t)) n r ≡ f ++ (r ++ t)
write_middle f g r t n k h =
    let rest : drop (n + length r) (f ++ (g ++ t)) ≡ t =
    sym (drop-drop (length r) n (f ++ (g ++ t)))
    ∙ ap (drop (length r)) (drop_at f (g ++ t) n k)
    ∙ drop_at g t (length r) h in
    λ i. take_at f (g ++ t) n k i ++ (r ++ rest i)
