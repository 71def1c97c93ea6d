-- Lines from the last word to the first: the text is the lines of the words passed, and there is room for sixteen bytes a
-- word.
use Rattle.std.specs.Prelude.{if◌then◌else◌}
use mathlib.Core.Path.{◌≡◌, sym, ap, ◌∙◌}
use mathlib.Core.Bool.{Bool, true, false}
use mathlib.Core.List.{List, [], ◌∷◌, ◌++◌}
use Prim.Native.Nat.{ℕ, zero, suc, ◌+◌, ◌-◌, ◌*◌, ◌/◌, ◌%◌, ◌<◌, ◌≤◌}
use native.Mathlib.Omega.{arith}
use lib.ListN.{length, take, drop, length-append}
use lib.Seq.{take-length}
use lib.Dec.{eqb}
use borrow.Author.Tests.{eq-eqb, ne_eqb, lt-ltb, le-ltb}
use Rattle.words.specs.Word.{word}
use Rattle.state.specs.Number.{DONE, BAD_SIZE, NO_ROOM}
use Rattle.counts.specs.Counts.{GROUP_SIZE, WORDS, COUNTS_SIZE}
use Rattle.count_lines.specs.Lines.{SPACE, LINE_END, decimal, field, line, line_of, lines_from, lines, lines_return, lines_leave}
use Rattle.count_lines.specs.Lines.{Written}
use Rattle.count_lines.specs.Parts.{TEXT_SIZE}
use Rattle.count_lines.proofs.Pushing.{digits_few, decimal_one, decimal_two}

-- ---- how long they are

pub line_few : (w n : ℕ) → w < WORDS → length (line (w / GROUP_SIZE + 1) (w % GROUP_SIZE) n) ≤ 16
line_few w n l =
    let g : ℕ = w / GROUP_SIZE + 1 in
    let i : ℕ = w % GROUP_SIZE in
    omega (
      arith,
      length-append (field g SPACE) (field i SPACE ++ field n LINE_END),
      length-append (field i SPACE) (field n LINE_END),
      length-append (decimal g) (SPACE ∷ []),
      length-append (decimal i) (SPACE ∷ []),
      length-append (decimal n) (LINE_END ∷ []),
      decimal_one g (omega arith),
      decimal_two i (omega arith),
      digits_few 10 n,
    )

line_of_few : (counts : List ℕ) (w : ℕ) → w < WORDS → length (line_of counts w) ≤ 16
unfolding line_of
line_of_few counts w l = go (eqb (word counts w) 0)
  where
    go : (t : Bool) → length (if t then [] else line (w / GROUP_SIZE + 1) (w % GROUP_SIZE) (word counts w)) ≤ 16
    go true = omega arith
    go false = line_few w (word counts w) l

pub lines_few : (m w : ℕ) (counts : List ℕ) → w + m ≤ WORDS → length (lines_from m w counts) ≤ 16 * m
unfolding lines_from
lines_few zero w counts l = omega arith
lines_few (suc m) w counts l =
    omega (
      arith,
      length-append (line_of counts w) (lines_from m (w + 1) counts),
      line_of_few counts w (omega arith),
      lines_few m (w + 1) counts (omega arith),
    )

-- ---- the words passed

module _ (counts : List ℕ) where
  -- the text is the lines of the words from w on
  pub record Lined (u : List ℕ) (w : ℕ) : Type 0 where
    pub few : w ≤ WORDS
    pub is : u ≡ lines_from (WORDS - w) w counts

  pub lined_none : (u : List ℕ) → u ≡ [] → Lined u WORDS
  unfolding lines_from
  lined_none u e = record { few = omega arith; is = e }

  next_lines : (w : ℕ) → 0 < w → w ≤ WORDS
      → lines_from (WORDS - (w - 1)) (w - 1) counts ≡ line_of counts (w - 1) ++ lines_from (WORDS - w) w counts
  unfolding lines_from
  next_lines w l h =
      let m : WORDS - (w - 1) ≡ suc (WORDS - w) = omega arith in
      let n : w - 1 + 1 ≡ w = omega arith in
      ap (λ (k : ℕ). lines_from k (w - 1) counts) m
      ∙ ap (λ (k : ℕ). line_of counts (w - 1) ++ lines_from (WORDS - w) k counts) n

  module _ (u : List ℕ) (w : ℕ) (h : Lined u w) (l : 0 < w) where
    pub lined_room : (n : ℕ) → length (line ((w - 1) / GROUP_SIZE + 1) ((w - 1) % GROUP_SIZE) n) + length u ≤ TEXT_SIZE
    lined_room n =
        omega (
          arith,
          h.few,
          ap length h.is,
          lines_few (WORDS - w) w counts (omega (arith, h.few)),
          line_few (w - 1) n (omega (arith, h.few)),
        )

    pub lined_next : (x : ℕ) → x ≡ word counts (w - 1) → (x ≡ 0 → ⊥) → (v : List ℕ)
        → v ≡ line ((w - 1) / GROUP_SIZE + 1) ((w - 1) % GROUP_SIZE) x ++ u
        → Lined v (w - 1)
    unfolding line_of
    lined_next x e n v p =
        let this : List ℕ = line ((w - 1) / GROUP_SIZE + 1) ((w - 1) % GROUP_SIZE) (word counts (w - 1)) in
        let is : line ((w - 1) / GROUP_SIZE + 1) ((w - 1) % GROUP_SIZE) x ≡ line_of counts (w - 1) =
        ap (line ((w - 1) / GROUP_SIZE + 1) ((w - 1) % GROUP_SIZE)) e
        ∙ ap (λ (b : Bool). if b then [] else this) (sym (ne_eqb (word counts (w - 1)) 0 (λ z. n (e ∙ z)))) in
        record { few = omega (arith, h.few); is = p ∙ (λ i. is i ++ h.is i) ∙ sym (next_lines w l h.few) }

    pub lined_same : (x : ℕ) → x ≡ word counts (w - 1) → x ≡ 0 → Lined u (w - 1)
    unfolding line_of
    lined_same x e z =
        let this : List ℕ = line ((w - 1) / GROUP_SIZE + 1) ((w - 1) % GROUP_SIZE) (word counts (w - 1)) in
        let is : line_of counts (w - 1) ≡ [] =
        ap (λ (b : Bool). if b then [] else this) (eq-eqb (word counts (w - 1)) 0 (sym e ∙ z)) in
        let same = next_lines w l h.few ∙ ap (λ (s : List ℕ). s ++ lines_from (WORDS - w) w counts) is in
        record { few = omega (arith, h.few); is = h.is ∙ sym same }

  pub lined_all : (u : List ℕ) (w : ℕ) → Lined u w → w ≤ 0 → u ≡ lines counts
  lined_all u w h l =
      let z : w ≡ 0 = omega arith in
      rw z at h.is

-- ---- the answers

module _ (counts room : List ℕ) where
  abbrev pub Puts : Written → List ℕ → Type 0
  Puts v r = (v ≡ lines_return counts room) × (r ≡ lines_leave counts room)

  left : (v : Written) → v ≡ lines_return counts room → (v.number ≡ DONE → ⊥) → Puts v room
  unfolding lines_leave
  left v e n =
      let q = ap (λ (x : Written). x.number) e in
      let t = ne_eqb (lines_return counts room).number DONE (λ z. n (q ∙ z)) in
      (e, ap (λ (b : Bool). if b then lines counts ++ drop (length (lines counts)) room else room) (sym t))

  pub put_bad_size : (length counts ≡ COUNTS_SIZE → ⊥) → Puts (record { number = BAD_SIZE; size = 0 }) room
  unfolding lines_return
  put_bad_size n = left (record { number = BAD_SIZE; size = 0 }) (simp (ne_eqb (length counts) COUNTS_SIZE n)) (λ e. omega arith)

  -- the text that was made is the lines
  module _ (size : length counts ≡ COUNTS_SIZE) (s : List ℕ) (is : s ≡ lines counts) where
    pub put_no_room : length room < length s → Puts (record { number = NO_ROOM; size = 0 }) room
    unfolding lines_return
    put_no_room n =
        left (record { number = NO_ROOM; size = 0 })
        (simp (eq-eqb (length counts) COUNTS_SIZE size, lt-ltb (length room) (length (lines counts)) (rw is at n)))
        (λ e. omega arith)

    pub put_done : length s ≤ length room → (r : List ℕ) → r ≡ take (length s) s ++ drop (length s) room
        → Puts (record { number = DONE; size = length s }) r
    unfolding lines_return lines_leave
    put_done n r c =
        let number : record { number = DONE; size = length s } ≡ lines_return counts room =
        (λ i. record { number = DONE; size = length (is i) })
        ∙ simp (eq-eqb (length counts) COUNTS_SIZE size, le-ltb (length room) (length (lines counts)) (rw is at n)) in
        let q = ap (λ (x : Written). x.number) number in
        let t = eq-eqb (lines_return counts room).number DONE (sym q) in (
          number,
          c ∙ (λ i. take (length (is i)) (is i) ++ drop (length (is i)) room)
              ∙ ap (λ (x : List ℕ). x ++ drop (length (lines counts)) room) (take-length (lines counts))
              ∙ ap (λ (b : Bool). if b then lines counts ++ drop (length (lines counts)) room else room) (sym t),
        )
