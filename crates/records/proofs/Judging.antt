-- What the code's tests say in the terms of the definitions: one word is both halves of a head, and a Step under a right
-- head is the one that the rules give exactly where its number, its value and its block are.
use mathlib.Core.Path.{◌≡◌, refl, sym, ap, ◌∙◌}
use mathlib.Core.Bool.{Bool, true, false}
use mathlib.Core.List.{List, ◌++◌, append-nil}
use mathlib.Core.Logic.{◌⊎◌, inl, inr, ◌↔◌}
use Prim.Native.Nat.{ℕ, zero, suc, ◌+◌, ◌-◌, ◌*◌, ◌<◌, ◌≤◌, ◌^◌}
use native.Mathlib.Omega.{arith}
use native.Mathlib.Nat.{mul-zero, mul-suc}
use lib.ListN.{length, take, drop, length-take, length-drop, drop_of_length-le}
use lib.Seq.{take_all, take-length, drop-drop}
use lib.Dec.{lit<}
use borrow.Author.Tests.{le-leb, lt-leb, leb-true}
use Rattle.words.specs.Word.{half, spelt, Bytes}
use Rattle.words.proofs.Spell.{two_halves, as_word}
use Rattle.rules.specs.declared.event.Event.{Event}
use Rattle.rules.specs.declared.verdict.Answer.{Answer}
use Rattle.records.specs.Layout.{Layout, Lawful, start_size, step_size, end_size, most_steps, place_of, block_after_at}
use Rattle.records.specs.Layout.{head_size, length_at, kind_at, count_at, start_block_at, code_at, a_at, b_at}
use Rattle.records.specs.Published.{IsAnswer, step_showing, step_record}
use Rattle.records.specs.Report.{head_number, start_number, step_number, end_number, end_report, report_from, report}
use Rattle.records.specs.Report.{event_of, refused, BAD_RECORD, BAD_COUNT, WRONG_STEP, TRAILING}
use Rattle.records.specs.Judged.{Run, Shows, Judged, block_after, number_behind, Went}
use Rattle.records.proofs.Faults.{differ, below, else_zero, unless_zero, same_yes, same_no, head_bad, head_whole}
use Rattle.records.proofs.Faults.{refused_on, refused_at}
use Rattle.records.proofs.Records.{answer_of, answer_fits, step_shows, shown_answer, shown_block}

-- ---- heads

module _ (len kind : ℕ) (r : List ℕ) (by : Bytes r) (small : len < 2 ^ 16) where
  -- the first word is not that of the head due
  pub word_bad : head_size ≤ length r → (spelt r length_at ≡ len + 65536 * kind → ⊥) → head_number len kind r ≡ BAD_RECORD
  word_bad h n = head_bad len kind r h (λ p q. n (as_word r len kind p q))

  -- it is, so both halves are
  pub word_right : spelt r length_at ≡ len + 65536 * kind → (half r length_at ≡ len) × (half r kind_at ≡ kind)
  word_right e = two_halves r len kind by small e

-- ---- a Step

-- what is shown is shown under any of its names
shows_same : (L : Layout) (r : List ℕ) (x y : Answer) (c d : List ℕ) → x ≡ y → c ≡ d → Shows L r x c → Shows L r y d
shows_same L r x y c d p q s =
    record {
      number = s.number ∙ ap (λ (z : Answer). z.number) p;
      value = s.value ∙ ap (λ (z : Answer). z.value) p;
      block = s.block ∙ q;
    }

module _ (L : Layout) (LL : Lawful L) (r b : List ℕ) where
  module _ (size : length b ≡ L.size) (by : Bytes r) (bb : Bytes b)
      (z : head_number (step_size L) L.step_kind r ≡ 0) (c : List ℕ) where
    rules_fit : IsAnswer (L.answer b (event_of r))
    rules_fit =
        record {
          number = LL.number_fits b (event_of r) size;
          value = LL.value_fits b (event_of r) size bb;
        }

    shows : take (step_size L) r ≡ step_showing L (event_of r) (answer_of r) (take L.size (drop block_after_at r))
    shows = step_shows L LL r by z (head_whole (step_size L) L.step_kind r z)

    -- anything but what the rules give
    wrong : (take (step_size L) r ≡ step_record L b (event_of r) → ⊥) → Judged L r b WRONG_STEP c
    unfolding step_number
    wrong n = record { number = simp (z, same_no _ _ n); block = λ w. absurd (omega arith) }

    -- the Step is the one that the rules give exactly where it shows their answer and their block
    judged_wrong : (Shows L r (L.answer b (event_of r)) (L.after b (event_of r)) → ⊥) → Judged L r b WRONG_STEP c
    judged_wrong n =
        let e : Event = event_of r in
        let d : List ℕ = take L.size (drop block_after_at r) in
        wrong
        (λ q.
        let x = shown_answer L LL e e (answer_of r) (L.answer b e) d (L.after b e) (answer_fits r by) rules_fit
        (sym shows ∙ q) in
        n
        (record {
          number = ap (λ (y : Answer). y.number) x;
          value = ap (λ (y : Answer). y.value) x;
          block = shown_block L LL e e (answer_of r) (L.answer b e) d (L.after b e) (sym shows ∙ q);
        }))

    pub judged_right : Shows L r (L.answer b (event_of r)) (L.after b (event_of r)) → c ≡ L.after b (event_of r)
        → Judged L r b 0 c
    unfolding step_number
    judged_right s e =
        let q : take (step_size L) r ≡ step_record L b (event_of r) =
        shows ∙ (λ i. step_showing L (event_of r) (record { number = s.number i; value = s.value i }) (s.block i)) in
        record { number = simp (z, same_yes _ _ q); block = λ w. e }

    -- what the step answered and left is what the rules give, and a test says whether the Step shows that
    module _ (x : Answer) (p : x ≡ L.answer b (event_of r)) (q : c ≡ L.after b (event_of r)) where
      pub judged_by : {t : Bool} → (t ≡ true) ↔ Shows L r x c
          → (t ≡ false → Judged L r b WRONG_STEP c) × (t ≡ true → Judged L r b 0 c)
      judged_by i = (
        (λ f. judged_wrong (λ s. differ (sym f ∙ i.1 (shows_same L r _ x _ c (sym p) (sym q) s)))),
        (λ t. judged_right (shows_same L r x _ c _ p q (i.0 t)) q),
      )

-- a right Step is whole
pub step_whole : (L : Layout) (b r : List ℕ) → step_number L b r ≡ 0 → step_size L ≤ length r
unfolding step_number
step_whole L b r z =
    (head_whole (step_size L) L.step_kind r (else_zero (head_number (step_size L) L.step_kind r) _ z).0).3

-- the event read off a Step's words, and what the rules give on it
pub event_read : (r : List ℕ) (x y w : ℕ) → x ≡ spelt r code_at → y ≡ spelt r a_at → w ≡ spelt r b_at
    → ◌≡◌ {A = Event} (record { code = x; a = y; b = w }) (event_of r)
event_read r x y w p q s = λ i. record { code = p i; a = q i; b = s i }

-- ---- the report, turn by turn

module _ (L : Layout) where
  -- a Step is due
  pub from_step : (m k : ℕ) (b r : List ℕ) → 0 < m
      → report_from L m k b r
      ≡ refused (step_number L b r) (place_of L k) k
      (report_from L (m - 1) (k + 1) (L.after b (event_of r)) (drop (step_size L) r))
  unfolding report_from
  from_step zero k b r h = absurd (omega arith)
  from_step (suc m) k b r h = let e : suc m - 1 ≡ m = omega arith in rw e refl

  -- the Step due is wrong, or right
  module _ (m k : ℕ) (b r : List ℕ) (h : 0 < m) where
    pub from_wrong : (step_number L b r ≡ 0 → ⊥)
        → report_from L m k b r ≡ record { number = step_number L b r; place = place_of L k; steps = k }
    from_wrong z = from_step m k b r h ∙ refused_at (step_number L b r) (place_of L k) k _ z

    pub from_right : step_number L b r ≡ 0
        → report_from L m k b r ≡ report_from L (m - 1) (k + 1) (L.after b (event_of r)) (drop (step_size L) r)
    from_right z = from_step m k b r h ∙ refused_on (step_number L b r) (place_of L k) k _ z

  -- End is due
  pub from_end : (k : ℕ) (b r : List ℕ) → report_from L 0 k b r ≡ end_report k (place_of L k) r
  unfolding report_from
  from_end k b r = refl

  module _ (k place : ℕ) (r : List ℕ) where
    pub end_wrong : (end_number k r ≡ 0 → ⊥)
        → end_report k place r ≡ record { number = end_number k r; place = place; steps = k }
    unfolding end_report
    end_wrong z = refused_at (end_number k r) place k _ z

    pub end_more : end_number k r ≡ 0 → end_size < length r
        → end_report k place r ≡ record { number = TRAILING; place = place + end_size; steps = k }
    unfolding end_report
    end_more z l = simp (z, lt-leb _ _ l)

    pub end_right : end_number k r ≡ 0 → length r ≤ end_size
        → end_report k place r ≡ record { number = 0; place = place + end_size; steps = k }
    unfolding end_report
    end_right z l = simp (z, le-leb _ _ l)

  -- the Start is wrong, or right
  module _ (s : List ℕ) where
    pub start_wrong : (start_number L s ≡ 0 → ⊥)
        → report L s ≡ record { number = start_number L s; place = 0; steps = 0 }
    unfolding report
    start_wrong z = refused_at (start_number L s) 0 0 _ z

    pub start_right : start_number L s ≡ 0
        → report L s ≡ report_from L (spelt s count_at) 0 (take L.size (drop start_block_at s)) (drop (start_size L) s)
    unfolding report
    start_right z = refused_on (start_number L s) 0 0 _ z

-- a right Start is whole and counts at most 65,535 Steps; its block is whole too
pub start_whole : (L : Layout) (s : List ℕ) → start_number L s ≡ 0 → (start_size L ≤ length s) × (spelt s count_at ≤ most_steps)
unfolding start_number
start_whole L s z =
    let q = else_zero (head_number (start_size L) L.start_kind s) _ z in
    ((head_whole (start_size L) L.start_kind s q.0).3, leb-true _ _ (unless_zero _ BAD_COUNT (lit< tt) q.1))

pub block_whole : (L : Layout) (s : List ℕ) → start_number L s ≡ 0 → length (take L.size (drop start_block_at s)) ≡ L.size
block_whole L s z = omega (arith, length-take L.size (drop start_block_at s), length-drop start_block_at s, (start_whole L s z).0)

-- ---- the loop over the Steps

-- k of so many Steps were right, from the front of r on and from the block b to the block c, and the next one begins at this place
pub record Reached (L : Layout) (r : List ℕ) (count : ℕ) (b c : List ℕ) (k at : ℕ) : Type 0 where
  pub few : k ≤ count
  pub place : at ≡ step_size L * k
  pub inside : at ≤ length r
  pub size : length c ≡ L.size
  pub right : (j : ℕ) → j < k → number_behind L j b r ≡ 0
  pub block : c ≡ block_after L k b r

pub reached_none : (L : Layout) (r : List ℕ) (count : ℕ) (b : List ℕ) → length b ≡ L.size → Reached L r count b b 0 0
unfolding block_after
reached_none L r count b h =
    record {
      few = omega arith;
      place = sym (mul-zero (step_size L));
      inside = omega arith;
      size = h;
      right = λ j l. absurd (omega arith);
      block = refl;
    }

module _ (L : Layout) (LL : Lawful L) (r : List ℕ) (count : ℕ) (b c : List ℕ) (k at : ℕ) (here : Reached L r count b c k at)
    (l : k < count) (n : ℕ) (d : List ℕ) (j : Judged L (drop at r) c n d) where
  -- what is said of the next one
  behind : n ≡ number_behind L k b r
  behind = j.number ∙ (λ i. step_number L (here.block i) (drop (here.place i) r))

  pub reached_next : (size : ℕ) → size ≡ step_size L → n ≡ 0 → Reached L r count b d (k + 1) (at + size)
  unfolding block_after
  reached_next size s z =
      let e : d ≡ L.after c (event_of (drop at r)) = j.block z in
      let whole : step_size L ≤ length (drop at r) = step_whole L c (drop at r) (sym j.number ∙ z) in
      let up : suc k ≡ k + 1 = omega arith in
      record {
        few = omega arith;
        place = omega (arith, here.place, ap (λ (m : ℕ). step_size L * m) up, mul-suc (step_size L) k);
        inside = omega (arith, whole, length-drop at r);
        size = ap length e ∙ LL.length_after c (event_of (drop at r)) here.size;
        right = λ i h. go i (below i k) h;
        block = e
            ∙ (λ i. L.after (here.block i) (event_of (drop (here.place i) r)))
            ∙ ap (λ (m : ℕ). block_after L m b r) up;
      }
    where
      go : (i : ℕ) → (i < k) ⊎ (k ≤ i) → i < k + 1 → number_behind L i b r ≡ 0
      go i (inl h) u = here.right i h
      go i (inr h) u = let e : i ≡ k = omega arith in ap (λ (m : ℕ). number_behind L m b r) e ∙ sym behind ∙ z

  pub reached_wrong : (n ≡ 0 → ⊥) → Went L r count b (record { right = k; fault = n }) d
  reached_wrong z =
      record {
        few = here.few;
        inside = omega (arith, here.inside, here.place);
        right = here.right;
        all = λ e. absurd (z e);
        wrong = λ _. (l, behind);
      }

-- ---- what the Steps say of the report

module _ (L : Layout) where
  -- behind right Steps it is that of the rest
  went_right : (k m : ℕ) (b r : List ℕ) → k ≤ m → ((j : ℕ) → j < k → number_behind L j b r ≡ 0)
      → report_from L m 0 b r ≡ report_from L (m - k) k (block_after L k b r) (drop (step_size L * k) r)
  unfolding block_after
  went_right zero m b r h right =
      let e : m ≡ m - 0 = omega arith in
      λ i. report_from L (e i) 0 b (drop (sym (mul-zero (step_size L)) i) r)
  went_right (suc k) m b r h right =
      let up : k + 1 ≡ suc k = omega arith in
      let less : m - k - 1 ≡ m - suc k = omega arith in
      went_right k m b r (omega arith) (λ j l. right j (omega arith))
      ∙ from_right L (m - k) k (block_after L k b r) (drop (step_size L * k) r) (omega arith) (right k (omega arith))
      ∙ (λ i. report_from L (less i) (up i) (block_after L (suc k) b r)
      ((drop-drop (step_size L) (step_size L * k) r ∙ ap (λ (n : ℕ). drop n r) (sym (mul-suc (step_size L) k))) i))

  module _ (b r : List ℕ) (n : ℕ) (v : Run) (c : List ℕ) (went : Went L r n b v c) where
    -- a wrong one is told
    pub went_wrong : (v.fault ≡ 0 → ⊥)
        → record { number = v.fault; place = place_of L v.right; steps = v.right } ≡ report_from L n 0 b r
    went_wrong z =
        let w = went.wrong z in
        let k : ℕ = v.right in
        sym (went_right k n b r went.few went.right
        ∙ from_wrong L (n - k) k (block_after L k b r) (drop (step_size L * k) r) (omega (arith, w.0)) (λ e. z (w.1 ∙ e))
        ∙ (λ i. record { number = sym w.1 i; place = place_of L k; steps = k }))

    -- and where all are right, the End
    pub went_all : v.fault ≡ 0 → end_report n (place_of L v.right) (drop (step_size L * v.right) r) ≡ report_from L n 0 b r
    went_all z =
        let k : ℕ = v.right in
        let e : k ≡ n = (went.all z).0 in
        let none : n - k ≡ 0 = omega arith in
        sym (went_right k n b r went.few went.right
        ∙ ap (λ (m : ℕ). report_from L m k (block_after L k b r) (drop (step_size L * k) r)) none
        ∙ from_end L k (block_after L k b r) (drop (step_size L * k) r)
        ∙ ap (λ (m : ℕ). end_report m (place_of L k) (drop (step_size L * k) r)) e)

-- ---- slices

-- the rest of a slice, as the part from a place to its end
pub rest_is : (s : List ℕ) (at : ℕ) → take (length s - at) (drop at s) ≡ drop at s
rest_is s at = take_all (length s - at) (drop at s) (omega (arith, length-drop at s))

-- a copy over the whole of a buffer
pub copied : (src d d' : List ℕ) → length d ≡ length src → d' ≡ take (length src) src ++ drop (length src) d
    → d' ≡ src
copied src d d' h e =
    e
    ∙ ap (λ (l : List ℕ). l ++ drop (length src) d) (take-length src)
    ∙ ap (λ (l : List ℕ). src ++ l) (drop_of_length-le d {i = length src} (omega arith))
    ∙ append-nil src
