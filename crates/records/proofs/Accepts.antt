-- The checker accepts the published traces and nothing else: a Step that the rules give is judged right and the judgement
-- goes on behind it, and a record that is judged right is one that the rules give.
use mathlib.Core.Path.{◌≡◌, refl, sym, ap, ◌∙◌}
use mathlib.Core.List.{List, [], ◌∷◌, ◌++◌, append_assoc, append-nil}
use Prim.Native.Nat.{ℕ, suc, ◌+◌, ◌-◌, ◌<◌, ◌≤◌, ◌^◌}
use native.Mathlib.Omega.{arith}
use lib.ListN.{length, take, drop, length-take, length-drop, take-append-drop}
use lib.Seq.{drop-drop}
use lib.Dec.{lit<}
use borrow.Author.Tests.{le-leb, eq-eqb, leb-true, eqb-true}
use Rattle.words.specs.Word.{le32, spelt, Bytes}
use Rattle.words.proofs.Spell.{spelt_split, bytes_drop, bytes_take}
use Rattle.rules.specs.declared.event.Event.{Event}
use Rattle.rules.specs.declared.verdict.Answer.{Answer}
use Rattle.rules.specs.Run.{run_by}
use Rattle.records.specs.Layout.{Layout, Lawful, start_size, step_size, end_size, end_kind, most_steps, place_of, count_at, start_block_at}
use Rattle.records.specs.Published.{IsEvent, AreEvents, head, start_record, end_record, step_showing, step_record, step_records}
use Rattle.records.specs.Published.{run, published}
use Rattle.records.specs.Report.{head_number, start_number, step_number, end_number, end_report, report_from, report, event_of}
use Rattle.records.specs.Report.{BAD_COUNT, WRONG_STEP}
use Rattle.records.proofs.Faults.{else_zero, unless_zero, same_yes, same_no, same_true, head_whole}
use Rattle.records.proofs.Records.{head_is, end_head, end_count, length_end, start_head, start_count, start_block}
use Rattle.records.proofs.Records.{start_rest, step_head, step_event, step_whole, step_rest, length-published}
use Rattle.records.proofs.Judging.{from_right, from_end, end_right, start_right}

module _ (L : Layout) (LL : Lawful L) where
  -- ---- what the rules give is judged right

  -- a Step that shows what the rules give is right, and one that shows anything else is wrong, whatever stands behind it
  module _ (b : List ℕ) (e : Event) (ok : IsEvent e) (x : Answer) (c t : List ℕ) (h : length c ≡ L.size) where
    named : take (step_size L) (step_showing L e x c ++ t) ≡ step_showing L e x c
    named = step_whole L LL e x c h t

    rules : step_record L b (event_of (step_showing L e x c ++ t)) ≡ step_record L b e
    rules = ap (step_record L b) (step_event L LL e x c h t ok)

    pub shown_right : step_showing L e x c ≡ step_record L b e → step_number L b (step_showing L e x c ++ t) ≡ 0
    unfolding step_number
    shown_right q = simp (step_head L LL e x c h t, same_yes _ _ (named ∙ q ∙ sym rules))

    pub shown_wrong : (step_showing L e x c ≡ step_record L b e → ⊥)
        → step_number L b (step_showing L e x c ++ t) ≡ WRONG_STEP
    unfolding step_number
    shown_wrong q = simp (step_head L LL e x c h t, same_no _ _ (λ w. q (sym named ∙ w ∙ rules)))

  -- the checker comes through the Steps of es, to whatever stands behind them
  pub from_run : (es : List Event) (n m k : ℕ) (b t : List ℕ) → n ≡ length es + m → length b ≡ L.size → AreEvents es
      → report_from L n k b (step_records L b es ++ t) ≡ report_from L m (k + length es) (run L b es) t
  unfolding run_by step_records
  from_run [] n m k b t q h ok =
      let e : n ≡ m = omega arith in
      let f : k ≡ k + 0 = omega arith in
      λ i. report_from L (e i) (f i) b t
  from_run (e ∷ es) n m k b t q h ok =
      let u : List ℕ = step_records L (L.after b e) es ++ t in
      let l = LL.length_after b e h in
      let pos : 0 < n = omega arith in
      let less : n - 1 ≡ length es + m = omega arith in
      let up : k + 1 + length es ≡ k + suc (length es) = omega arith in
      ap (report_from L n k b) (append_assoc (step_record L b e) (step_records L (L.after b e) es) t)
      ∙ from_right L n k b (step_record L b e ++ u) pos
      (shown_right b e ok.0 (L.answer b e) (L.after b e) u l refl)
      ∙ (λ i. report_from L (n - 1) (k + 1)
      (L.after b (step_event L LL e (L.answer b e) (L.after b e) l u ok.0 i))
      (step_rest L LL e (L.answer b e) (L.after b e) l u i))
      ∙ from_run es (n - 1) m (k + 1) (L.after b e) t less l ok.1
      ∙ ap (λ (j : ℕ). report_from L m j (run L (L.after b e) es) t) up

  -- a Start of at most 65,535 Steps is right
  pub from_start : (n : ℕ) (b t : List ℕ) → n ≤ most_steps → length b ≡ L.size
      → report L (start_record L n b ++ t) ≡ report_from L n 0 b t
  unfolding start_number
  from_start n b t few h =
      let s : List ℕ = start_record L n b ++ t in
      let count = start_count L LL n b t h (omega arith) in
      let z : start_number L s ≡ 0 = simp (start_head L LL n b t h, le-leb (spelt s count_at) most_steps (omega arith)) in
      start_right L s z ∙ (λ i. report_from L (count i) 0 (start_block L LL n b t h i) (start_rest L LL n b t h i))

  -- both at once: after a Start and these Steps the judgement goes on with what stands behind them
  pub report_begun : (n : ℕ) (b : List ℕ) (es : List Event) (t : List ℕ) → length es ≤ n → n ≤ most_steps
      → length b ≡ L.size
      → AreEvents es
      → report L (start_record L n b ++ (step_records L b es ++ t))
      ≡ report_from L (n - length es) (length es) (run L b es) t
  report_begun n b es t l few h ok =
      let m : n ≡ length es + (n - length es) = omega arith in
      let k : 0 + length es ≡ length es = omega arith in
      from_start n b (step_records L b es ++ t) few h
      ∙ from_run es n (n - length es) 0 b t m h ok
      ∙ ap (λ (j : ℕ). report_from L (n - length es) j (run L b es) t) k

  -- after all of them, End
  pub report_ending : (b : List ℕ) (es : List Event) (t : List ℕ) → length es ≤ most_steps → length b ≡ L.size
      → AreEvents es
      → report L (start_record L (length es) b ++ (step_records L b es ++ t))
      ≡ end_report (length es) (place_of L (length es)) t
  report_ending b es t few h ok =
      let m : length es - length es ≡ 0 = omega arith in
      report_begun (length es) b es t (omega arith) few h ok
      ∙ ap (λ (j : ℕ). report_from L j (length es) (run L b es) t) m
      ∙ from_end L (length es) (run L b es) t

  pub end_number_lem : (n : ℕ) (t : List ℕ) → n < 2 ^ 32 → end_number n (end_record n ++ t) ≡ 0
  unfolding end_number
  end_number_lem n t h = simp (end_head n t, eq-eqb _ _ (end_count n t h))

  -- every published trace is accepted, at its length, with all its Steps
  pub published_accepted : (b : List ℕ) (es : List Event) → length b ≡ L.size → length es ≤ most_steps → AreEvents es
      → report L (published L b es) ≡ record { number = 0; place = length (published L b es); steps = length es }
  unfolding published
  published_accepted b es h few ok =
      let n : ℕ = length es in
      let z : end_number n (end_record n) ≡ 0 = ap (end_number n) (sym (append-nil (end_record n)))
      ∙ end_number_lem n [] (omega arith) in
      report_ending b es (end_record n) few h ok
      ∙ end_right L n (place_of L n) (end_record n) z (omega (arith, length_end n))
      ∙ (λ i. record { number = 0; place = sym (length-published L LL b es h) i; steps = n })

  -- ---- what is judged right is what the rules give

  -- a right Step is the one that the rules give, and the rest
  pub step_is : (b r : List ℕ) → step_number L b r ≡ 0 → r ≡ step_record L b (event_of r) ++ drop (step_size L) r
  unfolding step_number
  step_is b r z =
      let q = else_zero (head_number (step_size L) L.step_kind r) _ z in
      let same = same_true (take (step_size L) r) (step_record L b (event_of r)) (unless_zero _ WRONG_STEP (lit< tt) q.1) in
      sym (take-append-drop (step_size L) r) ∙ ap (λ (l : List ℕ). l ++ drop (step_size L) r) same

  -- a right End is the End of these Steps, and the rest
  pub end_is : (k : ℕ) (r : List ℕ) → Bytes r → end_number k r ≡ 0 → r ≡ end_record k ++ drop end_size r
  unfolding end_number end_record
  end_is k r by z =
      let q = else_zero (head_number end_size end_kind r) _ z in
      let h = head_whole end_size end_kind r q.0 in
      let count : spelt r count_at ≡ k = eqb-true _ _ (unless_zero _ BAD_COUNT (lit< tt) q.1) in
      head_is r end_size end_kind by h.0 h.1 h.2
      ∙ ap (λ (t : List ℕ). head end_size end_kind ++ t)
      (spelt_split r count_at by h.3 ∙ (λ i. le32 (count i) ++ drop end_size r))

  -- a right Start is the Start of some block and at most 65,535 Steps, and the rest
  pub record Started (s : List ℕ) : Type 0 where
    pub count : ℕ
    pub block : List ℕ
    pub rest : List ℕ
    pub few : count ≤ most_steps
    pub size : length block ≡ L.size
    pub bytes : Bytes block
    pub rest_bytes : Bytes rest
    pub is : s ≡ start_record L count block ++ rest

  pub start_is : (s : List ℕ) → Bytes s → start_number L s ≡ 0 → Started s
  unfolding start_number start_record
  start_is s by z =
      let q = else_zero (head_number (start_size L) L.start_kind s) _ z in
      let h = head_whole (start_size L) L.start_kind s q.0 in
      let b : List ℕ = take L.size (drop start_block_at s) in
      let block : drop start_block_at s ≡ b ++ drop (start_size L) s =
      sym (take-append-drop L.size (drop start_block_at s)) ∙ ap (λ (t : List ℕ). b ++ t) (drop-drop L.size start_block_at s) in
      record {
        count = spelt s count_at;
        block = b;
        rest = drop (start_size L) s;
        few = leb-true _ _ (unless_zero _ BAD_COUNT (lit< tt) q.1);
        size = omega (arith, length-take L.size (drop start_block_at s), length-drop start_block_at s, h.3);
        bytes = bytes_take L.size (drop start_block_at s) (bytes_drop start_block_at s by);
        rest_bytes = bytes_drop (start_size L) s by;
        is = head_is s (start_size L) L.start_kind by h.0 h.1 h.2
            ∙ ap (λ (t : List ℕ). head (start_size L) L.start_kind ++ t)
            (spelt_split s count_at by (omega (arith, h.3)) ∙ ap (λ (t : List ℕ). le32 (spelt s count_at) ++ t) block);
      }
