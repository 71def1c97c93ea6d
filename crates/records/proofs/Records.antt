-- A record is read back as it was written: its words stand at fixed places and spell what was put there, so a head is
-- right, a Step names its event and shows its answer and its block, and what stands behind a record is left as it was.
use mathlib.Core.Path.{◌≡◌, refl, sym, ap, ◌∙◌}
use mathlib.Core.List.{List, [], ◌∷◌, ◌++◌, append_assoc}
use Prim.Native.Nat.{ℕ, ◌+◌, ◌*◌, ◌<◌, ◌≤◌, ◌^◌}
use native.Mathlib.Omega.{arith}
use native.Mathlib.Nat.{mul-zero, mul-suc}
use lib.ListN.{length, take, drop, length-append, length-take, length-drop, take-append-drop}
use lib.Seq.{drop_at, take_at, drop-drop, take-append-add}
use Rattle.words.specs.Word.{le16, le32, half, spelt, Bytes}
use Rattle.words.proofs.Laws.{spells, spelt_fits}
use Rattle.words.proofs.Spell.{spells_half, spelt_split, half_split}
use Rattle.rules.specs.declared.event.Event.{Event}
use Rattle.rules.specs.declared.verdict.Answer.{Answer}
use Rattle.rules.specs.Run.{run_by}
use Rattle.records.specs.Layout.{Layout, Lawful, start_size, step_size, end_size, end_kind, place_of}
use Rattle.records.specs.Layout.{head_size, length_at, kind_at, count_at, start_block_at, code_at, a_at, b_at}
use Rattle.records.specs.Layout.{number_at, value_at, block_after_at}
use Rattle.records.specs.Published.{IsEvent, IsAnswer, head, start_record, end_record, step_showing, step_record, step_records}
use Rattle.records.specs.Published.{run, published}
use Rattle.records.specs.Report.{head_number, event_of}
use Rattle.records.proofs.Faults.{head_right}

-- a list of bytes whose head is right is that head, and the rest
pub head_is : (r : List ℕ) (len kind : ℕ) → Bytes r → head_size ≤ length r → half r length_at ≡ len → half r kind_at ≡ kind
    → r ≡ head len kind ++ drop head_size r
head_is r len kind by l p q =
    half_split r length_at by (omega arith)
    ∙ ap (λ (t : List ℕ). le16 (half r length_at) ++ t) (half_split r kind_at by (omega arith))
    ∙ (λ i. le16 (p i) ++ (le16 (q i) ++ drop head_size r))

-- the event and the answer that a Step names and shows are words
pub event_fits : (r : List ℕ) → Bytes r → IsEvent (event_of r)
event_fits r by = record { code = spelt_fits r code_at by; a = spelt_fits r a_at by; b = spelt_fits r b_at by }

abbrev pub answer_of : List ℕ → Answer
answer_of r = record { number = spelt r number_at; value = spelt r value_at }

pub answer_fits : (r : List ℕ) → Bytes r → IsAnswer (answer_of r)
answer_fits r by = record { number = spelt_fits r number_at by; value = spelt_fits r value_at by }

-- ---- End

pub length_end : (n : ℕ) → length (end_record n) ≡ end_size
unfolding end_record
length_end n = refl

module _ (n : ℕ) (t : List ℕ) where
  pub end_head : head_number end_size end_kind (end_record n ++ t) ≡ 0
  unfolding end_record half
  end_head = head_right end_size end_kind (end_record n ++ t) (omega arith) refl refl (omega arith)

  pub end_count : n < 2 ^ 32 → spelt (end_record n ++ t) count_at ≡ n
  unfolding end_record spelt
  end_count h = spells n h

module _ (L : Layout) (LL : Lawful L) where
  -- ---- Start

  pub length_start : (n : ℕ) (b : List ℕ) → length b ≡ L.size → length (start_record L n b) ≡ start_size L
  unfolding start_record
  length_start n b h = omega arith

  module _ (n : ℕ) (b t : List ℕ) (h : length b ≡ L.size) where
    start_long : start_size L ≤ length (start_record L n b ++ t)
    start_long = omega (arith, length-append (start_record L n b) t, length_start n b h)

    pub start_head : head_number (start_size L) L.start_kind (start_record L n b ++ t) ≡ 0
    unfolding start_record half
    start_head =
        head_right (start_size L) L.start_kind (start_record L n b ++ t) (omega (arith, start_long))
        (spells_half (start_size L) (omega (arith, LL.step_fits))) (spells_half L.start_kind LL.start_kind_fits)
        start_long

    pub start_count : n < 2 ^ 32 → spelt (start_record L n b ++ t) count_at ≡ n
    unfolding start_record spelt
    start_count l = spells n l

    pub start_block : take L.size (drop start_block_at (start_record L n b ++ t)) ≡ b
    unfolding start_record
    start_block = take_at b t L.size h

    pub start_rest : drop (start_size L) (start_record L n b ++ t) ≡ t
    start_rest = drop_at (start_record L n b) t (start_size L) (length_start n b h)

  -- ---- a Step that shows an answer and a block

  module _ (e : Event) (x : Answer) (c : List ℕ) (h : length c ≡ L.size) where
    pub length_step : length (step_showing L e x c) ≡ step_size L
    unfolding step_showing
    length_step = omega arith

    module _ (t : List ℕ) where
      step_long : step_size L ≤ length (step_showing L e x c ++ t)
      step_long = omega (arith, length-append (step_showing L e x c) t, length_step)

      pub step_head : head_number (step_size L) L.step_kind (step_showing L e x c ++ t) ≡ 0
      unfolding step_showing half
      step_head =
          head_right (step_size L) L.step_kind (step_showing L e x c ++ t) (omega (arith, step_long))
          (spells_half (step_size L) LL.step_fits) (spells_half L.step_kind LL.step_kind_fits) step_long

      pub step_event : IsEvent e → event_of (step_showing L e x c ++ t) ≡ e
      unfolding step_showing spelt
      step_event ok = λ i. record {
        code = spells e.code ok.code i;
        a = spells e.a ok.a i;
        b = spells
            e.b ok.b i;
      }

      pub step_whole : take (step_size L) (step_showing L e x c ++ t) ≡ step_showing L e x c
      step_whole = take_at (step_showing L e x c) t (step_size L) length_step

      pub step_rest : drop (step_size L) (step_showing L e x c ++ t) ≡ t
      step_rest = drop_at (step_showing L e x c) t (step_size L) length_step

  -- the answer and the block that a Step shows are read off it
  pub shown_answer : (e f : Event) (x y : Answer) (c d : List ℕ) → IsAnswer x → IsAnswer y
      → step_showing L e x c ≡ step_showing L f y d → x ≡ y
  unfolding step_showing spelt
  shown_answer e f x y c d ok fits q =
      let n = sym (spells x.number ok.number) ∙ ap (λ (l : List ℕ). spelt l number_at) q
      ∙ spells y.number fits.number in
      let v = sym (spells x.value ok.value) ∙ ap (λ (l : List ℕ). spelt l value_at) q
      ∙ spells y.value fits.value in
      λ i. record { number = n i; value = v i }

  pub shown_block : (e f : Event) (x y : Answer) (c d : List ℕ) → step_showing L e x c ≡ step_showing L f y d → c ≡ d
  unfolding step_showing
  shown_block e f x y c d q = ap (drop block_after_at) q

  -- a whole record under the head of a Step shows what stands at the places of a Step
  pub step_shows : (r : List ℕ) → Bytes r → head_number (step_size L) L.step_kind r ≡ 0
      → (head_size ≤ length r) × (half r length_at ≡ step_size L) × (half r kind_at ≡ L.step_kind) × (step_size L ≤ length r)
      → take (step_size L) r ≡ step_showing L (event_of r) (answer_of r) (take L.size (drop block_after_at r))
  unfolding step_showing
  step_shows r by z h =
      let e : Event = event_of r in
      let x : Answer = answer_of r in
      let c : List ℕ = take L.size (drop block_after_at r) in
      let l : length c ≡ L.size = omega (arith, length-take L.size (drop block_after_at r), length-drop block_after_at r) in
      let block : drop block_after_at r ≡ c ++ drop (step_size L) r = sym (take-append-drop L.size (drop block_after_at r))
      ∙ ap (λ (t : List ℕ). c ++ t) (drop-drop L.size block_after_at r) in
      let is : r ≡ step_showing L e x c ++ drop (step_size L) r =
      head_is r (step_size L) L.step_kind by h.0 h.1 h.2
      ∙ ap (λ (t : List ℕ). head (step_size L) L.step_kind ++ t)
      (spelt_split r code_at by (omega arith)
      ∙ ap (λ (t : List ℕ). le32 (spelt r code_at) ++ t)
      (spelt_split r a_at by (omega arith)
      ∙ ap (λ (t : List ℕ). le32 (spelt r a_at) ++ t)
      (spelt_split r b_at by (omega arith)
      ∙ ap (λ (t : List ℕ). le32 (spelt r b_at) ++ t)
      (spelt_split r number_at by (omega arith)
      ∙ ap (λ (t : List ℕ). le32 (spelt r number_at) ++ t)
      (spelt_split r value_at by (omega arith) ∙ ap (λ (t : List ℕ). le32 (spelt r value_at) ++ t) block))))) in
      ap (take (step_size L)) is ∙ take_at (step_showing L e x c) (drop (step_size L) r) (step_size L)
      (length_step e x c l)

  -- ---- lengths of a run of Steps and of a whole trace

  pub length_run : (es : List Event) (b : List ℕ) → length b ≡ L.size → length (run L b es) ≡ L.size
  unfolding run_by
  length_run [] b h = h
  length_run (e ∷ es) b h = length_run es (L.after b e) (LL.length_after b e h)

  pub bytes_run : (es : List Event) (b : List ℕ) → length b ≡ L.size → Bytes b → Bytes (run L b es)
  unfolding run_by
  bytes_run [] b h by = by
  bytes_run (e ∷ es) b h by = bytes_run es (L.after b e) (LL.length_after b e h) (LL.bytes_after b e h by)

  pub length_steps : (es : List Event) (b : List ℕ) → length b ≡ L.size
      → length (step_records L b es) ≡ step_size L * length es
  unfolding step_records
  length_steps [] b h = sym (mul-zero (step_size L))
  length_steps (e ∷ es) b h =
      let ih = length_steps es (L.after b e) (LL.length_after b e h) in
      let l = length_step e (L.answer b e) (L.after b e) (LL.length_after b e h) in
      omega (
        arith,
        mul-suc (step_size L) (length es),
        length-append (step_record L b e)
            (step_records L (L.after b e) es),
      )

  pub length_begun : (n : ℕ) (b : List ℕ) (es : List Event) → length b ≡ L.size
      → length (start_record L n b ++ step_records L b es) ≡ place_of L (length es)
  length_begun n b es h =
      length-append (start_record L n b) (step_records L b es) ∙ (λ i. length_start n b h i + length_steps es b h i)

  -- a cut j bytes behind a Start and these Steps cuts what stands behind them
  pub take_begun : (n : ℕ) (b : List ℕ) (es : List Event) (t : List ℕ) (j : ℕ) → length b ≡ L.size
      → take (place_of L (length es) + j) (start_record L n b ++ (step_records L b es ++ t))
      ≡ start_record L n b ++ (step_records L b es ++ take j t)
  take_begun n b es t j h =
      let p : List ℕ = start_record L n b ++ step_records L b es in
      (λ i. take (sym (length_begun n b es h) i + j)
      (sym (append_assoc (start_record L n b) (step_records L b es) t) i))
      ∙ take-append-add p t j
      ∙ append_assoc (start_record L n b) (step_records L b es) (take j t)

  -- Steps one after another
  pub steps_append : (es fs : List Event) (b : List ℕ)
      → step_records L b (es ++ fs) ≡ step_records L b es ++ step_records L (run L b es) fs
  unfolding step_records run_by
  steps_append [] fs b = refl
  steps_append (e ∷ es) fs b = simp (steps_append es fs (L.after b e), append_assoc)

  pub length-published : (b : List ℕ) (es : List Event) → length b ≡ L.size
      → length (published L b es) ≡ place_of L (length es) + end_size
  unfolding published
  length-published b es h =
      let begun = simp length-append at (length_begun (length es) b es h) in
      simp length-append (omega (arith, length_end (length es)))
