-- The statement allows one checker only. One that accepts all, or refuses all, or does not look at some Step, answers
-- wrongly on the empty string, on the shortest trace, or on a trace in which that Step was changed.
use mathlib.Core.Path.{◌≡◌, refl, sym, ap, ◌∙◌}
use mathlib.Core.Logic.{◌⊎◌, inl, inr}
use mathlib.Core.List.{List, [], ◌∷◌, ◌++◌, append_assoc}
use Prim.Native.Nat.{ℕ, zero, suc, ◌+◌, ◌-◌, ◌<◌, ◌≤◌, ◌^◌}
use native.Mathlib.Omega.{arith}
use native.Mathlib.Nat.{mul-suc}
use lib.ListN.{length, get_or, replicate, length-append, length-replicate, get_or-append}
use lib.Seq.{get_or-append-add}
use lib.Dec.{lit<}
use Rattle.words.specs.Word.{le16, le32, spelt, Bytes}
use Rattle.words.proofs.Spell.{bytes_none, bytes_append, bytes_half, bytes_word, bytes_zeros}
use Rattle.rules.specs.declared.event.Event.{Event}
use Rattle.rules.specs.declared.verdict.Answer.{Answer}
use Rattle.records.specs.declared.report.Report.{Report}
use Rattle.records.specs.Layout.{Layout, Lawful, head_size, start_size, step_size, end_size, end_kind, most_steps, place_of, count_at}
use Rattle.records.specs.Published.{IsEvent, IsAnswer, AreEvents, head, event_bytes, start_record}
use Rattle.rules.specs.Step.{answer_bytes}
use Rattle.records.specs.Published.{end_record, step_showing, step_record, step_records, run, published, Published}
use Rattle.records.specs.Report.{report, ACCEPTED, WRONG_STEP}
use Rattle.records.specs.Claims.{Meets, changed, ChangedAt, RefusesAll, AcceptsAll, ReadsStartAndEndOnly}
use Rattle.records.specs.Claims.{WalksTheOthers}
use Rattle.records.proofs.Records.{shown_answer, length_run, bytes_run, length_begun, length-published}
use Rattle.records.proofs.Accepts.{published_accepted}
use Rattle.records.proofs.Refusals.{accepts_exactly}
use Rattle.records.proofs.Faults.{below}
use Rattle.records.proofs.Changes.{unchanged, step_changed}
use Rattle.records.proofs.Determined.{count_read}

-- ---- what is published is bytes

bytes_head : (len kind : ℕ) → Bytes (head len kind)
bytes_head len kind = bytes_append (le16 len) (le16 kind) (bytes_half len) (bytes_half kind)

bytes_end : (n : ℕ) → Bytes (end_record n)
unfolding end_record
bytes_end n = bytes_append (head end_size end_kind) (le32 n) (bytes_head end_size end_kind) (bytes_word n)

-- ---- strings that differ at some places alone

-- what was changed at these places was changed at any places that hold them
changed_within : {P Q : ℕ → Type 0} {s t : List ℕ} → ((i : ℕ) → P i → Q i) → ChangedAt P s t → ChangedAt Q s t
changed_within more r = record { size = r.size; same = λ i n. r.same i (λ p. n (more i p)) }

-- other bytes between p and t, as many as before
module _ (p x y t : List ℕ) (l : length x ≡ length y) where
  changed_between : ChangedAt (λ i. (length p ≤ i) × (i < length p + length x)) (p ++ (x ++ t)) (p ++ (y ++ t))
  changed_between =
      record {
        size = simp length-append (omega arith);
        same = λ i n. go i n (below i (length p)) (below i (length p + length x));
      }
    where
      go : (i : ℕ) → ((length p ≤ i) × (i < length p + length x) → ⊥) → (i < length p) ⊎ (length p ≤ i)
          → (i < length p + length x) ⊎ (length p + length x ≤ i)
          → get_or (p ++ (x ++ t)) i 0 ≡ get_or (p ++ (y ++ t)) i 0
      go i n (inl a) b = get_or-append p (x ++ t) 0 i a ∙ sym (get_or-append p (y ++ t) 0 i a)
      go i n (inr a) (inl b) = absurd (n (a, b))
      go i n (inr a) (inr b) =
          let j : ℕ = i - (length p + length x) in
          let to-x : i ≡ length p + (length x + j) = omega arith in
          let to-y : i ≡ length p + (length y + j) = omega arith in
          ap (λ (k : ℕ). get_or (p ++ (x ++ t)) k 0) to-x
          ∙ get_or-append-add p (x ++ t) (length x + j) 0
          ∙ get_or-append-add x t j 0
          ∙ sym (get_or-append-add y t j 0)
          ∙ sym (get_or-append-add p (y ++ t) (length y + j) 0)
          ∙ ap (λ (k : ℕ). get_or (p ++ (y ++ t)) k 0) (sym to-y)

module _ (L : Layout) (LL : Lawful L) where
  bytes_start : (n : ℕ) (b : List ℕ) → Bytes b → Bytes (start_record L n b)
  unfolding start_record
  bytes_start n b h =
      bytes_append (head (start_size L) L.start_kind) (le32 n ++ b) (bytes_head (start_size L) L.start_kind)
      (bytes_append (le32 n) b (bytes_word n) h)

  bytes_step : (e : Event) (x : Answer) (c : List ℕ) → Bytes c → Bytes (step_showing L e x c)
  unfolding step_showing
  bytes_step e x c h =
      bytes_append (head (step_size L) L.step_kind) (event_bytes e ++ (answer_bytes x ++ c))
      (bytes_head (step_size L) L.step_kind)
      (bytes_append (event_bytes e) (answer_bytes x ++ c)
      (bytes_append (le32 e.code) (le32 e.a ++ le32 e.b) (bytes_word e.code)
      (bytes_append (le32 e.a) (le32 e.b) (bytes_word e.a) (bytes_word e.b)))
      (bytes_append (answer_bytes x) c
      (bytes_append (le32 x.number) (le32 x.value) (bytes_word x.number) (bytes_word x.value)) h))

  bytes_steps : (es : List Event) (b : List ℕ) → length b ≡ L.size → Bytes b → Bytes (step_records L b es)
  unfolding step_records
  bytes_steps [] b h by = bytes_none
  bytes_steps (e ∷ es) b h by =
      let k = LL.bytes_after b e h by in
      bytes_append (step_record L b e) (step_records L (L.after b e) es)
      (bytes_step e (L.answer b e) (L.after b e) k) (bytes_steps es (L.after b e) (LL.length_after b e h) k)

  pub bytes_published : (b : List ℕ) (es : List Event) → length b ≡ L.size → Bytes b → Bytes (published L b es)
  unfolding published
  bytes_published b es h by =
      bytes_append (start_record L (length es) b) _ (bytes_start (length es) b by)
      (bytes_append (step_records L b es) (end_record (length es)) (bytes_steps es b h by) (bytes_end (length es)))

  -- ---- one checker only

  pub meets_once : (f g : List ℕ → Report) → Meets L f → Meets L g → (s : List ℕ) → Bytes s → f s ≡ g s
  meets_once f g p q s by = p.reports s by ∙ sym (q.reports s by)

  -- and one there is
  pub meets_report : Meets L (report L)
  meets_report = record { reports = λ s by. refl; exact = accepts_exactly L LL }

  -- a block of zeros
  abbrev zeros : List ℕ
  zeros = replicate L.size 0

  zeros_size : length zeros ≡ L.size
  zeros_size = length-replicate L.size 0

  -- one that refuses all does not meet it
  pub not_refusing_all : (f : List ℕ → Report) → RefusesAll L f → Meets L f → ⊥
  not_refusing_all f h m =
      let s : List ℕ = published L zeros [] in
      let by : Bytes s = bytes_published zeros [] zeros_size (bytes_zeros L.size) in
      h s by
      (ap (λ (v : Report). v.number)
      (m.reports s by ∙ published_accepted L LL zeros [] zeros_size (omega arith) tt))

  -- one that accepts all does not meet it: no trace is empty
  pub not_accepting_all : (f : List ℕ → Report) → AcceptsAll L f → Meets L f → ⊥
  not_accepting_all f h m =
      let p : Published L [] = (m.exact [] bytes_none).0 (h [] bytes_none) in
      let e : length (published L p.start p.events) ≡ 0 = sym (ap length p.is) in
      omega (arith, length-published L LL p.start p.events p.size)

  -- ---- each Step is looked at

  bytes_changed : (b : List ℕ) (es : List Event) (e : Event) (x : Answer) (c : List ℕ) (fs : List Event)
      → length b ≡ L.size
      → Bytes b
      → Bytes c
      → Bytes (changed L b es e x c fs)
  unfolding changed
  bytes_changed b es e x c fs h by k =
      let n : ℕ = length es + suc (length fs) in
      let c' : List ℕ = run L b es in
      let d : List ℕ = L.after c' e in
      let size : length c' ≡ L.size = length_run L LL es b h in
      bytes_append (start_record L n b) _ (bytes_start n b by)
      (bytes_append (step_records L b es) _ (bytes_steps es b h by)
      (bytes_append (step_showing L e x c) _ (bytes_step e x c k)
      (bytes_append (step_records L d fs) (end_record n)
      (bytes_steps fs d (LL.length_after c' e size) (LL.bytes_after c' e size (bytes_run L LL es b h by)))
      (bytes_end n))))

  module _ (b : List ℕ) (es : List Event) (e : Event) (fs : List Event) (h : length b ≡ L.size) where
    -- one that is blind to a Step does not meet it, whichever Step it is: a published trace keeps its number where that
    -- Step shows anything but what the rules give
    module _ (by : Bytes b) (few : length (es ++ e ∷ fs) ≤ most_steps) (words : AreEvents (es ++ e ∷ fs)) where
      pub not_blind : (f : List ℕ → Report) (x : Answer) (c : List ℕ) → length c ≡ L.size → Bytes c
          → (step_showing L e x c ≡ step_record L (run L b es) e → ⊥)
          → (f (published L b (es ++ e ∷ fs))).number ≡ (f (changed L b es e x c fs)).number
          → Meets L f → ⊥
      not_blind f x c size bc n q m =
          let yes = m.reports (published L b (es ++ e ∷ fs)) (bytes_published b (es ++ e ∷ fs) h by)
          ∙ published_accepted L LL b (es ++ e ∷ fs) h few words in
          let no = m.reports (changed L b es e x c fs) (bytes_changed b es e x c fs h by bc)
          ∙ step_changed L LL b es e fs h few words x c size n in
          let number : Report → ℕ = λ v. v.number in
          let z : ◌≡◌ {A = ℕ} ACCEPTED WRONG_STEP = sym (ap number yes) ∙ q ∙ ap number no in
          omega arith

    -- what was changed lies in that Step's body
    changed_body : (x : Answer) (c : List ℕ) → length c ≡ L.size
        → ChangedAt (λ i. (place_of L (length es) + head_size ≤ i) × (i < place_of L (suc (length es))))
        (published L b (es ++ e ∷ fs)) (changed L b es e x c fs)
    unfolding changed step_showing
    changed_body x c size =
        let n : ℕ = length es + suc (length fs) in
        let d : List ℕ = run L b es in
        let body : Answer → List ℕ → List ℕ = λ x c. event_bytes e ++ (answer_bytes x ++ c) in
        let before : List ℕ = start_record L n b ++ (step_records L b es ++ head (step_size L) L.step_kind) in
        let behind : List ℕ = step_records L (L.after d e) fs ++ end_record n in
        let right : List ℕ = body (L.answer d e) (L.after d e) in
        let long : length before ≡ place_of L (length es) + head_size =
        simp length-append (omega (arith, simp length-append at (length_begun L LL n b es h))) in
        let size-right = LL.length_after d e (length_run L LL es b h) in
        let s : published L b (es ++ e ∷ fs) ≡ before ++ (right ++ behind) =
        sym (unchanged L LL b es e fs) ∙ sym (simp append_assoc) in
        let t : changed L b es e x c fs ≡ before ++ (body x c ++ behind) = sym (simp append_assoc) in
        rw (s, t)
        (changed_within (λ i p. (omega arith, omega (arith, mul-suc (step_size L) (length es))))
        (changed_between before right (body x c) behind (omega arith)))

  -- an event of zeros, and that it is one
  abbrev none : Event
  none = record { code = 0; a = 0; b = 0 }

  none_is : IsEvent none
  none_is = record { code = lit< tt; a = lit< tt; b = lit< tt }

  -- another number than this one
  abbrev other : ℕ → ℕ
  other zero = 1
  other (suc n) = 0

  other_fits : (n : ℕ) → other n < 2 ^ 32
  other_fits zero = lit< tt
  other_fits (suc n) = lit< tt

  other_differs : (n : ℕ) → other n ≡ n → ⊥
  other_differs zero e = omega arith
  other_differs (suc n) e = omega arith

  -- one that verifies the first Step and merely walks the others does not meet it: in a trace of two Steps the second
  -- was changed
  pub not_first_only : (f : List ℕ → Report) → WalksTheOthers L f → Meets L f → ⊥
  not_first_only f walks m =
      let first : List Event = none ∷ [] in
      let both : List Event = none ∷ none ∷ [] in
      let d : List ℕ = run L zeros first in
      let long : length d ≡ L.size = length_run L LL first zeros zeros_size in
      let by : Bytes d = bytes_run L LL first zeros zeros_size (bytes_zeros L.size) in
      let c : List ℕ = L.after d none in
      let bytes : Bytes c = LL.bytes_after d none long by in
      let size : length c ≡ L.size = LL.length_after d none long in
      let right : Answer = L.answer d none in
      let wrong : Answer = record { number = other right.number; value = right.value } in
      let right-fits : IsAnswer right =
      record { number = LL.number_fits d none long; value = LL.value_fits d none long by } in
      let wrong-fits : IsAnswer wrong =
      record { number = other_fits right.number; value = LL.value_fits d none long by } in
      let s : Published L (published L zeros both) =
      record {
        start = zeros;
        events = both;
        size = zeros_size;
        bytes = bytes_zeros L.size;
        few = omega arith;
        words = (none_is, (none_is, tt));
        is = refl;
      } in
      let two : spelt (published L zeros both) count_at ≡ 2 = count_read L LL (published L zeros both) s in
      not_blind zeros first none [] zeros_size s.bytes s.few s.words f wrong c size bytes
      (λ q. other_differs right.number
      (ap (λ (x : Answer). x.number) (shown_answer L LL none none wrong right c c wrong-fits right-fits q)))
      (walks _ _ s (bytes_changed zeros first none wrong c [] zeros_size s.bytes bytes)
      (changed_within
      (λ i p.
      record {
        at = record { step = 1; counted = omega arith; from = omega arith; to = p.1 };
        later = omega arith;
        body = p.0;
      })
      (changed_body zeros first none [] zeros_size wrong c size)))
      m

  -- nor does one that reads Start and End only, since it walks the others too
  pub not_ends_only : (f : List ℕ → Report) → ReadsStartAndEndOnly L f → Meets L f → ⊥
  not_ends_only f reads = not_first_only f (λ s t p by r. reads s t p by (changed_within (λ i w. w.at) r))
