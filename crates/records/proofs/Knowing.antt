-- A fault is known with the very byte that document 02 names. Before a record is whole a session knows no fault but that of its
-- head, and that from the head's last byte on; a fault of the record itself with its last byte; and behind the End with the next.
use Rattle.std.specs.Prelude.{if◌then◌else◌}
use mathlib.Core.Path.{◌≡◌, refl, sym, ap, ◌∙◌, subst}
use mathlib.Core.Bool.{Bool, true, false}
use mathlib.Core.Logic.{◌⊎◌, inl, inr}
use mathlib.Core.List.{List, [], ◌++◌, append-nil}
use Prim.Native.Nat.{ℕ, zero, suc, ◌+◌, ◌-◌, ◌<◌, ◌≤◌}
use native.Mathlib.Omega.{arith}
use native.Mathlib.Nat.{mul-zero}
use lib.ListN.{length, take, drop, length-drop, take-append-drop}
use lib.Seq.{length-take-le, take-add, drop_at}
use lib.Dec.{eqb, leb, ltb}
use borrow.Author.Tests.{le-leb, lt-leb, ne_eqb, lt-ltb, le-ltb}
use Rattle.words.specs.Word.{half, spelt}
use Rattle.words.proofs.Spell.{half_front}
use Rattle.state.specs.Choice.{◌is◌}
use Rattle.records.specs.declared.report.Report.{Report}
use Rattle.records.specs.declared.session.Progress.{Progress}
use Rattle.records.specs.declared.session.Session.{Session}
use Rattle.records.specs.Layout.{Layout, Lawful, most_steps, place_of}
use Rattle.records.specs.Layout.{head_size, start_size, step_size, end_size, length_at, kind_at, count_at}
use Rattle.records.specs.Report.{unless, refused, head_number, step_number, end_number, end_report, report_from, report}
use Rattle.records.specs.Report.{event_of, ACCEPTED, SHORT, BAD_RECORD, BAD_COUNT, WRONG_STEP, TRAILING}
use Rattle.records.specs.Claims.{start_of}
use Rattle.records.specs.Session.{opened, due_size, due_kind, due_number, judged, grown, fed}
use Rattle.records.specs.Arrival.{known_with}
use Rattle.records.proofs.Faults.{below, refused_on, refused_at, head_short, head_cut, head_whole}
use Rattle.records.proofs.Judging.{start_whole}
use Rattle.records.proofs.Own.{bad_own}
use Rattle.records.proofs.Told.{end_whole}
use Rattle.records.proofs.Feeding.{due_step, due_end, due_fault, judged-faulty, judged_own}
use Rattle.records.proofs.Feeding.{few, other, part, lying, fed-faulty, fed_over}
use Rattle.records.proofs.Arriving.{Seen, too_few, another, begun, whole, seen, Own, right, bad_count, wrong_step, due_own}
use Rattle.records.proofs.Arriving.{Ready, between, past, between_ready, opened_ready, start_on, step_number_lem, step_on}
use Rattle.records.proofs.Arriving.{end_number_lem, end_on, next_place}

-- the first j bytes of r, and what of them lies behind the first n
take-drop : (n j : ℕ) (r : List ℕ) → n ≤ j → j ≤ length r → drop n (take j r) ≡ take (j - n) (drop n r)
take-drop n j r h k =
    let e : n + (j - n) ≡ j = omega arith in
    ap (λ (i : ℕ). drop n (take i r)) (sym e)
    ∙ ap (drop n) (take-add n (j - n) r)
    ∙ drop_at (take n r) (take (j - n) (drop n r)) n (length-take-le n r (omega arith))

module _ (L : Layout) where
  -- the size of the record that a report is about, n being what Start counts; and with how many bytes its fault is known
  abbrev size_by : ℕ → Report → ℕ
  size_by n v = if eqb v.place 0 then start_size L else if ltb v.steps n then step_size L else end_size

  abbrev known_by : ℕ → Report → ℕ
  known_by n v =
      if v.number is TRAILING then v.place + 1 else v.place + (if eqb v.number BAD_RECORD then head_size else size_by n v)

  -- of the bytes r, which come to s, the fault is known as v says
  abbrev pub Knows : (n : ℕ) → Session → List ℕ → Report → Type 0
  Knows n s r v =
      (j : ℕ) → j ≤ length r → (v.number ≡ ACCEPTED → ⊥) → (v.number ≡ SHORT → ⊥)
      → (fed L s (take j r)).progress.fault ≡ (if leb (known_by n v) (s.progress.place + j) then v.number else 0)

  module _ (n : ℕ) (s : Session) (at : Ready L s) (r : List ℕ) (v : Report) where
    abbrev p : Progress
    p = s.progress

    abbrev size : ℕ
    size = due_size L p

    abbrev kind : ℕ
    kind = due_kind L p

    abbrev number : ℕ
    number = due_number L p s.block r

    -- the report on this record with that number
    abbrev here : ℕ → Report
    here x = record { number = x; place = p.place; steps = p.steps }

    -- the first bytes of a record that is not whole show no fault, or that of the head
    held_none : (j : ℕ) → j ≤ length r → fed L s (take j r) ≡ grown L s (take j r) → (fed L s (take j r)).progress.fault ≡ 0
    held_none j h e = ap (λ (t : Session). t.progress.fault) e ∙ at.sound

    half-take : (j i : ℕ) → j ≤ length r → i + 2 ≤ j → half (take j r) i ≡ half r i
    half-take j i h k =
        sym (half_front (take j r) (drop j r) i (omega (arith, length-take-le j r h)))
        ∙ ap (λ (u : List ℕ). half u i) (take-append-drop j r)

    -- under a right head, before the last byte
    before_last : (j : ℕ) → j ≤ length r → half r length_at ≡ size → half r kind_at ≡ kind → j < size
        → (fed L s (take j r)).progress.fault ≡ 0
    before_last j h a b l = go (below j head_size)
      where
        long : length (take j r) ≡ j
        long = length-take-le j r h

        go : (j < head_size) ⊎ (head_size ≤ j) → (fed L s (take j r)).progress.fault ≡ 0
        go (inl k) = held_none j h (few L s at.takes at.none at.room (take j r) (omega (arith, long)))
        go (inr k) =
            held_none j h
            (part L s at.takes at.none at.room (take j r) (omega (arith, long))
            (half-take j length_at h (omega arith) ∙ a) (half-take j kind_at h (omega arith) ∙ b) (omega (arith, long)))

    -- what is known, and when, of a fault at this record
    knows_here : (x m j : ℕ) → (x ≡ TRAILING → ⊥) → (if eqb x BAD_RECORD then head_size else size_by n (here x)) ≡ m
        → (j < m → (fed L s (take j r)).progress.fault ≡ 0)
        → (m ≤ j → (fed L s (take j r)).progress.fault ≡ x)
        → (fed L s (take j r)).progress.fault ≡ (if leb (known_by n (here x)) (p.place + j) then x else 0)
    knows_here x m j t e before after = go (below j m)
      where
        moment : known_by n (here x) ≡ p.place + m
        moment = simp (ne_eqb x TRAILING t) (ap (λ (k : ℕ). p.place + k) e)

        go : (j < m) ⊎ (m ≤ j) → (fed L s (take j r)).progress.fault ≡ (if leb (known_by n (here x)) (p.place + j) then x else 0)
        go (inl l) =
            before l
            ∙ sym (ap (λ (b : Bool). if b then x else 0) (lt-leb (known_by n (here x)) (p.place + j) (omega (arith, moment))))
        go (inr l) =
            after l
            ∙ sym (ap (λ (b : Bool). if b then x else 0) (le-leb (known_by n (here x)) (p.place + j) (omega (arith, moment))))

    abbrev told : Report
    told = refused number p.place p.steps v

    knows_as : (w : Report) → told ≡ w → Knows n s r w → Knows n s r told
    knows_as w e k = subst (Knows n s r) (sym e) k

    told_here : (x : ℕ) → number ≡ x → (x ≡ 0 → ⊥) → told ≡ here x
    told_here x e z =
        refused_at number p.place p.steps v (λ y. z (sym e ∙ y))
        ∙ (λ i. record { number = e i; place = p.place; steps = p.steps })

    head_number_lem : (x : ℕ) → head_number size kind r ≡ x → (x ≡ 0 → ⊥) → number ≡ x
    head_number_lem x e z = due_fault L p s.block r (λ y. z (sym e ∙ y)) ∙ e

    -- a record that is not whole is short, and no fault is said to be known
    short_knows : head_number size kind r ≡ SHORT → Knows n s r told
    short_knows e j h nz n8 =
        absurd (n8 (ap (λ (w : Report). w.number) (told_here SHORT (head_number_lem SHORT e (λ z. omega arith)) (λ z. omega arith))))

    -- another record than the one due
    another_knows : head_size ≤ length r → head_number size kind r ≡ BAD_RECORD → Knows n s r told
    another_knows h e =
        knows_as (here BAD_RECORD) (told_here BAD_RECORD (head_number_lem BAD_RECORD e (λ z. omega arith)) (λ z. omega arith))
        (λ j k nz n8. knows_here BAD_RECORD head_size j (λ z. omega arith) refl (before j k) (after j k))
      where
        before : (j : ℕ) → j ≤ length r → j < head_size → (fed L s (take j r)).progress.fault ≡ 0
        before j k l =
            held_none j k (few L s at.takes at.none at.room (take j r) (omega (arith, length-take-le j r k)))

        after : (j : ℕ) → j ≤ length r → head_size ≤ j → (fed L s (take j r)).progress.fault ≡ BAD_RECORD
        after j k l =
            let long : length (take j r) ≡ j = length-take-le j r k in
            let e' : head_number size kind (take j r ++ drop j r) ≡ BAD_RECORD =
            ap (head_number size kind) (take-append-drop j r) ∙ e in
            let f : head_number size kind (take j r ++ []) ≡ BAD_RECORD =
            bad_own (take j r) [] size kind (drop j r) (omega (arith, long)) e' in
            ap (λ (t : Session). t.progress.fault)
            (other L s at.takes at.none at.room (take j r) (omega (arith, long))
            (ap (head_number size kind) (sym (append-nil (take j r))) ∙ f))

    -- a whole record: its first part is judged as it is
    judged-take : (j : ℕ) → j ≤ length r → size ≤ j → judged L s (take j r) ≡ judged L s r
    judged-take j h l =
        sym (judged_own L s (take j r) (drop j r) (omega (arith, length-take-le j r h)))
        ∙ ap (judged L s) (take-append-drop j r)

    lying_take : (j : ℕ) → j ≤ length r → size ≤ j
        → fed L s (take j r) ≡ fed L (judged L s r) (take (j - size) (drop size r))
    lying_take j h l =
        lying L s at.takes at.none at.room (take j r) (omega (arith, length-take-le j r h))
        ∙ (λ i. fed L (judged-take j h l i) (take-drop size j r l h i))

    module _ (z : head_number size kind r ≡ 0) where
      halves : (head_size ≤ length r) × (half r length_at ≡ size) × (half r kind_at ≡ kind) × (size ≤ length r)
      halves = head_whole size kind r z

      -- with a fault of its own
      own_knows : (x : ℕ) → number ≡ x → (x ≡ 0 → ⊥) → (x ≡ TRAILING → ⊥) → (x ≡ BAD_RECORD → ⊥) → size_by n (here x) ≡ size
          → Knows n s r told
      own_knows x e nz nt nb f =
          knows_as (here x) (told_here x e nz)
          (λ j h _ _. knows_here x size j nt (simp (ne_eqb x BAD_RECORD nb) f)
          (λ l. before_last j h halves.1 halves.2 l) (λ l. after j h l))
        where
          after : (j : ℕ) → j ≤ length r → size ≤ j → (fed L s (take j r)).progress.fault ≡ x
          after j h l =
              ap (λ (t : Session). t.progress.fault)
              (lying_take j h l
              ∙ ap (λ (t : Session). fed L t (take (j - size) (drop size r))) (judged-faulty L s r x e nz)
              ∙ fed-faulty L s x nz (take (j - size) (drop size r)))

      -- with none: the rest has it
      right_knows : number ≡ 0 → p.place + size ≤ known_by n v → (judged L s r).progress.place ≡ p.place + size
          → Knows n (judged L s r) (drop size r) v
          → Knows n s r told
      right_knows e far place rest =
          knows_as v (refused_on number p.place p.steps v e) (λ j h nz n8. go j h nz n8 (below j size))
        where
          go : (j : ℕ) → j ≤ length r → (v.number ≡ ACCEPTED → ⊥) → (v.number ≡ SHORT → ⊥) → (j < size) ⊎ (size ≤ j)
              → (fed L s (take j r)).progress.fault ≡ (if leb (known_by n v) (p.place + j) then v.number else 0)
          go j h nz n8 (inl l) =
              before_last j h halves.1 halves.2 l
              ∙ sym (ap (λ (b : Bool). if b then v.number else 0) (lt-leb (known_by n v) (p.place + j) (omega (arith, far))))
          go j h nz n8 (inr l) =
              let sum : (judged L s r).progress.place + (j - size) ≡ p.place + j = omega (arith, place) in
              ap (λ (t : Session). t.progress.fault) (lying_take j h l)
              ∙ rest (j - size) (omega (arith, length-drop size r)) nz n8
              ∙ ap (λ (m : ℕ). if leb (known_by n v) m then v.number else 0) sum

    pub record_knows : ((x : ℕ) → size_by n (here x) ≡ size)
        → (number ≡ 0 → (p.place + size ≤ known_by n v) × ((judged L s r).progress.place ≡ p.place + size)
        × Knows n (judged L s r) (drop size r) v)
        → Knows n s r told
    record_knows own rest = go (seen size kind r)
      where
        judged' : head_number size kind r ≡ 0 → (x : ℕ) → number ≡ x → Own x → Knows n s r told
        judged' z _ e right = let w = rest e in right_knows z e w.0 w.1 w.2
        judged' z _ e bad_count =
            own_knows z BAD_COUNT e (λ y. omega arith) (λ y. omega arith) (λ y. omega arith) (own BAD_COUNT)
        judged' z _ e wrong_step =
            own_knows z WRONG_STEP e (λ y. omega arith) (λ y. omega arith) (λ y. omega arith) (own WRONG_STEP)

        go : Seen size kind r → Knows n s r told
        go (too_few h) = short_knows (head_short size kind r h)
        go (another h e) = another_knows h e
        go (begun h a b l) = short_knows (head_cut size kind r h a b l)
        go (whole z) = judged' z number refl (due_own L p s.block r z)

-- ---- record after record

module _ (L : Layout) (LL : Lawful L) where
  -- a report is not about bytes before the record that it was asked of
  refused-place : (x place k q : ℕ) (v : Report) → q ≤ place → q ≤ v.place → q ≤ (refused x place k v).place
  refused-place zero place k q v h l = l
  refused-place (suc x) place k q v h l = h

  from_place : (m k : ℕ) (b r : List ℕ) → place_of L k ≤ (report_from L m k b r).place
  unfolding report_from end_report
  from_place zero k b r =
      refused-place (end_number k r) (place_of L k) k (place_of L k) _ (omega arith)
      (refused-place (unless (leb (length r) end_size) TRAILING) (place_of L k + end_size) k (place_of L k) _ (omega arith) (omega arith))
  from_place (suc m) k b r =
      let c : List ℕ = L.after b (event_of r) in
      refused-place (step_number L b r) (place_of L k) k (place_of L k) (report_from L m (k + 1) c (drop (step_size L) r)) (omega arith)
      (omega (arith, from_place m (k + 1) c (drop (step_size L) r), next_place L LL k))

  known_place : (n : ℕ) (v : Report) → v.place ≤ known_by L n v
  known_place n v = go (v.number is TRAILING)
    where
      go : (t : Bool)
          → v.place ≤ (if t then v.place + 1 else v.place + (if eqb v.number BAD_RECORD then head_size else size_by L n v))
      go true = omega arith
      go false = omega arith

  abbrev tail : (k place : ℕ) → List ℕ → Report
  tail k place r =
      refused (unless (leb (length r) end_size) TRAILING) (place + end_size) k
      (record { number = ACCEPTED; place = place + end_size; steps = k })

  tail_place : (k place : ℕ) (r : List ℕ) → place + end_size ≤ (tail k place r).place
  tail_place k place r =
      refused-place (unless (leb (length r) end_size) TRAILING) (place + end_size) k (place + end_size) _ (omega arith) (omega arith)

  -- behind the End the first byte is too many
  past_knows : (n k : ℕ) (b r : List ℕ) → end_size ≤ length r → Knows L n (past L LL n k b) (drop end_size r) (tail k (place_of L k) r)
  unfolding fed
  past_knows n k b r h = go (below end_size (length r))
    where
      over : Report
      over = record { number = TRAILING; place = place_of L k + end_size; steps = k }

      first : (j : ℕ) → j ≤ length (drop end_size r)
          → (fed L (past L LL n k b) (take j (drop end_size r))).progress.fault
          ≡ (if leb (place_of L k + end_size + 1) (place_of L k + end_size + j) then TRAILING else 0)
      first zero l =
          sym (ap (λ (t : Bool). if t then TRAILING else 0)
          (lt-leb (place_of L k + end_size + 1) (place_of L k + end_size + 0) (omega arith)))
      first (suc j) l =
          ap (λ (t : Session). t.progress.fault)
          (fed_over L (past L LL n k b) refl refl (take (suc j) (drop end_size r))
          (omega (arith, length-take-le (suc j) (drop end_size r) l)))
          ∙ sym (ap (λ (t : Bool). if t then TRAILING else 0)
          (le-leb (place_of L k + end_size + 1) (place_of L k + end_size + suc j) (omega arith)))

      go : (end_size < length r) ⊎ (length r ≤ end_size) → Knows L n (past L LL n k b) (drop end_size r) (tail k (place_of L k) r)
      go (inl l) =
          let e : tail k (place_of L k) r ≡ over = simp (lt-leb (length r) end_size l) in
          subst (Knows L n (past L LL n k b) (drop end_size r)) (sym e) (λ j h nz n8. first j h)
      go (inr l) =
          let e : (tail k (place_of L k) r).number ≡ ACCEPTED = simp (le-leb (length r) end_size l) in
          λ j h nz n8. absurd (nz e)

  from_knows : (m k n : ℕ) (b r : List ℕ) → n ≡ k + m → n ≤ most_steps → Knows L n (between L LL n k b) r (report_from L m k b r)
  unfolding report_from end_report
  from_knows zero k n b r e h =
      let l : n ≤ k = omega arith in
      let q = (between L LL n k b).progress in
      let place : ℕ = place_of L k in
      let number : due_number L q b r ≡ end_number k r = end_number_lem L LL n k b r h l in
      let size : due_size L q ≡ end_size = due_end q (start_size L) (step_size L) end_size LL.next_behind l in
      subst (λ (x : ℕ). Knows L n (between L LL n k b) r (refused x place k (tail k place r))) number
      (record_knows L n (between L LL n k b) (between_ready L LL n k b) r (tail k place r)
      (λ x. simp (ne_eqb place 0 (λ z. omega arith), ne_eqb L.next 0 LL.next_behind, le-ltb k n l))
      (λ z. let y : end_number k r ≡ 0 = sym number ∙ z in
      let on = end_on L LL n k b r h l (omega arith) y in (
        omega (arith, size, known_place n (tail k place r), tail_place k place r),
        ap (λ (t : Session). t.progress.place) on ∙ sym (ap (λ (x : ℕ). place + x) size),
        subst (λ (t : Session). Knows L n t (drop (due_size L q) r) (tail k place r)) (sym on)
            (subst (λ (x : ℕ). Knows L n (past L LL n k b) (drop x r) (tail k place r)) (sym size)
            (past_knows n k b r (end_whole L LL k r y))),
      )))
  from_knows (suc m) k n b r e h =
      let l : k < n = omega arith in
      let q = (between L LL n k b).progress in
      let place : ℕ = place_of L k in
      let number : due_number L q b r ≡ step_number L b r = step_number_lem L LL n k b r h l in
      let size : due_size L q ≡ step_size L = due_step q (start_size L) (step_size L) end_size LL.next_behind l in
      let c : List ℕ = L.after b (event_of r) in
      let rest : Report = report_from L m (k + 1) c (drop (step_size L) r) in
      subst (λ (x : ℕ). Knows L n (between L LL n k b) r (refused x place k rest)) number
      (record_knows L n (between L LL n k b) (between_ready L LL n k b) r rest
      (λ x. simp (ne_eqb place 0 (λ z. omega arith), ne_eqb L.next 0 LL.next_behind, lt-ltb k n l))
      (λ z. let on = step_on L LL n k b r h l (sym number ∙ z) in (
        omega (arith, size, known_place n rest, from_place m (k + 1) c (drop (step_size L) r), next_place L LL k),
        ap (λ (t : Session). t.progress.place) on ∙ next_place L LL k ∙ sym (ap (λ (x : ℕ). place + x) size),
        subst (λ (t : Session). Knows L n t (drop (due_size L q) r) rest) (sym on)
            (subst (λ (x : ℕ). Knows L n (between L LL n (k + 1) c) (drop x r) rest) (sym size)
            (from_knows m (k + 1) n c (drop (step_size L) r) (omega arith) h)),
      )))

  -- the whole string
  pub known_exactly : (s : List ℕ) (j : ℕ) → j ≤ length s → ((report L s).number ≡ ACCEPTED → ⊥) → ((report L s).number ≡ SHORT → ⊥)
      → (fed L (opened L) (take j s)).progress.fault ≡ (if leb (known_with L s (report L s)) j then (report L s).number else 0)
  unfolding report
  known_exactly s j h nz n8 =
      let n : ℕ = spelt s count_at in
      let b : List ℕ = start_of L s in
      let rest : Report = report_from L n 0 b (drop (start_size L) s) in
      let start : place_of L 0 ≡ 0 + start_size L = (let m = mul-zero (step_size L) in omega (arith, m)) in
      let sum : 0 + j ≡ j = omega arith in
      record_knows L n (opened L) (opened_ready L LL) s rest (λ x. refl)
      (λ z. let on = start_on L LL s z in (
        omega (arith, known_place n rest, from_place n 0 b (drop (start_size L) s), start),
        ap (λ (t : Session). t.progress.place) on ∙ start,
        subst (λ (t : Session). Knows L n t (drop (start_size L) s) rest) (sym on)
            (from_knows n 0 n b (drop (start_size L) s) (omega arith) (start_whole L s z).1),
      ))
      j h nz n8
      ∙ ap (λ (m : ℕ). if leb (known_with L s (report L s)) m then (report L s).number else 0) sum
