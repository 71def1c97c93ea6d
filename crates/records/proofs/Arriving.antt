-- A session that was opened and fed a string closes with the string's report. Record by record: of one that is not whole the bytes
-- are held, and it closes short; another than the one due, or a wrong one, is its fault; behind a right one the next is due.
use Rattle.std.specs.Prelude.{if◌then◌else◌}
use mathlib.Core.Path.{◌≡◌, refl, sym, ap, ◌∙◌, subst}
use mathlib.Core.Bool.{Bool, true, false}
use mathlib.Core.Logic.{◌⊎◌, inl, inr}
use mathlib.Core.List.{List}
use Prim.Native.Nat.{ℕ, zero, suc, ◌+◌, ◌%◌, ◌<◌, ◌≤◌, ◌^◌}
use native.Mathlib.Omega.{arith}
use native.Mathlib.Nat.{mul-zero, mul-suc, mul-le-mul, mod-eq_of_lt}
use lib.ListN.{length, take, drop, length-drop, length-replicate, drop_of_length-le}
use lib.Dec.{eqb, leb, ltb}
use borrow.Author.Tests.{le-leb, lt-leb, ne_eqb, eqb-true, eqb-false}
use Rattle.words.specs.Word.{half, spelt}
use Rattle.state.specs.Choice.{◌is◌}
use Rattle.records.specs.declared.report.Report.{Report}
use Rattle.records.specs.declared.session.Progress.{Progress}
use Rattle.records.specs.declared.session.Session.{Session}
use Rattle.records.specs.Layout.{Layout, Lawful, head_size, start_size, step_size, end_size, end_kind, most_steps, place_of}
use Rattle.records.specs.Layout.{length_at, kind_at, count_at}
use Rattle.records.specs.Report.{unless, ◌else◌, refused, head_number, start_number, step_number, end_number, end_report, report_from}
use Rattle.records.specs.Published.{step_record}
use Rattle.records.specs.Report.{report, same_bytes, event_of, ACCEPTED, SHORT, BAD_RECORD, BAD_COUNT, WRONG_STEP, TRAILING}
use Rattle.records.specs.Claims.{start_of}
use Rattle.records.specs.Session.{AT_START, OVER, session, is_over, closing, close_number, due_size, due_kind}
use Rattle.records.specs.Session.{due_number, nothing_held, opened}
use Rattle.records.specs.Session.{faulty, judged, grown, fed}
use Rattle.records.specs.Fed.{Takes}
use Rattle.records.specs.Arrival.{known_number}
use Rattle.records.proofs.Faults.{zero_or_not, below, else_second, refused_on, refused_at, head_short, head_cut, head_right}
use Rattle.records.proofs.Faults.{head_bad, head_whole}
use Rattle.records.proofs.Judging.{start_whole}
use Rattle.records.proofs.Told.{end_whole}
use Rattle.records.proofs.Feeding.{due_step, due_end, due_least, due_fault, judged-faulty, judged_right}
use Rattle.records.proofs.Feeding.{few, other, part, lying, fed-faulty, fed_over}

-- ---- what can be seen of the record due

pub data Seen (len kind : ℕ) (r : List ℕ) : Type 0 where
  too_few : length r < head_size → Seen len kind r
  another : head_size ≤ length r → head_number len kind r ≡ BAD_RECORD → Seen len kind r
  begun : head_size ≤ length r → half r length_at ≡ len → half r kind_at ≡ kind → length r < len → Seen len kind r
  whole : head_number len kind r ≡ 0 → Seen len kind r

pub seen : (len kind : ℕ) (r : List ℕ) → Seen len kind r
seen len kind r =
    go (below (length r) head_size) (eqb (half r length_at) len) refl (eqb (half r kind_at) kind) refl (below (length r) len)
  where
    go : (length r < head_size) ⊎ (head_size ≤ length r) → (t : Bool) → eqb (half r length_at) len ≡ t → (u : Bool)
        → eqb (half r kind_at) kind ≡ u → (length r < len) ⊎ (len ≤ length r) → Seen len kind r
    go (inl h) t e u f l = too_few h
    go (inr h) false e u f l = another h (head_bad len kind r h (λ a _. eqb-false _ _ e a))
    go (inr h) true e false f l = another h (head_bad len kind r h (λ _. eqb-false _ _ f))
    go (inr h) true e true f (inl l) = begun h (eqb-true _ _ e) (eqb-true _ _ f) l
    go (inr h) true e true f (inr l) = whole (head_right len kind r h (eqb-true _ _ e) (eqb-true _ _ f) l)

-- under a right head a fault is the record's own
pub data Own : ℕ → Type 0 where
  right : Own ACCEPTED
  bad_count : Own BAD_COUNT
  wrong_step : Own WRONG_STEP

module _ (L : Layout) where
  pub due_own : (p : Progress) (b r : List ℕ) → head_number (due_size L p) (due_kind L p) r ≡ 0 → Own (due_number L p b r)
  unfolding start_number step_number end_number
  due_own p b r = go (p.stage is AT_START) (ltb p.steps p.count)
    where
      counted : (h m : ℕ) (t : Bool) → h ≡ 0 → m ≡ (h else unless t BAD_COUNT) → Own m
      counted h m true z e = rw (e ∙ else_second h (unless true BAD_COUNT) z) right
      counted h m false z e = rw (e ∙ else_second h (unless false BAD_COUNT) z) bad_count

      stepped : (h m : ℕ) (t : Bool) → h ≡ 0 → m ≡ (h else unless t WRONG_STEP) → Own m
      stepped h m true z e = rw (e ∙ else_second h (unless true WRONG_STEP) z) right
      stepped h m false z e = rw (e ∙ else_second h (unless false WRONG_STEP) z) wrong_step

      go : (t u : Bool)
          → head_number (if t then start_size L else if u then step_size L else end_size)
          (if t then L.start_kind else if u then L.step_kind else end_kind) r ≡ 0
          → Own (if t then start_number L r else if u then step_number L b r else end_number p.steps r)
      go true u z = counted (head_number (start_size L) L.start_kind r) (start_number L r) (leb (spelt r count_at) most_steps) z refl
      go false true z =
          stepped (head_number (step_size L) L.step_kind r) (step_number L b r)
          (same_bytes (take (step_size L) r) (step_record L b (event_of r))) z refl
      go false false z = counted (head_number end_size end_kind r) (end_number p.steps r) (eqb (spelt r count_at) p.steps) z refl

  -- ---- a session that closes with a report, and answers a feeding by its number

  pub record Ends (p : Progress) (v : Report) : Type 0 where
    pub closes : closing p ≡ v
    pub fault : p.fault ≡ known_number v.number
    pub still : p.closed ≡ 0

  -- a session in which no byte of the record due is held
  pub record Ready (s : Session) : Type 0 where
    pub takes : Takes L s.progress
    pub still : s.progress.closed ≡ 0
    pub sound : s.progress.fault ≡ 0
    pub none : s.progress.held ≡ 0
    pub room : step_size L ≤ length s.unfinished

  -- open, without a fault and not over, it closes short
  short : (p : Progress) → p.closed ≡ 0 → p.fault ≡ 0 → is_over p ≡ false
      → Ends p (record { number = SHORT; place = p.place; steps = p.steps })
  short p h z g =
      let e : close_number p ≡ SHORT = simp (z, g) in
      record { closes = λ i. record { number = e i; place = p.place; steps = p.steps }; fault = z; still = h }

  -- with a fault it closes with that
  faulted : (s : Session) (n : ℕ) → s.progress.closed ≡ 0 → (n ≡ 0 → ⊥) → (n ≡ SHORT → ⊥)
      → Ends (faulty L s n).progress (record { number = n; place = s.progress.place; steps = s.progress.steps })
  faulted s zero h z l = absurd (z refl)
  faulted s (suc n) h z l = record { closes = refl; fault = sym (simp (ne_eqb (suc n) SHORT l)); still = h }

  ends_by : (s t : Session) (v w : Report) → s ≡ t → w ≡ v → Ends t.progress v → Ends s.progress w
  ends_by s t v w e f x = subst (λ (u : Report). Ends s.progress u) (sym f) (subst (λ (u : Session). Ends u.progress v) (sym e) x)

  -- one record: what is said of it, or where nothing is, of the rest
  module _ (s : Session) (at : Ready s) (r : List ℕ) (v : Report) where
    abbrev p : Progress
    p = s.progress

    abbrev number : ℕ
    number = due_number L p s.block r

    abbrev told : Report
    told = refused number p.place p.steps v

    -- a fault of the head, or none of its own
    head_told : (n : ℕ) → head_number (due_size L p) (due_kind L p) r ≡ n → (n ≡ 0 → ⊥)
        → told ≡ record { number = n; place = p.place; steps = p.steps }
    head_told n e z =
        let f : number ≡ n = due_fault L p s.block r (λ y. z (sym e ∙ y)) ∙ e in
        refused_at number p.place p.steps v (λ y. z (sym f ∙ y))
        ∙ (λ i. record { number = f i; place = p.place; steps = p.steps })

    pub record_ends : (number ≡ 0 → Ends (fed L (judged L s r) (drop (due_size L p) r)).progress v)
        → Ends (fed L s r).progress told
    record_ends rest = go (seen (due_size L p) (due_kind L p) r)
      where
        size : ℕ
        size = due_size L p

        kind : ℕ
        kind = due_kind L p

        held' : fed L s r ≡ grown L s r → head_number size kind r ≡ SHORT → Ends (fed L s r).progress told
        held' e f =
            ends_by (fed L s r) (grown L s r) _ told e (head_told SHORT f (λ z. omega arith))
            (short (grown L s r).progress at.still at.sound at.takes.going)

        judged' : head_number size kind r ≡ 0 → (number ≡ 0) ⊎ (number ≡ 0 → ⊥) → Own number → Ends (fed L s r).progress told
        judged' z (inl y) own =
            ends_by (fed L s r) (fed L (judged L s r) (drop size r)) v told
            (lying L s at.takes at.none at.room r (head_whole size kind r z).3)
            (refused_on number p.place p.steps v y) (rest y)
        judged' z (inr y) own =
            ends_by (fed L s r) (faulty L s number) _ told
            (lying L s at.takes at.none at.room r (head_whole size kind r z).3
            ∙ ap (λ (t : Session). fed L t (drop size r)) (judged-faulty L s r number refl y)
            ∙ fed-faulty L s number y (drop size r))
            (refused_at number p.place p.steps v y)
            (faulted s number at.still y (not_short number own))
          where
            not_short : (n : ℕ) → Own n → n ≡ SHORT → ⊥
            not_short _ right e = omega arith
            not_short _ bad_count e = omega arith
            not_short _ wrong_step e = omega arith

        go : Seen size kind r → Ends (fed L s r).progress told
        go (too_few h) = held' (few L s at.takes at.none at.room r h) (head_short size kind r h)
        go (another h e) =
            ends_by (fed L s r) (faulty L s BAD_RECORD) _ told (other L s at.takes at.none at.room r h e)
            (head_told BAD_RECORD e (λ z. omega arith))
            (faulted s BAD_RECORD at.still (λ z. omega arith) (λ z. omega arith))
        go (begun h a b l) =
            held' (part L s at.takes at.none at.room r h a b l) (head_cut size kind r h a b l)
        go (whole z) = judged' z (zero_or_not number) (due_own p s.block r z)

-- ---- record after record

module _ (L : Layout) (LL : Lawful L) where
  -- the place behind at most 65,535 Steps, and the End behind it, is a word
  pub place_word : (k : ℕ) → k ≤ most_steps → place_of L k + end_size < 2 ^ 32
  place_word k h =
      let m = mul-le-mul {n₁ = step_size L} {m₁ = k} {n₂ = 65535} {m₂ = 65535} (omega (arith, LL.step_fits)) h in
      omega (arith, m, LL.step_fits)

  pub next_place : (k : ℕ) → place_of L (k + 1) ≡ place_of L k + step_size L
  next_place k =
      let e : k + 1 ≡ suc k = omega arith in
      ap (place_of L) e ∙ (let m = mul-suc (step_size L) k in omega (arith, m))

  -- k right Steps of n have come, up to the block b; and after all of them the End
  abbrev pub between : (n k : ℕ) → List ℕ → Session
  between n k b =
      session (record { stage = L.next; count = n; steps = k; place = place_of L k; held = 0; fault = 0; closed = 0 }) b
      (nothing_held L)

  abbrev pub past : (n k : ℕ) → List ℕ → Session
  past n k b =
      session (record { stage = OVER; count = n; steps = k; place = place_of L k + end_size; held = 0; fault = 0; closed = 0 }) b
      (nothing_held L)

  room : step_size L ≤ length (nothing_held L)
  room = omega (arith, length-replicate {A = ℕ} (step_size L) 0)

  pub between_ready : (n k : ℕ) (b : List ℕ) → Ready L (between n k b)
  between_ready n k b =
      let l = due_least L (between n k b).progress in
      record {
        takes = record { live = refl; going = lt-leb OVER L.next LL.next_going; room = omega (arith, l) };
        still = refl;
        sound = refl;
        none = refl;
        room = room;
      }

  pub opened_ready : Ready L (opened L)
  opened_ready =
      record {
        takes = record { live = refl; going = refl; room = omega arith };
        still = refl;
        sound = refl;
        none = refl;
        room = room;
      }

  -- a right Start, a right Step and a right End
  pub start_on : (s : List ℕ) → start_number L s ≡ 0 → judged L (opened L) s ≡ between (spelt s count_at) 0 (start_of L s)
  start_on s z =
      let place : (0 + start_size L) % 2 ^ 32 ≡ place_of L 0 =
      mod-eq_of_lt (omega (arith, LL.step_fits)) ∙ (let m = mul-zero (step_size L) in omega (arith, m)) in
      judged_right L (opened L) s z
      ∙ (λ i. session
      (record { stage = L.next; count = spelt s count_at; steps = 0; place = place i; held = 0; fault = 0; closed = 0 })
      (start_of L s) (nothing_held L))

  module _ (n k : ℕ) (b r : List ℕ) (few' : n ≤ most_steps) where
    not_start : L.next ≡ AT_START → ⊥
    not_start = LL.next_behind

    abbrev q : Progress
    q = (between n k b).progress

    pub step_number_lem : k < n → due_number L q b r ≡ step_number L b r
    step_number_lem l = due_step q (start_number L r) (step_number L b r) (end_number k r) not_start l

    pub step_on : k < n → step_number L b r ≡ 0 → judged L (between n k b) r ≡ between n (k + 1) (L.after b (event_of r))
    step_on l z =
        let size : due_size L q ≡ step_size L = due_step q (start_size L) (step_size L) end_size not_start l in
        let fits = place_word (k + 1) (omega (arith, few')) in
        let place : (place_of L k + due_size L q) % 2 ^ 32 ≡ place_of L (k + 1) =
        ap (λ (m : ℕ). (place_of L k + m) % 2 ^ 32) size
        ∙ mod-eq_of_lt (omega (arith, next_place k, fits))
        ∙ sym (next_place k) in
        judged_right L (between n k b) r (step_number_lem l ∙ z)
        ∙ (λ i. session
        (record {
          stage = due_step q L.next L.next OVER not_start l i;
          count = due_step q (spelt r count_at) n n not_start l i;
          steps = due_step q 0 (k + 1) k not_start l i;
          place = place i;
          held = 0;
          fault = 0;
          closed = 0;
        })
        (due_step q (start_of L r) (L.after b (event_of r)) b not_start l i) (nothing_held L))

    pub end_number_lem : n ≤ k → due_number L q b r ≡ end_number k r
    end_number_lem l = due_end q (start_number L r) (step_number L b r) (end_number k r) not_start l

    pub end_on : n ≤ k → k ≤ most_steps → end_number k r ≡ 0 → judged L (between n k b) r ≡ past n k b
    end_on l h z =
        let size : due_size L q ≡ end_size = due_end q (start_size L) (step_size L) end_size not_start l in
        let place : (place_of L k + due_size L q) % 2 ^ 32 ≡ place_of L k + end_size =
        ap (λ (m : ℕ). (place_of L k + m) % 2 ^ 32) size ∙ mod-eq_of_lt (place_word k h) in
        judged_right L (between n k b) r (end_number_lem l ∙ z)
        ∙ (λ i. session
        (record {
          stage = due_end q L.next L.next OVER not_start l i;
          count = due_end q (spelt r count_at) n n not_start l i;
          steps = due_end q 0 (k + 1) k not_start l i;
          place = place i;
          held = 0;
          fault = 0;
          closed = 0;
        })
        (due_end q (start_of L r) (L.after b (event_of r)) b not_start l i) (nothing_held L))

  -- ---- each report

  abbrev tail : (k place : ℕ) → List ℕ → Report
  tail k place r =
      refused (unless (leb (length r) end_size) TRAILING) (place + end_size) k
      (record { number = ACCEPTED; place = place + end_size; steps = k })

  -- behind the End nothing may come
  past_ends : (n k : ℕ) (b r : List ℕ) → end_size ≤ length r
      → Ends L (fed L (past n k b) (drop end_size r)).progress (tail k (place_of L k) r)
  unfolding fed
  past_ends n k b r h = go (below end_size (length r))
    where
      go : (end_size < length r) ⊎ (length r ≤ end_size)
          → Ends L (fed L (past n k b) (drop end_size r)).progress (tail k (place_of L k) r)
      go (inl l) =
          ends_by L (fed L (past n k b) (drop end_size r)) (faulty L (past n k b) TRAILING) _ (tail k (place_of L k) r)
          (fed_over L (past n k b) refl refl (drop end_size r) (omega (arith, length-drop end_size r)))
          (simp (lt-leb (length r) end_size l)) (faulted L (past n k b) TRAILING refl (λ z. omega arith) (λ z. omega arith))
      go (inr l) =
          ends_by L (fed L (past n k b) (drop end_size r)) (past n k b) _ (tail k (place_of L k) r)
          (ap (fed L (past n k b)) (drop_of_length-le r {i = end_size} l))
          (simp (le-leb (length r) end_size l)) (record { closes = refl; fault = refl; still = refl })

  from_ends : (m k n : ℕ) (b r : List ℕ) → n ≡ k + m → n ≤ most_steps
      → Ends L (fed L (between n k b) r).progress (report_from L m k b r)
  unfolding report_from end_report
  from_ends zero k n b r e h =
      let l : n ≤ k = omega arith in
      let number : due_number L (between n k b).progress b r ≡ end_number k r = end_number_lem n k b r h l in
      let q = (between n k b).progress in
      let size : due_size L q ≡ end_size = due_end q (start_size L) (step_size L) end_size (λ z. omega arith) l in
      subst (λ (x : ℕ). Ends L (fed L (between n k b) r).progress (refused x (place_of L k) k (tail k (place_of L k) r))) number
      (record_ends L (between n k b) (between_ready n k b) r (tail k (place_of L k) r)
      (λ z. let y : end_number k r ≡ 0 = sym number ∙ z in
      ends_by L _ (fed L (past n k b) (drop end_size r)) _ _
      (λ i. fed L (end_on n k b r h l (omega arith) y i) (drop (size i) r)) refl
      (past_ends n k b r (end_long k r y))))
    where
      end_long : (k : ℕ) (r : List ℕ) → end_number k r ≡ 0 → end_size ≤ length r
      end_long k r z = end_whole L LL k r z
  from_ends (suc m) k n b r e h =
      let l : k < n = omega arith in
      let q = (between n k b).progress in
      let number : due_number L q b r ≡ step_number L b r = step_number_lem n k b r h l in
      let size : due_size L q ≡ step_size L = due_step q (start_size L) (step_size L) end_size (λ z. omega arith) l in
      let c : List ℕ = L.after b (event_of r) in
      let rest : Report = report_from L m (k + 1) c (drop (step_size L) r) in
      subst (λ (x : ℕ). Ends L (fed L (between n k b) r).progress (refused x (place_of L k) k rest)) number
      (record_ends L (between n k b) (between_ready n k b) r rest
      (λ z. ends_by L _ (fed L (between n (k + 1) c) (drop (step_size L) r)) _ _
      (λ i. fed L (step_on n k b r h l (sym number ∙ z) i) (drop (size i) r)) refl
      (from_ends m (k + 1) n c (drop (step_size L) r) (omega arith) h)))

  -- the whole string
  pub ends : (s : List ℕ) → Ends L (fed L (opened L) s).progress (report L s)
  unfolding report
  ends s =
      let n : ℕ = spelt s count_at in
      let rest : Report = report_from L n 0 (start_of L s) (drop (start_size L) s) in
      record_ends L (opened L) opened_ready s rest
      (λ z. ends_by L _ (fed L (between n 0 (start_of L s)) (drop (start_size L) s)) _ _
      (λ i. fed L (start_on s z i) (drop (start_size L) s)) refl
      (from_ends n 0 n (start_of L s) (drop (start_size L) s) (omega arith) (start_whole L s z).1))
