-- What a report says of the bytes: where the record at which it was decided has a fault, that fault says which bytes are
-- there, and no published trace has them.
use Rattle.std.specs.Prelude.{if◌then◌else◌}
use mathlib.Core.Path.{◌≡◌, refl, sym, ap, ◌∙◌, subst}
use mathlib.Core.Bool.{false}
use mathlib.Core.Logic.{◌⊎◌, inl, inr, ⊎_elim, ◌↔◌}
use mathlib.Core.List.{List, ◌++◌, append_assoc, append-nil}
use Prim.Native.Nat.{ℕ, ◌+◌, ◌-◌, ◌<◌, ◌≤◌}
use native.Mathlib.Omega.{arith}
use lib.ListN.{length, take, drop, take-append-drop, drop_of_length-le}
use lib.Seq.{take_at, length-take-le}
use lib.Dec.{eqb, lit<}
use borrow.Author.Tests.{ne_eqb, lt-ltb, le-ltb}
use Rattle.words.specs.Word.{spelt, Bytes}
use Rattle.records.specs.declared.report.Report.{Report}
use Rattle.records.specs.Layout.{Layout, Lawful, head_size, start_size, step_size, end_size, end_kind, most_steps, place_of, count_at}
use Rattle.records.specs.Published.{start_record, step_records, published, Published}
use Rattle.records.specs.Report.{start_number, step_number, end_number, head_number, end_report, report_from, report}
use Rattle.records.specs.Report.{ACCEPTED, SHORT, BAD_RECORD, BAD_COUNT, WRONG_STEP, TRAILING}
use Rattle.records.specs.Claims.{Accepted, Begun, Trailed, Misjudged, Says, due_size}
use Rattle.records.proofs.Faults.{else_zero, refused_zero}
use Rattle.records.proofs.Records.{length-published, take_begun}
use Rattle.records.proofs.Judging.{from_step, from_end}
use Rattle.records.proofs.Accepts.{published_accepted, report_begun}
use Rattle.records.proofs.Outcomes.{Beginning, steps_of, due_at, block_of, counted}
use Rattle.records.proofs.Own.{Fault, cut, bad, own, start_fault, step_fault, end_fault, start_own, step_own, end_own, bad_own}
use Rattle.records.proofs.Told.{Told, Ending, start_told, step_told, end_told, end_faulty, trailing, accepted, told}
use Rattle.records.proofs.Told.{begins, length_is, far, published_before, publishes, end_whole}

-- ---- what a fault says of its record

-- 12 is no record's fault
never_more : {len kind f : ℕ} {r : List ℕ} {n : ℕ} → Fault len kind f r n → f < TRAILING → n ≡ TRAILING → ⊥
never_more (cut l) h e = omega arith
never_more (bad l q) h e = omega arith
never_more (own l) h e = omega arith

-- 8: the record is not whole
not_whole : {len kind f : ℕ} {r : List ℕ} {n : ℕ} → Fault len kind f r n → SHORT < f → n ≡ SHORT → length r < len
not_whole (cut l) h e = l
not_whole (bad l q) h e = absurd (omega arith)
not_whole (own l) h e = absurd (omega arith)

-- 9, or its own: what was judged, the head or the whole of it, is there
there : {len kind f : ℕ} {r : List ℕ} {n : ℕ} → Fault len kind f r n → eqb f BAD_RECORD ≡ false → SHORT < n
    → (if eqb n BAD_RECORD then head_size else len) ≤ length r
there (cut l) p h = absurd (omega arith)
there (bad l q) p h = l
there (own l) p h = rw p l

-- and with those bytes the record keeps a fault, whatever stands behind them: N is the record's number
module _ (len kind : ℕ) (N : List ℕ → ℕ) (r t : List ℕ) (heads : (q : List ℕ) → N q ≡ 0 → head_number len kind q ≡ 0)
    (same : (q u : List ℕ) → len ≤ length q → N (q ++ u) ≡ N q) where
  stays : {f n : ℕ} → Fault len kind f r n → eqb f BAD_RECORD ≡ false → SHORT < n → n ≡ N r → (n ≡ 0 → ⊥)
      → N (take (if eqb n BAD_RECORD then head_size else len) r ++ t) ≡ 0 → ⊥
  stays (cut l) p h e z y = omega arith
  stays (bad l q) p h e z y =
      let front = length-take-le head_size r l in
      let b = bad_own (take head_size r) t len kind (drop head_size r) (omega arith)
      (ap (head_number len kind) (take-append-drop head_size r) ∙ q) in
      let w = heads (take head_size r ++ t) y in
      omega arith
  stays (own l) p h e z y =
      let q : List ℕ = take len r in
      let long : len ≤ length q = omega (arith, length-take-le len r l) in
      z (e ∙ ap N (sym (take-append-drop len r)) ∙ same q (drop len r) long ∙ sym (same q t long) ∙ (rw p at y))

-- 9, 10 and 11 lie between 8 and 12
between : (v : Report) → Misjudged v → (SHORT < v.number) × (v.number < TRAILING)
between v (inl e) = (omega arith, omega arith)
between v (inr (inl e)) = (omega arith, omega arith)
between v (inr (inr e)) = (omega arith, omega arith)

module _ (L : Layout) (LL : Lawful L) where
  -- ---- a published trace that begins with the same records

  -- has the number 0
  pub published_number : (s : List ℕ) → Published L s → (report L s).number ≡ ACCEPTED
  published_number s p =
      ap (λ (l : List ℕ). (report L l).number) p.is
      ∙ ap (λ (v : Report). v.number) (published_accepted L LL p.start p.events p.size p.few p.words)

  -- so its Start is right
  start_published : (s : List ℕ) → Published L s → start_number L s ≡ 0
  unfolding report
  start_published s w = (refused_zero (start_number L s) 0 0 _ (published_number s w)).0

  -- and what stands behind the same records, n bytes of the rest and anything, is right there
  module _ (s : List ℕ) (p : Beginning L LL s) (n : ℕ) (t : List ℕ)
      (w : Published L (take (due_at L LL p + n) s ++ t)) where
    behind : take (due_at L LL p + n) s ++ t
        ≡ start_record L p.count p.start ++ (step_records L p.start p.events ++ (take n p.rest ++ t))
    behind =
        ap (λ (l : List ℕ). take (due_at L LL p + n) l ++ t) p.is
        ∙ ap (λ (l : List ℕ). l ++ t) (take_begun L LL p.count p.start p.events p.rest n p.size)
        ∙ simp append_assoc

    onward : (report_from L (p.count - steps_of L LL p) (steps_of L LL p) (block_of L LL p) (take n p.rest ++ t)).number
        ≡ ACCEPTED
    onward =
        ap (λ (v : Report). v.number)
        (sym (ap (report L) behind
        ∙ report_begun L LL p.count p.start p.events _ p.room p.few p.size p.words))
        ∙ published_number _ w

    step_published : steps_of L LL p < p.count → step_number L (block_of L LL p) (take n p.rest ++ t) ≡ 0
    step_published l =
        let e = from_step L (p.count - steps_of L LL p) (steps_of L LL p) (block_of L LL p) (take n p.rest ++ t)
        (omega arith) in
        (refused_zero _ (due_at L LL p) (steps_of L LL p) _ (sym (ap (λ (v : Report). v.number) e) ∙ onward)).0

    end_published : steps_of L LL p ≡ p.count → end_number (steps_of L LL p) (take n p.rest ++ t) ≡ 0
    unfolding end_report
    end_published l =
        let m : p.count - steps_of L LL p ≡ 0 = omega arith in
        let r : List ℕ = take n p.rest ++ t in
        let e = ap (λ (j : ℕ). report_from L j (steps_of L LL p) (block_of L LL p) r) m
        ∙ from_end L (steps_of L LL p) (block_of L LL p) r in
        (refused_zero _ (due_at L LL p) (steps_of L LL p) _ (sym (ap (λ (v : Report). v.number) e) ∙ onward)).0

  -- ---- the record due at a place, behind k right Steps

  record Due (s : List ℕ) (place k : ℕ) : Type 0 where
    -- its length, its kind and the fault of its own, the bytes from it on, and its number by such bytes
    len : ℕ
    kind : ℕ
    fault : ℕ
    rest : List ℕ
    number : List ℕ → ℕ
    -- its own fault lies between 8 and 12 and is not 9
    range : (SHORT < fault) × (fault < TRAILING) × (eqb fault BAD_RECORD ≡ false)
    all : length s ≡ place + length rest
    due : (n : ℕ) → due_size L s (record { number = n; place = place; steps = k }) ≡ len
    heads : (q : List ℕ) → number q ≡ 0 → head_number len kind q ≡ 0
    same : (q u : List ℕ) → len ≤ length q → number (q ++ u) ≡ number q
    published : (m : ℕ) (t : List ℕ) → Published L (take (place + m) s ++ t) → number (take m rest ++ t) ≡ 0
    zero_steps : place ≡ 0 → k ≡ 0
    begun : (place ≡ 0 → ⊥) → Begun L s place k
    fits : place ≤ place_of L most_steps + end_size

  -- which record is due: Start at 0, a Step while the Start counts more, then End
  start_due : (s : List ℕ) → Due s 0 0
  unfolding start_number
  start_due s =
      record {
        len = start_size L;
        kind = L.start_kind;
        fault = BAD_COUNT;
        rest = s;
        number = start_number L;
        range = (lit< tt, lit< tt, refl);
        all = omega arith;
        due = λ n. refl;
        heads = λ q y. (else_zero (head_number (start_size L) L.start_kind q) _ y).0;
        same = λ q u. start_own q u L;
        published = λ m t w.
            start_published (take m s ++ t)
            (let at : 0 + m ≡ m = omega arith in subst (λ (j : ℕ). Published L (take j s ++ t)) at w);
        zero_steps = λ z. refl;
        begun = λ z. absurd (z refl);
        fits = omega arith;
      }

  module _ (s : List ℕ) (p : Beginning L LL s) where
    step_due : steps_of L LL p < p.count → Due s (due_at L LL p) (steps_of L LL p)
    unfolding step_number
    step_due l =
        let c = counted L LL s p in
        let more : steps_of L LL p < spelt s count_at = omega arith in
        record {
          len = step_size L;
          kind = L.step_kind;
          fault = WRONG_STEP;
          rest = p.rest;
          number = step_number L (block_of L LL p);
          range = (lit< tt, lit< tt, refl);
          all = length_is L LL s p;
          due = λ n. simp (ne_eqb _ _ (far L LL s p).0, lt-ltb _ _ more);
          heads = λ q y. (else_zero (head_number (step_size L) L.step_kind q) _ y).0;
          same = λ q u. step_own q u L (block_of L LL p);
          published = λ m t w. step_published s p m t w l;
          zero_steps = λ z. absurd ((far L LL s p).0 z);
          begun = λ z. begins L LL s p;
          fits = omega (arith, (far L LL s p).1);
        }

    end_due : steps_of L LL p ≡ p.count → Due s (due_at L LL p) (steps_of L LL p)
    unfolding end_number
    end_due l =
        let c = counted L LL s p in
        let no_more : spelt s count_at ≤ steps_of L LL p = omega arith in
        record {
          len = end_size;
          kind = end_kind;
          fault = BAD_COUNT;
          rest = p.rest;
          number = end_number (steps_of L LL p);
          range = (lit< tt, lit< tt, refl);
          all = length_is L LL s p;
          due = λ n. simp (ne_eqb _ _ (far L LL s p).0, le-ltb _ _ no_more);
          heads = λ q y. (else_zero (head_number end_size end_kind q) _ y).0;
          same = λ q u. end_own q u (steps_of L LL p);
          published = λ m t w. end_published s p m t w l;
          zero_steps = λ z. absurd ((far L LL s p).0 z);
          begun = λ z. begins L LL s p;
          fits = omega (arith, (far L LL s p).1);
        }

  -- what is said where it has a fault
  faulty : (s : List ℕ) (place k : ℕ) (d : Due s place k) (n : ℕ) → n ≡ d.number d.rest → (n ≡ 0 → ⊥)
      → Fault d.len d.kind d.fault d.rest n
      → Says L s (record { number = n; place = place; steps = k })
  faulty s place k d n e z x =
      let v : Report = record { number = n; place = place; steps = k } in
      let judged : ℕ → ℕ = λ due. if eqb n BAD_RECORD then head_size else due in
      record {
        accepted_whole = λ q. absurd (z q);
        at_zero = d.zero_steps;
        begun_before = λ a t. d.begun;
        trailing_whole = λ q. absurd (never_more x d.range.1 q);
        short_not_whole = λ q. omega (arith, not_whole x d.range.0 q, d.all, d.due n);
        judged_within = λ h.
            let l : judged (due_size L s v) ≤ length d.rest =
            subst (λ (j : ℕ). judged j ≤ length d.rest) (sym (d.due n)) (there x d.range.2 (between v h).0) in
            omega (arith, d.all);
        no_trace_begins = λ h t w.
            stays d.len d.kind d.number d.rest t d.heads d.same x d.range.2 (between v h).0 e z
            (d.published (judged d.len) t
            (subst (λ (j : ℕ). Published L (take (place + judged j) s ++ t)) (d.due n) w));
        place_within = omega (arith, d.all);
        place_fits = d.fits;
      }

  -- ---- the theorems

  module _ (s : List ℕ) (by : Bytes s) where
    pub says : Says L s (report L s)
    unfolding start_due start_number step_due step_number end_due end_number publishes
    says = go (report L s) (told L LL s by)
      where
        -- behind a right End nothing but bytes can be wrong
        ended : (v : Report) (p : Beginning L LL s) → v.place ≡ due_at L LL p + end_size
            → (v.number ≡ ACCEPTED) ⊎ (v.number ≡ TRAILING) → end_size ≤ length p.rest
            → (v.number ≡ ACCEPTED → Accepted L s v)
            → (v.number ≡ TRAILING → Trailed L s v.place v.steps)
            → Says L s v
        ended v p at h room whole trailed =
            record {
              accepted_whole = whole;
              at_zero = λ q. absurd (omega arith);
              begun_before = λ a t q. absurd (⊎_elim a t h);
              trailing_whole = trailed;
              short_not_whole = λ q. absurd (⊎_elim (λ w. omega arith) (λ w. omega arith) h);
              judged_within = λ q. absurd (neither q);
              no_trace_begins = λ q t w. neither q;
              place_within = omega (arith, length_is L LL s p);
              place_fits = omega (arith, (far L LL s p).1);
            }
          where
            neither : Misjudged v → ⊥
            neither q = let b = between v q in ⊎_elim (λ w. omega arith) (λ w. omega arith) h

        -- how End is reported
        at_end : (p : Beginning L LL s) → steps_of L LL p ≡ p.count → (v : Report)
            → Ending L LL (steps_of L LL p) (due_at L LL p) p.rest v → Says L s v
        at_end p l _ (end_faulty n e z) =
            faulty s _ _ (end_due s p l) n e z (end_fault (steps_of L LL p) p.rest n e z)
        at_end p l _ (trailing z m) =
            ended _ p refl (inr refl) (omega arith) (λ q. absurd (omega arith))
            (λ q.
            record {
              whole = publishes L LL s p l _
                  (ap (take (due_at L LL p + end_size)) (published_before L LL s p l z)
                  ∙ take_at (published L p.start p.events) (drop end_size p.rest) (due_at L LL p + end_size)
                  (length-published L LL p.start p.events p.size));
              all = refl;
              more = omega (arith, length_is L LL s p);
            })
        at_end p l _ (accepted z m) =
            let is = published_before L LL s p l z
            ∙ ap (λ (t : List ℕ). published L p.start p.events ++ t)
            (drop_of_length-le p.rest {i = end_size} m)
            ∙ append-nil (published L p.start p.events) in
            ended _ p refl (inl refl) (end_whole L LL (steps_of L LL p) p.rest z)
            (λ q.
            record {
              whole = publishes L LL s p l s is;
              place = sym (ap length is ∙ length-published L LL p.start p.events p.size);
              steps = refl;
            })
            (λ q. absurd (omega arith))

        go : (v : Report) → Told L LL s v → Says L s v
        go _ (start_told n e z) = faulty s _ _ (start_due s) n e z (start_fault L s n e z)
        go _ (step_told p l n e z) =
            faulty s _ _ (step_due s p l) n e z (step_fault L (block_of L LL p) p.rest n e z)
        go v (end_told p l _ e) = at_end p l v e

    -- number 0 exactly when the string is a published trace and nothing more
    pub accepts_exactly : ((report L s).number ≡ ACCEPTED) ↔ Published L s
    accepts_exactly = ((λ z. (says.accepted_whole z).whole), (λ p. published_number s p))

    -- so a report that is the right one is exact
    pub exact : (v : Report) → v ≡ report L s → (v ≡ report L s) × ((v.number ≡ ACCEPTED) ↔ Published L s)
    exact v e =
        let n = ap (λ (w : Report). w.number) e in
        (e, ((λ z. accepts_exactly.0 (sym n ∙ z)), (λ p. n ∙ accepts_exactly.1 p)))
