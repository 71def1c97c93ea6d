-- Before a wrong Step stand a right Start and right Steps, and the last bytes of each are a block: so the bytes right
-- before the Step are the block that the events before it lead to.
use mathlib.Core.Path.{◌≡◌, refl, sym, ap, ◌∙◌}
use mathlib.Core.List.{List, [], ◌∷◌, ◌++◌, append_assoc, append-nil}
use Prim.Native.Nat.{ℕ, suc, ◌+◌, ◌-◌, ◌*◌, ◌≤◌}
use native.Mathlib.Omega.{arith}
use native.Mathlib.Nat.{mul-zero, mul-suc}
use lib.ListN.{length, take, drop, length-append}
use lib.Seq.{take_at, drop_at, drop-append-le}
use Rattle.words.specs.Word.{le32, Bytes}
use Rattle.rules.specs.declared.event.Event.{Event}
use Rattle.rules.specs.declared.verdict.Answer.{Answer}
use Rattle.rules.specs.Run.{run_by}
use Rattle.records.specs.declared.report.Report.{Report}
use Rattle.records.specs.Layout.{Layout, Lawful, start_size, step_size, place_of}
use Rattle.rules.specs.Step.{answer_bytes}
use Rattle.records.specs.Published.{head, event_bytes, start_record, step_showing, step_records, run}
use Rattle.records.specs.Report.{step_number, report, BAD_COUNT, WRONG_STEP}
use Rattle.records.specs.Claims.{start_of, events_from}
use Rattle.records.proofs.Determined.{events_back}
use Rattle.records.proofs.Outcomes.{Beginning}
use Rattle.records.proofs.Own.{Fault, cut, bad, own, start_fault, step_fault, end_fault}
use Rattle.records.proofs.Records.{length_run, length_begun, start_block, start_rest}
use Rattle.records.proofs.Told.{Told, Ending, start_told, step_told, end_told, end_faulty, trailing, accepted, told, length_is}
use Rattle.explain.specs.Explain.{block_before}

-- ---- where a wrong Step is

-- no other record than a Step has the number WRONG-STEP, and a Step that has it is whole
not_wrong : {len kind : ℕ} {r : List ℕ} {n : ℕ} → Fault len kind BAD_COUNT r n → n ≡ WRONG_STEP → ⊥
not_wrong (cut l) e = omega arith
not_wrong (bad l q) e = omega arith
not_wrong (own l) e = omega arith

wrong_whole : {len kind : ℕ} {r : List ℕ} {n : ℕ} → Fault len kind WRONG_STEP r n → n ≡ WRONG_STEP → len ≤ length r
wrong_whole (cut l) e = absurd (omega arith)
wrong_whole (bad l q) e = absurd (omega arith)
wrong_whole (own l) e = l

module _ (L : Layout) (LL : Lawful L) where
  -- the report is of a whole Step behind this beginning, which is not what the rules give
  pub record WrongAt (s : List ℕ) (v : Report) : Type 0 where
    pub begun : Beginning L LL s
    pub place : v.place ≡ place_of L (length begun.events)
    pub steps : v.steps ≡ length begun.events
    pub wrong : step_number L (run L begun.start begun.events) begun.rest ≡ WRONG_STEP
    pub whole : step_size L ≤ length begun.rest

  pub wrong_at : (s : List ℕ) → Bytes s → (report L s).number ≡ WRONG_STEP → WrongAt s (report L s)
  wrong_at s by = go (report L s) (told L LL s by)
    where
      at_end : (p : Beginning L LL s) → length p.events ≡ p.count → (v : Report)
          → Ending L LL (length p.events) (place_of L (length p.events)) p.rest v → v.number ≡ WRONG_STEP → WrongAt s v
      at_end p l _ (end_faulty n e z) q = absurd (not_wrong (end_fault (length p.events) p.rest n e z) q)
      at_end p l _ (trailing z m) q = absurd (omega arith)
      at_end p l _ (accepted z m) q = absurd (omega arith)

      go : (v : Report) → Told L LL s v → v.number ≡ WRONG_STEP → WrongAt s v
      go _ (start_told n e z) q = absurd (not_wrong (start_fault L s n e z) q)
      go _ (step_told p l n e z) q =
          record {
            begun = p;
            place = refl;
            steps = refl;
            wrong = sym e ∙ q;
            whole = wrong_whole (step_fault L (run L p.start p.events) p.rest n e z) q;
          }
      go v (end_told p l _ e) q = at_end p l v e q

  -- ---- the block before

  -- a string that ends with the block b, and behind it the Steps of es from b on, end with the block that es lead to
  last_block : (es : List Event) (h b : List ℕ) → length b ≡ L.size
      → drop (length h + step_size L * length es) (h ++ (b ++ step_records L b es)) ≡ run L b es
  unfolding step_records step_showing run_by
  last_block [] h b l =
      let n : length h ≡ length h + step_size L * 0 = omega (arith, mul-zero (step_size L)) in
      ap (λ (t : List ℕ). drop (length h + step_size L * 0) (h ++ t)) (append-nil b) ∙ drop_at h b _ n
  last_block (e ∷ es) h b l =
      let x : Answer = L.answer b e in
      let c : List ℕ = L.after b e in
      let p : List ℕ = head (step_size L) L.step_kind ++ (event_bytes e ++ answer_bytes x) in
      let t : List ℕ = c ++ step_records L c es in
      let n : length h + step_size L * suc (length es) ≡ length (h ++ (b ++ p)) + step_size L * length es =
      omega (arith, mul-suc (step_size L) (length es), length-append h (b ++ p), length-append b p) in
      (λ i. drop (n i) (h ++ sym (append_assoc b p t) i))
      ∙ ap (drop (length (h ++ (b ++ p)) + step_size L * length es)) (sym (append_assoc h (b ++ p) t))
      ∙ last_block es (h ++ (b ++ p)) c (LL.length_after b e l)

  module _ (s : List ℕ) (p : Beginning L LL s) where
    -- the bytes right before the place are the block after the last event
    block_last : take L.size (drop (place_of L (length p.events) - L.size) s) ≡ run L p.start p.events
    unfolding start_record
    block_last =
        let k : ℕ = length p.events in
        let b : List ℕ = p.start in
        let steps : List ℕ = step_records L b p.events in
        let h : List ℕ = head (start_size L) L.start_kind ++ le32 p.count in
        let n : place_of L k - L.size ≡ length h + step_size L * k = omega arith in
        let is : s ≡ (h ++ (b ++ steps)) ++ p.rest = p.is
        ∙ ap (λ (t : List ℕ). h ++ t) (sym (append_assoc b steps p.rest)) in
        let fits : length h + step_size L * k ≤ length (h ++ (b ++ steps)) =
        omega (arith, length_begun L LL p.count b p.events p.size) in
        (λ i. take L.size (drop (n i) (is i)))
        ∙ ap (take L.size) (drop-append-le (length h + step_size L * k) (h ++ (b ++ steps)) p.rest fits)
        ∙ ap (λ (l : List ℕ). take L.size (l ++ p.rest)) (last_block p.events h b p.size)
        ∙ take_at (run L b p.events) p.rest L.size (length_run L LL p.events b p.size)

    -- the start block and the events are those read off the string
    block_read : block_before L (length p.events) s ≡ run L p.start p.events
    block_read =
        let t : List ℕ = step_records L p.start p.events ++ p.rest in
        let start = ap (start_of L) p.is ∙ start_block L LL p.count p.start t p.size in
        let rest = ap (drop (start_size L)) p.is ∙ start_rest L LL p.count p.start t p.size in
        let events = ap (events_from L (length p.events)) rest
        ∙ events_back L LL p.events p.start p.rest p.size p.words in
        λ i. run L (start i) (events i)

    -- what stands from the place on
    rest_read : drop (place_of L (length p.events)) s ≡ p.rest
    rest_read =
        ap (drop (place_of L (length p.events)))
        (p.is ∙ sym (append_assoc (start_record L p.count p.start) (step_records L p.start p.events) p.rest))
        ∙ drop_at (start_record L p.count p.start ++ step_records L p.start p.events) p.rest
        (place_of L (length p.events)) (length_begun L LL p.count p.start p.events p.size)

  module _ (s : List ℕ) (v : Report) (w : WrongAt s v) where
    -- the block before a wrong Step, by the events and by the bytes right before it
    pub before_run : block_before L v.steps s ≡ run L w.begun.start w.begun.events
    before_run = ap (λ (k : ℕ). block_before L k s) w.steps ∙ block_read s w.begun

    pub before_last : take L.size (drop (v.place - L.size) s) ≡ block_before L v.steps s
    before_last =
        ap (λ (at : ℕ). take L.size (drop (at - L.size) s)) w.place ∙ block_last s w.begun ∙ sym before_run

    -- the Step itself
    pub wrong_rest : drop v.place s ≡ w.begun.rest
    wrong_rest = ap (λ (at : ℕ). drop at s) w.place ∙ rest_read s w.begun

    pub wrong_within : (start_size L ≤ v.place) × (v.place + step_size L ≤ length s)
    wrong_within =
        (omega (arith, w.place), omega (arith, w.place, w.whole, length_is L LL s w.begun))

    -- and it is wrong
    pub wrong_step : step_number L (block_before L v.steps s) (drop v.place s) ≡ WRONG_STEP
    wrong_step = (λ i. step_number L (before_run i) (wrong_rest i)) ∙ w.wrong
