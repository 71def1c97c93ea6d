-- Every report, by the record at which it was decided: a Start, a Step or an End with a fault, or a right End, behind which
-- bytes are left or not. Before that record stand a right Start and right Steps.
use mathlib.Core.Path.{◌≡◌, refl, sym, ap, ◌∙◌}
use mathlib.Core.Logic.{◌⊎◌, inl, inr}
use mathlib.Core.List.{List, ◌++◌, append_assoc}
use Prim.Native.Nat.{ℕ, ◌+◌, ◌<◌, ◌≤◌}
use native.Mathlib.Omega.{arith}
use native.Mathlib.Nat.{mul-le-mul_left}
use lib.ListN.{length, take, drop, length-append}
use lib.Seq.{take_at}
use Rattle.words.specs.Word.{Bytes}
use Rattle.records.specs.declared.report.Report.{Report}
use Rattle.records.specs.Layout.{Layout, Lawful, step_size, end_size, end_kind, most_steps, place_of}
use Rattle.records.specs.Published.{start_record, step_records, published, Published}
use Rattle.records.specs.Report.{start_number, step_number, end_number, head_number, end_report, report, ACCEPTED, TRAILING}
use Rattle.records.specs.Claims.{Begun}
use Rattle.records.proofs.Faults.{zero_or_not, below, else_zero, head_whole}
use Rattle.records.proofs.Records.{length_begun}
use Rattle.records.proofs.Judging.{end_wrong, end_more, end_right, start_wrong}
use Rattle.records.proofs.Accepts.{end_is}
use Rattle.records.proofs.Outcomes.{Beginning, steps_of, due_at, block_of, Outcome, at_start, at_step, at_end, outcome}
use Rattle.records.proofs.Outcomes.{report_at_step, report_at_end}

module _ (L : Layout) (LL : Lawful L) where
  -- ---- what stands before the place

  module _ (s : List ℕ) (p : Beginning L LL s) where
    -- the records up to the place, and the rest
    before : List ℕ
    before = start_record L p.count p.start ++ step_records L p.start p.events

    splits : s ≡ before ++ p.rest
    unfolding before
    splits = p.is ∙ sym (append_assoc (start_record L p.count p.start) (step_records L p.start p.events) _)

    length_before : length before ≡ due_at L LL p
    unfolding before
    length_before = length_begun L LL p.count p.start p.events p.size

    pub begins : Begun L s (due_at L LL p) (steps_of L LL p)
    unfolding before
    begins =
        record {
          start = p.start;
          events = p.events;
          count = p.count;
          size = p.size;
          bytes = p.bytes;
          few = p.few;
          room = p.room;
          words = p.words;
          all = refl;
          is = ap (take (due_at L LL p)) splits ∙ take_at before p.rest (due_at L LL p) length_before;
        }

    -- the length, by the place and what is left
    pub length_is : length s ≡ due_at L LL p + length p.rest
    length_is = ap length splits ∙ length-append before p.rest ∙ ap (λ (n : ℕ). n + length p.rest) length_before

    -- the place is not that of the Start, and no further than that of the last End
    pub far : (due_at L LL p ≡ 0 → ⊥) × (due_at L LL p ≤ place_of L most_steps)
    far =
        let few : steps_of L LL p ≤ most_steps = omega (arith, p.few, p.room) in
        ((λ z. omega arith), omega (arith, mul-le-mul_left {m = steps_of L LL p} {n = most_steps} (step_size L) few))

    -- a Start, its Steps and the End are the published trace of their block and events
    pub published_before : steps_of L LL p ≡ p.count → end_number (steps_of L LL p) p.rest ≡ 0
        → s ≡ published L p.start p.events ++ drop end_size p.rest
    unfolding published
    published_before e z =
        let n : ℕ = steps_of L LL p in
        p.is
        ∙ (λ i. start_record L (sym e i) p.start
        ++ (step_records L p.start p.events ++ end_is L LL n p.rest p.rest_bytes z i))
        ∙ simp append_assoc

    unfoldable pub publishes : steps_of L LL p ≡ p.count → (q : List ℕ) → q ≡ published L p.start p.events → Published L q
    publishes e q is =
        record {
          start = p.start;
          events = p.events;
          size = p.size;
          bytes = p.bytes;
          few = omega (arith, p.few);
          words = p.words;
          is = is;
        }

  -- ---- how End is reported

  pub data Ending (k place : ℕ) (r : List ℕ) : Report → Type 0 where
    end_faulty : (n : ℕ) → n ≡ end_number k r → (n ≡ 0 → ⊥)
        → Ending k place r (record { number = n; place = place; steps = k })
    trailing : end_number k r ≡ 0 → end_size < length r
        → Ending k place r (record { number = TRAILING; place = place + end_size; steps = k })
    accepted : end_number k r ≡ 0 → length r ≤ end_size
        → Ending k place r (record { number = ACCEPTED; place = place + end_size; steps = k })

  pub ending : (k place : ℕ) (r : List ℕ) → Ending k place r (end_report k place r)
  ending k place r = go (zero_or_not (end_number k r)) (below end_size (length r))
    where
      go : (end_number k r ≡ 0) ⊎ (end_number k r ≡ 0 → ⊥) → (end_size < length r) ⊎ (length r ≤ end_size)
          → Ending k place r (end_report k place r)
      go (inl z) (inr l) = rw (end_right L k place r z l) (accepted z l)
      go (inl z) (inl l) = rw (end_more L k place r z l) (trailing z l)
      go (inr z) l = rw (end_wrong L k place r z) (end_faulty (end_number k r) refl z)

  -- a right End is whole
  pub end_whole : (k : ℕ) (r : List ℕ) → end_number k r ≡ 0 → end_size ≤ length r
  unfolding end_number
  end_whole k r z = (head_whole end_size end_kind r (else_zero (head_number end_size end_kind r) _ z).0).3

  -- ---- every report, by the record at which it was decided

  pub data Told (s : List ℕ) : Report → Type 0 where
    start_told : (n : ℕ) → n ≡ start_number L s → (n ≡ 0 → ⊥) → Told s (record { number = n; place = 0; steps = 0 })
    step_told : (p : Beginning L LL s) → steps_of L LL p < p.count → (n : ℕ)
        → n ≡ step_number L (block_of L LL p) p.rest → (n ≡ 0 → ⊥)
        → Told s (record { number = n; place = due_at L LL p; steps = steps_of L LL p })
    end_told : (p : Beginning L LL s) → steps_of L LL p ≡ p.count → (v : Report)
        → Ending (steps_of L LL p) (due_at L LL p) p.rest v → Told s v

  pub told : (s : List ℕ) → Bytes s → Told s (report L s)
  told s by = go (outcome L LL s by)
    where
      go : Outcome L LL s → Told s (report L s)
      go (at_start z) = rw (start_wrong L s z) (start_told (start_number L s) refl z)
      go (at_step p l z) = rw (report_at_step L LL s p l z) (step_told p l _ refl z)
      go (at_end p e) =
          end_told p e (report L s)
          (rw (report_at_end L LL s p e) (ending (steps_of L LL p) (due_at L LL p) p.rest))
