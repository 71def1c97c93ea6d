-- A recording, Step by Step: what stands in the buffer is the trace as far as it has come. It ends in the block that the events so
-- far have left, which is the one that the next Step goes from.
use mathlib.Core.Path.{◌≡◌, sym, ap, ◌∙◌}
use mathlib.Core.List.{List, [], ◌∷◌, ◌++◌, append_assoc, append-nil}
use Prim.Native.Nat.{ℕ, suc, ◌+◌, ◌-◌, ◌*◌, ◌<◌, ◌≤◌}
use native.Mathlib.Omega.{arith}
use native.Mathlib.Nat.{mul-suc, mul-le-mul_left}
use native.Mathlib.Numerals.{add-one}
use lib.ListN.{length, get_or, take, drop, length-append}
use lib.Seq.{take-suc, take_all, take_at, drop_at, length-take-le}
use Rattle.words.specs.Word.{le32}
use Rattle.rules.specs.declared.event.Event.{Event}
use Rattle.rules.specs.Run.{run_by}
use Rattle.rules.specs.Step.{answer_bytes}
use Rattle.records.specs.Layout.{Layout, Lawful, start_size, step_size, end_size, place_of}
use Rattle.records.specs.Published.{head, event_bytes, start_record, step_showing, step_record, step_records, end_record, run, published}
use Rattle.records.proofs.Records.{length_start, length_end, length_step, length_run, length_begun, length-published, steps_append}
use Rattle.recorder.specs.Recorded.{DONE, written_at, block_before, record_number, Recorded}
use Rattle.recorder.proofs.Checks.{Passed, passed}
use Rattle.recorder.proofs.Writing.{length_written, written_on, written_again}

module _ (L : Layout) (LL : Lawful L) where
  -- a Start that counts n Steps, and the Steps of es
  abbrev pub begun : ℕ → List ℕ → List Event → List ℕ
  begun n b es = start_record L n b ++ step_records L b es

  -- ---- it ends in the block that the events leave

  record Ends (s c : List ℕ) : Type 0 where
    front : List ℕ
    parts : s ≡ front ++ c

  steps_end : (es : List Event) (p b : List ℕ) → Ends (p ++ b ++ step_records L b es) (run L b es)
  unfolding step_records run_by step_showing
  steps_end [] p b = record { front = p; parts = append-nil (p ++ b) }
  steps_end (e ∷ es) p b =
      let w = head (step_size L) L.step_kind ++ (event_bytes e ++ answer_bytes (L.answer b e)) in
      let c = L.after b e in
      let rest = step_records L c es in
      let later = steps_end es (p ++ b ++ w) c in
      record {
        front = later.front;
        parts = sym (append_assoc (p ++ b ++ w) c rest ∙ append_assoc (p ++ b) w (c ++ rest)) ∙ later.parts;
      }

  begun_ends : (n : ℕ) (b : List ℕ) (es : List Event) → Ends (begun n b es) (run L b es)
  unfolding start_record
  begun_ends n b es = steps_end es (head (start_size L) L.start_kind ++ le32 n) b

  -- ---- the events passed

  -- i events of es were recorded from the block b, into s₀ from the offset on, and s is the buffer
  pub record Reached (b : List ℕ) (es : List Event) (s₀ : List ℕ) (offset : ℕ) (s : List ℕ) (i : ℕ) : Type 0 where
    pub few : i ≤ length es
    pub stands : s ≡ written_at s₀ offset (begun (length es) b (take i es))

  module _ (b : List ℕ) (es : List Event) (s₀ : List ℕ) (offset : ℕ)
      (may : Passed L (length b) (length es) (length s₀) offset) where
    pub reached_none : (s : List ℕ) → s ≡ written_at s₀ offset (start_record L (length es) b)
        → Reached b es s₀ offset s 0
    unfolding step_records
    reached_none s e =
        record {
          few = omega arith;
          stands = e ∙ ap (written_at s₀ offset) (sym (append-nil (start_record L (length es) b)));
        }

    module _ (s : List ℕ) (i : ℕ) (h : Reached b es s₀ offset s i) where
      -- where the next record goes
      abbrev place : ℕ
      place = offset + place_of L i

      so_far : length (begun (length es) b (take i es)) ≡ place_of L i
      so_far = length_begun L LL (length es) b (take i es) may.size ∙ ap (place_of L) (length-take-le i es h.few)

      steps_so_far : step_size L * i ≤ step_size L * length es
      steps_so_far = mul-le-mul_left (step_size L) h.few

      -- the bytes before the place are the block that the events so far have left
      block_before_lem : block_before L place s ≡ run L b (take i es)
      block_before_lem =
          let ends = begun_ends (length es) b (take i es) in
          let c = run L b (take i es) in
          let all = begun (length es) b (take i es) in
          let rest = drop (offset + length all) s₀ in
          let long : length c ≡ L.size = length_run L LL (take i es) b may.size in
          let parted : s ≡ (take offset s₀ ++ ends.front) ++ (c ++ rest) =
          h.stands
          ∙ ap (λ (l : List ℕ). take offset s₀ ++ (l ++ rest)) ends.parts
          ∙ ap (λ (l : List ℕ). take offset s₀ ++ l) (append_assoc ends.front c rest)
          ∙ sym (append_assoc (take offset s₀) ends.front (c ++ rest)) in
          let first : length (take offset s₀) ≡ offset = length-take-le offset s₀ (omega (arith, may.inside)) in
          let front : length (take offset s₀ ++ ends.front) ≡ place - L.size =
          omega (
            arith,
            first,
            so_far,
            long,
            length-append (take offset s₀) ends.front,
            ap length ends.parts,
            length-append ends.front c,
          ) in
          ap (take L.size)
          (ap (drop (place - L.size)) parted ∙ drop_at (take offset s₀ ++ ends.front) (c ++ rest) (place - L.size) front)
          ∙ take_at c rest L.size long

      -- r was written at the place: it stands behind what was recorded so far
      behind : (r s' : List ℕ) → place + length r ≤ length s₀ → s' ≡ written_at s place r
          → s' ≡ written_at s₀ offset (begun (length es) b (take i es) ++ r)
      behind r s' room q =
          let all = begun (length es) b (take i es) in
          let to : place ≡ offset + length all = omega (arith, so_far) in
          q ∙ (λ j. written_at (h.stands j) (to j) r) ∙ written_on s₀ all r offset (omega (arith, room, to))

      module _ (d : Event) (less : i < length es) where
        room : place + step_size L ≤ length s₀
        room = omega (arith, may.inside, mul-suc (step_size L) i, mul-le-mul_left (step_size L) less)

        -- one Step more
        pub reached_next : (s' : List ℕ)
            → s' ≡ written_at s place (step_record L (block_before L place s) (get_or es i d))
            → Reached b es s₀ offset s' (i + 1)
        unfolding step_records
        reached_next s' q =
            let e = get_or es i d in
            let n = length es in
            let c = run L b (take i es) in
            let step = step_record L c e in
            let long : length step ≡ step_size L =
            length_step L LL e (L.answer c e) (L.after c e)
            (LL.length_after c e (length_run L LL (take i es) b may.size)) in
            let steps : step_records L b (take (suc i) es) ≡ step_records L b (take i es) ++ step =
            ap (step_records L b) (take-suc es i d less)
            ∙ steps_append L LL (take i es) (e ∷ []) b
            ∙ ap (λ (l : List ℕ). step_records L b (take i es) ++ l) (append-nil step) in
            let more : begun n b (take i es) ++ step ≡ begun n b (take (i + 1) es) =
            append_assoc (start_record L n b) (step_records L b (take i es)) step
            ∙ ap (λ (l : List ℕ). start_record L n b ++ l) (sym steps)
            ∙ ap (λ (k : ℕ). begun n b (take k es)) (sym (add-one i)) in
            record {
              few = omega (arith, less);
              stands = behind step s' (omega (arith, long, room))
                  (q ∙ ap (λ (k : List ℕ). written_at s place (step_record L k e)) block_before_lem)
                  ∙ ap (written_at s₀ offset) more;
            }

      -- all of them are: the End goes behind them
      module _ (last : length es ≤ i) where
        all_done : i ≡ length es
        all_done = omega (arith, last, h.few)

        end : place ≡ offset + place_of L (length es)
        end = ap (λ (k : ℕ). offset + place_of L k) all_done

        room_behind : place + end_size ≤ length s₀
        room_behind = omega (arith, end, may.inside)

        pub reached_all : (s' : List ℕ) → s' ≡ written_at s (offset + place_of L (length es)) (end_record (length es))
            → s' ≡ written_at s₀ offset (published L b es)
        unfolding published
        reached_all s' q =
            let n = length es in
            behind (end_record n) s' (omega (arith, length_end n, room_behind))
            (q ∙ ap (λ (k : ℕ). written_at s k (end_record n)) (sym end))
            ∙ ap (λ (fs : List Event). written_at s₀ offset (begun n b fs ++ end_record n)) (take_all i es last)
            ∙ ap (written_at s₀ offset) (append_assoc (start_record L n b) (step_records L b es) (end_record n))

  -- ---- the checks are passed, the Start has left s₁, and what was to be shown

  module _ (b : List ℕ) (es : List Event) (s₀ : List ℕ) (offset : ℕ) (s₁ : List ℕ)
      (done : DONE ≡ record_number L (length b) (length es) (length s₀) offset)
      (begun_there : s₁ ≡ written_at s₀ offset (start_record L (length es) b)) where
    abbrev start : List ℕ
    start = start_record L (length es) b

    may : Passed L (length b) (length es) (length s₀) offset
    may = passed L (length b) (length es) (length s₀) offset (sym done)

    long : length start ≡ start_size L
    long = length_start L LL (length es) b may.size

    as_long : length s₁ ≡ length s₀
    as_long =
        ap length begun_there
        ∙ length_written s₀ start offset (omega (arith, may.inside, long))

    -- What is written from here on goes over s₁, in which the Start stands already.
    pub may_go_on : Passed L (length b) (length es) (length s₁) offset
    may_go_on = record { size = may.size; few = may.few; inside = omega (arith, as_long, may.inside) }

    again : (r : List ℕ) → offset + (length start + length r) ≤ length s₀
        → written_at s₁ offset (start ++ r) ≡ written_at s₀ offset (start ++ r)
    again r h =
        ap (λ (s : List ℕ). written_at s offset (start ++ r)) begun_there ∙ written_again s₀ start r offset h

    pub begun_again : s₁ ≡ written_at s₁ offset start
    begun_again =
        let nothing = append-nil start in
        begun_there
        ∙ ap (written_at s₀ offset) (sym nothing)
        ∙ sym (again [] (omega (arith, may.inside, long)))
        ∙ ap (written_at s₁ offset) nothing

    pub recorded_all : (s' : List ℕ) → s' ≡ written_at s₁ offset (published L b es) → Recorded L b es s₀ offset DONE s'
    unfolding published
    recorded_all s' e =
        let rest = step_records L b es ++ end_record (length es) in
        let all : length (start ++ rest) ≡ place_of L (length es) + end_size = length-published L LL b es may.size in
        let room : offset + (length start + length rest) ≤ length s₀ =
        omega (arith, may.inside, all, length-append start rest) in
        record { number = done; buffer = e ∙ again rest room }
