-- What is proved of a recording: its contract, put beside what trace proves of published traces.
use mathlib.Core.Path.{◌≡◌, refl, sym, ap, ◌∙◌}
use mathlib.Core.Logic.{◌⊎◌, inl, inr}
use mathlib.Core.Bool.{Bool, true, false}
use mathlib.Core.List.{List, ◌++◌}
use Prim.Native.Nat.{ℕ, ◌+◌, ◌-◌, ◌<◌, ◌≤◌}
use native.Mathlib.Omega.{arith}
use lib.ListN.{length, take, drop}
use lib.Seq.{take_at, drop_at, drop-drop, length-take-le}
use lib.Dec.{leb, eqb}
use borrow.Author.Tests.{eqb-true, eqb-false, leb-true, leb-false, eq-eqb, ne_eqb}
use Rattle.rules.specs.declared.event.Event.{Event}
use Rattle.records.specs.Layout.{Layout, Lawful, new_layout, most_steps}
use Rattle.records.specs.Published.{published}
use Rattle.records.specs.Report.{ACCEPTED, report}
use Rattle.records.proofs.Records.{length-published}
use Rattle.records.proofs.Lawfuls.{lawful_new}
use Rattle.records.proofs.Theorems as trace
use Rattle.recorder.specs.Recorded.{DONE, BAD_SIZE, BAD_COUNT, NO_ROOM, written_at, trace_size, record_number, Recorded}
use Rattle.recorder.specs.Theorems.{OfRecording, RecorderTheorems}
use Rattle.recorder.proofs.Checks.{bad_size, bad_count, past_the_end, no_room, room, Passed, passed}
use Rattle.recorder.proofs.Writing.{length_written}

module _ (L : Layout) (LL : Lawful L) where
  -- ---- the ways that the checks go

  data Way (block events buffer offset : ℕ) : Type 0 where
    size_wrong : (block ≡ L.size → ⊥) → Way block events buffer offset
    too_many : block ≡ L.size → most_steps < events → Way block events buffer offset
    past : block ≡ L.size → events ≤ most_steps → buffer < offset → Way block events buffer offset
    tight : block ≡ L.size → events ≤ most_steps → offset ≤ buffer → buffer - offset < trace_size L events
        → Way block events buffer offset
    free : block ≡ L.size → events ≤ most_steps → offset ≤ buffer → trace_size L events ≤ buffer - offset
        → Way block events buffer offset

  module _ (block events buffer offset : ℕ) where
    way : Way block events buffer offset
    way = by_size (eqb block L.size) refl
      where
        by_room : block ≡ L.size → events ≤ most_steps → offset ≤ buffer → (t : Bool)
            → leb (trace_size L events) (buffer - offset) ≡ t
            → Way block events buffer offset
        by_room z few i true e = free z few i (leb-true _ _ e)
        by_room z few i false e = tight z few i (leb-false _ _ e)

        by_end : block ≡ L.size → events ≤ most_steps → (t : Bool) → leb offset buffer ≡ t → Way block events buffer offset
        by_end z few true e = by_room z few (leb-true _ _ e) (leb (trace_size L events) (buffer - offset)) refl
        by_end z few false e = past z few (leb-false _ _ e)

        by_count : block ≡ L.size → (t : Bool) → leb events most_steps ≡ t → Way block events buffer offset
        by_count z true e = by_end z (leb-true _ _ e) (leb offset buffer) refl
        by_count z false e = too_many z (leb-false _ _ e)

        by_size : (t : Bool) → eqb block L.size ≡ t → Way block events buffer offset
        by_size true e = by_count (eqb-true _ _ e) (leb events most_steps) refl
        by_size false e = size_wrong (eqb-false _ _ e)

    abbrev number : ℕ
    number = record_number L block events buffer offset

    only_bad_size : number ≡ BAD_SIZE → block ≡ L.size → ⊥
    only_bad_size e = from way
      where
        from : Way block events buffer offset → block ≡ L.size → ⊥
        from (size_wrong n) z = n z
        from (too_many z l) _ = absurd (omega (arith, e, bad_count L block events buffer offset z l))
        from (past z few l) _ = absurd (omega (arith, e, past_the_end L block events buffer offset z few l))
        from (tight z few i l) _ = absurd (omega (arith, e, no_room L block events buffer offset z few i l))
        from (free z few i l) _ = absurd (omega (arith, e, room L block events buffer offset z few i l))

    only_bad_count : number ≡ BAD_COUNT → most_steps < events
    only_bad_count e = from way
      where
        from : Way block events buffer offset → most_steps < events
        from (size_wrong n) = absurd (omega (arith, e, bad_size L block events buffer offset n))
        from (too_many z l) = l
        from (past z few l) = absurd (omega (arith, e, past_the_end L block events buffer offset z few l))
        from (tight z few i l) = absurd (omega (arith, e, no_room L block events buffer offset z few i l))
        from (free z few i l) = absurd (omega (arith, e, room L block events buffer offset z few i l))

    only_no_room : number ≡ NO_ROOM → (buffer < offset) ⊎ (buffer - offset < trace_size L events)
    only_no_room e = from way
      where
        from : Way block events buffer offset → (buffer < offset) ⊎ (buffer - offset < trace_size L events)
        from (size_wrong n) = absurd (omega (arith, e, bad_size L block events buffer offset n))
        from (too_many z l) = absurd (omega (arith, e, bad_count L block events buffer offset z l))
        from (past z few l) = inl l
        from (tight z few i l) = inr l
        from (free z few i l) = absurd (omega (arith, e, room L block events buffer offset z few i l))

    -- too little room, said either way
    cramped : block ≡ L.size → events ≤ most_steps → (buffer < offset) ⊎ (buffer - offset < trace_size L events) → number ≡ NO_ROOM
    cramped z few (inl l) = sym (past_the_end L block events buffer offset z few l)
    cramped z few (inr l) = from way
      where
        from : Way block events buffer offset → number ≡ NO_ROOM
        from (size_wrong n) = absurd (n z)
        from (too_many _ m) = absurd (omega (arith, few, m))
        from (past z few m) = sym (past_the_end L block events buffer offset z few m)
        from (tight z few i m) = sym (no_room L block events buffer offset z few i m)
        from (free z few i m) = absurd (omega (arith, l, m))

  -- ---- a recording

  module _ (b : List ℕ) (es : List Event) (s : List ℕ) (offset n : ℕ) (s' : List ℕ) (r : Recorded L b es s offset n s') where
    refused : (n ≡ DONE → ⊥) → s' ≡ s
    refused no-done = r.buffer ∙ simp (ne_eqb n DONE no-done)

    module _ (done : n ≡ DONE) where
      may : Passed L (length b) (length es) (length s) offset
      may = passed L (length b) (length es) (length s) offset (sym r.number ∙ done)

      recorded : s' ≡ written_at s offset (published L b es)
      recorded = r.buffer ∙ simp (eq-eqb n DONE done)

      long : length (published L b es) ≡ trace_size L (length es)
      long = length-published L LL b es may.size ∙ omega arith

      front : length (take offset s) ≡ offset
      front = length-take-le offset s (omega (arith, may.inside))

      from_offset : drop offset s' ≡ published L b es ++ drop (offset + length (published L b es)) s
      from_offset = ap (drop offset) recorded ∙ drop_at (take offset s) _ offset front

      written : take (trace_size L (length es)) (drop offset s') ≡ published L b es
      written =
          ap (take (trace_size L (length es))) from_offset
          ∙ take_at (published L b es) (drop (offset + length (published L b es)) s) (trace_size L (length es)) long

      behind : drop (offset + trace_size L (length es)) s' ≡ drop (offset + trace_size L (length es)) s
      behind =
          sym (drop-drop (trace_size L (length es)) offset s')
          ∙ ap (drop (trace_size L (length es))) from_offset
          ∙ drop_at (published L b es) (drop (offset + length (published L b es)) s) (trace_size L (length es)) long
          ∙ ap (λ (k : ℕ). drop (offset + k) s) long

      before : take offset s' ≡ take offset s
      before = ap (take offset) recorded ∙ take_at (take offset s) _ offset front

      as_long : length s' ≡ length s
      as_long = ap length recorded ∙ length_written s (published L b es) offset (omega (arith, long, may.inside))

    same : (t : Bool) → eqb n DONE ≡ t → length s' ≡ length s
    same true e = as_long (eqb-true n DONE e)
    same false e = ap length (refused (eqb-false n DONE e))

    of_recording : OfRecording L b es s offset n s'
    of_recording =
        let is = r.number in
        let block = length b in
        let events = length es in
        let bytes = length s in
        record {
          bad_size_exactly = (
            (λ e. only_bad_size block events bytes offset (sym is ∙ e)),
            λ z. is ∙ sym (bad_size L block events bytes offset z),
          );
          bad_count_exactly = λ z. (
            (λ e. only_bad_count block events bytes offset (sym is ∙ e)),
            λ l. is ∙ sym (bad_count L block events bytes offset z l),
          );
          no_room_exactly = λ z few. (
            (λ e. only_no_room block events bytes offset (sym is ∙ e)),
            λ l. is ∙ cramped block events bytes offset z few l,
          );
          refused_leaves = refused;
          writes = written;
          keeps_before = before;
          keeps_behind = behind;
          accepted = λ done words.
              let k = may done in
              ap (report L) (written done)
              ∙ ((trace.theorems L LL).of_published b es k.size k.few words).published_accepted
              ∙ ap (λ (m : ℕ). record { number = ACCEPTED; place = m; steps = length es }) (long done);
          same_length = same (eqb n DONE) refl;
        }

pub theorems : (L : Layout) → Lawful L → RecorderTheorems L
theorems L LL =
    record {
      of_recording = of_recording L LL;
      records = λ b es s offset n s' r z few l.
          r.number
          ∙ sym (room L (length b) (length es) (length s) offset z few (omega (arith, l)) (omega (arith, l)));
    }

pub theorems_new : RecorderTheorems new_layout
theorems_new = theorems new_layout lawful_new
