-- The checks in their order: which number each of them gives, and what is known once all are passed.
use mathlib.Core.Path.{◌≡◌, sym}
use Prim.Native.Nat.{ℕ, ◌+◌, ◌-◌, ◌<◌, ◌≤◌}
use native.Mathlib.Omega.{arith}
use lib.Dec.{leb, lit<}
use borrow.Author.Tests.{eq-eqb, ne_eqb, le-leb, lt-leb, eqb-true, leb-true}
use Rattle.state.specs.Choice.{◌is◌}
use Rattle.state.proofs.Test.{and_left, and_right}
use Rattle.records.specs.Layout.{Layout, most_steps}
use Rattle.records.proofs.Faults.{else_zero, unless_zero}
use Rattle.records.specs.Report.{unless}
use Rattle.recorder.specs.Recorded.{DONE, BAD_SIZE, BAD_COUNT, NO_ROOM, trace_size, has_room, record_number}

module _ (L : Layout) (block events buffer offset : ℕ) where
  pub bad_size : (block ≡ L.size → ⊥) → BAD_SIZE ≡ record_number L block events buffer offset
  bad_size n = sym (simp (ne_eqb block L.size n))

  module _ (size : block ≡ L.size) where
    pub bad_count : most_steps < events → BAD_COUNT ≡ record_number L block events buffer offset
    bad_count l = sym (simp (eq-eqb block L.size size, lt-leb _ _ l))

    module _ (few : events ≤ most_steps) where
      pub past_the_end : buffer < offset → NO_ROOM ≡ record_number L block events buffer offset
      past_the_end l = sym (simp (eq-eqb block L.size size, le-leb _ _ few, lt-leb _ _ l))

      pub no_room : offset ≤ buffer → buffer - offset < trace_size L events → NO_ROOM ≡ record_number L block events buffer offset
      no_room i l = sym (simp (eq-eqb block L.size size, le-leb _ _ few, le-leb _ _ i, lt-leb _ _ l))

      pub room : offset ≤ buffer → trace_size L events ≤ buffer - offset → DONE ≡ record_number L block events buffer offset
      room i l = sym (simp (eq-eqb block L.size size, le-leb _ _ few, le-leb _ _ i, le-leb _ _ l))

  -- all are passed
  pub record Passed : Type 0 where
    pub size : block ≡ L.size
    pub few : events ≤ most_steps
    pub inside : offset + trace_size L events ≤ buffer

  pub passed : record_number L block events buffer offset ≡ DONE → Passed
  passed h =
      let sized = else_zero (unless (block is L.size) BAD_SIZE) _ h in
      let counted = else_zero (unless (leb events most_steps) BAD_COUNT) _ sized.1 in
      let roomy = unless_zero (has_room L events buffer offset) NO_ROOM (lit< tt) counted.1 in
      let inside : offset ≤ buffer = leb-true _ _ (and_left (leb offset buffer) _ roomy) in
      let enough : trace_size L events ≤ buffer - offset = leb-true _ _ (and_right (leb offset buffer) _ roomy) in
      record {
        size = eqb-true _ _ (unless_zero _ BAD_SIZE (lit< tt) sized.0);
        few = leb-true _ _ (unless_zero _ BAD_COUNT (lit< tt) counted.0);
        inside = omega (arith, inside, enough);
      }
