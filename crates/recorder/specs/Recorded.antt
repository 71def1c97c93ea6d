-- A recorder of our own (document 02, No. 7): from a start block and a list of events the published trace is written into a lent
-- buffer, from an offset that the caller gives. Its bytes before the offset and behind the trace stay; a refusal changes no byte.
use Rattle.std.specs.Prelude.{◌≡◌, Bool, ◌&&◌, List, ◌++◌, ℕ, ◌+◌, ◌*◌, ◌-◌, length, take, drop, leb, if◌then◌else◌}
use Rattle.state.specs.Choice.{◌is◌}
use Rattle.rules.specs.declared.event.Event.{Event}
use Rattle.records.specs.Layout.{Layout, start_size, step_size, end_size, most_steps}
use Rattle.records.specs.Published.{published}
use Rattle.records.specs.Report.{unless, ◌else◌}
pub use Rattle.state.specs.Number.{DONE, BAD_SIZE, BAD_COUNT, NO_ROOM}

-- the bytes s with the bytes r in the place of its own from at on
abbrev pub written_at : List ℕ → ℕ → List ℕ → List ℕ
written_at s at r = take at s ++ (r ++ drop (at + length r) s)

module _ (L : Layout) where
  -- the block that stands before a place
  abbrev pub block_before : ℕ → List ℕ → List ℕ
  block_before place s = take L.size (drop (place - L.size) s)

  -- the bytes of a trace of n Steps: in the old layout 192 + 200n, in the new 196 + 204n
  abbrev pub trace_size : ℕ → ℕ
  trace_size n = start_size L + (step_size L * n + end_size)

  -- so many bytes have room for it from the offset on: the offset is not past their end, and enough of them lie behind it
  abbrev pub has_room : ℕ → ℕ → ℕ → Bool
  has_room n bytes offset = leb offset bytes && leb (trace_size n) (bytes - offset)

  -- what is answered, by the lengths of the block, the list and the buffer: the checks in their order
  abbrev pub record_number : ℕ → ℕ → ℕ → ℕ → ℕ
  record_number block events buffer offset =
      unless (block is L.size) BAD_SIZE else
      unless (leb events most_steps) BAD_COUNT else
      unless (has_room events buffer offset) NO_ROOM

  -- what a recording of es from the block b, into s from the offset on, returns and leaves
  pub record Recorded (b : List ℕ) (es : List Event) (s : List ℕ) (offset n : ℕ) (s' : List ℕ) : Type 0 where
    pub number : n ≡ record_number (length b) (length es) (length s) offset
    pub buffer : s' ≡ (if n is DONE then written_at s offset (published L b es) else s)
