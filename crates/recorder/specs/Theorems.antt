-- What is proved of a recording (document 02, No. 7), in any lawful layout.
use Rattle.std.specs.Prelude.{◌≡◌, ◌⊎◌, ◌↔◌, List, ℕ, ◌+◌, ◌-◌, ◌<◌, ◌≤◌, length, take, drop}
use Rattle.rules.specs.declared.event.Event.{Event}
use Rattle.records.specs.Layout.{Layout, most_steps}
use Rattle.records.specs.Published.{AreEvents, published}
use Rattle.records.specs.Report.{ACCEPTED, report}
use Rattle.recorder.specs.Recorded.{DONE, BAD_SIZE, BAD_COUNT, NO_ROOM, trace_size, Recorded}

-- of a recording of es from the block b, into s from the offset on, that returned n and left s'
pub record OfRecording (L : Layout) (b : List ℕ) (es : List Event) (s : List ℕ) (offset n : ℕ) (s' : List ℕ) : Type 0 where
  -- ---- which number it is

  pub bad_size_exactly : (n ≡ BAD_SIZE) ↔ (length b ≡ L.size → ⊥)
  pub bad_count_exactly : length b ≡ L.size → (n ≡ BAD_COUNT) ↔ (most_steps < length es)
  -- the offset is past the buffer's end, or fewer bytes than the trace has lie behind it
  pub no_room_exactly : length b ≡ L.size → length es ≤ most_steps
      → (n ≡ NO_ROOM) ↔ ((length s < offset) ⊎ (length s - offset < trace_size L (length es)))
  -- ---- refused: every byte is as it was

  pub refused_leaves : (n ≡ DONE → ⊥) → s' ≡ s
  -- ---- done

  -- the bytes from the offset on are the published trace; those before it, and those behind the trace, are as they were
  pub writes : n ≡ DONE → take (trace_size L (length es)) (drop offset s') ≡ published L b es
  pub keeps_before : n ≡ DONE → take offset s' ≡ take offset s
  pub keeps_behind : n ≡ DONE → drop (offset + trace_size L (length es)) s' ≡ drop (offset + trace_size L (length es)) s
  -- what is written is accepted by the checker, with Steps n and the place its length
  pub accepted : n ≡ DONE → AreEvents es
      → report L (take (trace_size L (length es)) (drop offset s'))
      ≡ record { number = ACCEPTED; place = trace_size L (length es); steps = length es }
  -- ---- either

  pub same_length : length s' ≡ length s

pub record RecorderTheorems (L : Layout) : Type 0 where
  pub of_recording : (b : List ℕ) (es : List Event) (s : List ℕ) (offset n : ℕ) (s' : List ℕ) → Recorded L b es s offset n s'
      → OfRecording L b es s offset n s'
  -- and a list of events that may be recorded is, where there is room
  pub records : (b : List ℕ) (es : List Event) (s : List ℕ) (offset n : ℕ) (s' : List ℕ) → Recorded L b es s offset n s'
      → length b ≡ L.size → length es ≤ most_steps → offset + trace_size L (length es) ≤ length s
      → n ≡ DONE
