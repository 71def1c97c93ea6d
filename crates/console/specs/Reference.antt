-- Reference traces (document 02, No. 7): what `pomurica_record` has written, judged by `pomurica_check`.
use Rattle.std.specs.Prelude.{◌≡◌, List, ℕ, length, take, drop}
use Rattle.state.specs.Number.{DONE}
use Rattle.rules.specs.declared.event.Event.{Event}
use Rattle.records.specs.Layout.{new_layout}
use Rattle.records.specs.Published.{AreEvents}
use Rattle.recorder.specs.Recorded.{trace_size, Recorded}
use Rattle.console.specs.Check.{report_size, report_bytes, check_returns, check_leaves}

-- the bytes of a trace of these events, from the offset on
abbrev pub recorded_in : List Event → ℕ → List ℕ → List ℕ
recorded_in es offset s = take (trace_size new_layout (length es)) (drop offset s)

pub record ReferenceTheorems : Type 0 where
  -- a recording that was done is accepted: 0 is returned, and the report has Steps n and the place its length
  pub accepted : (b : List ℕ) (es : List Event) (s : List ℕ) (offset : ℕ) (s' buffer : List ℕ)
      → Recorded new_layout b es s offset DONE s'
      → AreEvents es
      → length buffer ≡ report_size
      → (check_returns (recorded_in es offset s') buffer ≡ DONE)
      × (check_leaves (recorded_in es offset s') buffer
      ≡ report_bytes (record { number = DONE; place = trace_size new_layout (length es); steps = length es }))
