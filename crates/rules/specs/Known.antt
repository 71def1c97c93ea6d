-- What a layout of a trace does not know (document 02, Nos. 11 and 13): the machine knows every event, and the layout sees such a one as
-- an event of no code, which is BAD_EVENT. A direct step, which C, a batch and the recorder make, knows what the new layout does.
use Rattle.std.specs.Prelude.{◌≡◌, Bool, true, false, ◌&&◌, ◌||◌, ℕ, if◌then◌else◌}
use Rattle.state.specs.Choice.{◌is◌}
use Rattle.state.specs.Field.{bit}
use Rattle.state.specs.Place.{HDCR}
use Rattle.entry.specs.Code.{PREFETCH_ABORT}
use Rattle.rules.specs.Event.{Event, INTERRUPT_CHECK, NOTE}

-- a code that is none
abbrev pub NO_CODE : ℕ
NO_CODE = 0

-- A of a debug abort: of the values that have the bit it is the one in range
abbrev pub DEBUG : ℕ
DEBUG = 4

-- "there debug and notes on place 44 are BAD_EVENT"
abbrev pub unknown_to_old : Event → Bool
unknown_to_old e = (e.code is PREFETCH_ABORT && e.a is DEBUG) || (e.code is NOTE && e.a is HDCR)

-- "For Start kind 4, and for every direct step, lines 8 and 16 of event 9 become BAD_EVENT"
abbrev pub virtual_lines : ℕ → Bool
virtual_lines lines = bit 3 lines || bit 4 lines

abbrev pub unknown_to_new : Event → Bool
unknown_to_new e = e.code is INTERRUPT_CHECK && virtual_lines e.a

-- what the old layout, true, and the new one do not know
abbrev pub unknown : Bool → Event → Bool
unknown true e = unknown_to_old e
unknown false e = unknown_to_new e

-- the event as a layout sees it
unfoldable pub seen : Bool → Event → Event
seen old e = if unknown old e then record { code = NO_CODE; a = e.a; b = e.b } else e

-- as a direct step does
abbrev pub direct : Event → Event
direct e = seen false e

-- the code of an event as the layout sees it, its operands being as they are
abbrev pub SeenCode : Bool → ℕ → ℕ → ℕ → Type 0
SeenCode old code a n =
    (w : ℕ) → ◌≡◌ {A = Event} (record { code = n; a = a; b = w }) (seen old (record { code = code; a = a; b = w }))
