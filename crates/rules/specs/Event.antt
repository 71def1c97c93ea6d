-- An event and its operands (document 01, "Events").
use Rattle.std.specs.Prelude.{Bool, not, ◌&&◌, ◌||◌, [], ◌∷◌, ℕ, leb, if◌then◌else◌}
use Rattle.state.specs.Choice.{◌is◌, ◌among◌}
use Rattle.state.specs.Place.{PLACES}
use Rattle.entry.specs.Code.{PREFETCH_ABORT, DATA_ABORT}
pub use Rattle.entry.specs.Code.{INTERRUPT_CHECK, BANKED_READ, BANKED_WRITE, NOTE, RETURN, is_known}
pub use Rattle.banked.specs.Cell.{CELL_VALUES}
pub use Rattle.rules.specs.declared.event.Event.{Event}

-- a banked read or write
abbrev pub is_banked : ℕ → Bool
is_banked code = code among (BANKED_READ ∷ BANKED_WRITE ∷ [])

-- how many values A may have, counted from 0: one where it must be 0, the two bits of an abort, and of a Prefetch Abort debug too,
-- "4 with 1 or 2 is BAD_EVENT" (document 02, No. 11), the five lines of a check, the
-- cells of a banked access, the places of a note, and what a return takes off, 0 to 8, of which its own row takes some out
abbrev pub ZERO_ONLY : ℕ
ZERO_ONLY = 1

abbrev pub ABORT_VALUES : ℕ
ABORT_VALUES = 4

abbrev pub PREFETCH_VALUES : ℕ
PREFETCH_VALUES = 5

abbrev pub LINE_VALUES : ℕ
LINE_VALUES = 32

abbrev pub OFF_VALUES : ℕ
OFF_VALUES = 9

-- "A and B must be 0 where not named"
abbrev pub values_of_a : ℕ → ℕ
values_of_a code =
    if code is PREFETCH_ABORT then PREFETCH_VALUES else
    if code is DATA_ABORT then ABORT_VALUES else
    if code is INTERRUPT_CHECK then LINE_VALUES else
    if is_banked code then CELL_VALUES else
    if code is NOTE then PLACES else
    if code is RETURN then OFF_VALUES else
    ZERO_ONLY

-- "B the new word"
abbrev pub takes_b : ℕ → Bool
takes_b code = code among (BANKED_WRITE ∷ NOTE ∷ [])

-- BAD_EVENT: "unknown code, operand out of its range, or not 0 where it must be"
unfoldable pub bad_event : ℕ → ℕ → ℕ → Bool
bad_event code a b =
    not (is_known code)
    || (leb (values_of_a code) a
    || (not (takes_b code) && not (b is 0)))
