-- The refusals, in the order of their numbers, but for DISABLED, which goes behind NOT_HERE (document 02, No. 8), and for a note
-- again the second and the third: the first row that applies wins (document 01, "Answer numbers"). A return has a row of its own
-- behind the third, the fourth and the fifth (document 02, No. 9).
use Rattle.std.specs.Prelude.{Bool, not, ◌&&◌, List, [], ◌∷◌, ℕ, length}
use Rattle.words.specs.Word.{word, put}
use Rattle.state.specs.Choice.{◌is◌, Row, first_of}
use Rattle.state.specs.Field.{mode_field}
use Rattle.state.specs.Mode.{known}
use Rattle.state.specs.Number.{DONE, BAD_SIZE, BAD_MODE, BAD_STATE, BAD_EVENT, NOT_HERE, DISABLED, NO_REGISTER}
use Rattle.state.specs.Place.{BLOCK_SIZE, NO_PLACE, CPSR, SCR, HCR}
use Rattle.state.specs.State.{good}
use Rattle.entry.specs.Code.{is_synchronous}
use Rattle.entry.specs.Route.{not_here, disabled}
use Rattle.banked.specs.Cell.{cell}
use Rattle.banked.specs.Right.{right}
use Rattle.returns.specs.Return.{wrong_a, bad_saved, saved_word, has_saved}
use Rattle.rules.specs.Event.{Event, NOTE, RETURN, is_banked, bad_event}

-- a block by its own words: "mode not one of the nine"; "block not good"
abbrev pub unknown_mode : List ℕ → Bool
unknown_mode b = not (known (mode_field (word b CPSR)))

abbrev pub not_good : List ℕ → Bool
not_good b = not (good (word b CPSR) (word b SCR) (word b HCR))

-- the block that a note would make
abbrev pub noted : List ℕ → Event → List ℕ
noted b e = put b e.a e.b

-- "A saved word with any of bits 24-21 set is BAD_STATE", in a mode that has one
abbrev pub bad_return : List ℕ → Bool
bad_return b = has_saved b && bad_saved (saved_word b)

-- the rows; "A note is then tested on the block it would make: 2 or 3, by their rows, if that is not good"
abbrev pub rows : List ℕ → Event → List Row
rows b e =
    record { applies = not (length b is BLOCK_SIZE); number = BAD_SIZE }
    ∷ record { applies = unknown_mode b; number = BAD_MODE }
    ∷ record { applies = not_good b; number = BAD_STATE }
    ∷ record { applies = e.code is RETURN && bad_return b; number = BAD_STATE }
    ∷ record { applies = bad_event e.code e.a e.b; number = BAD_EVENT }
    ∷ record { applies = e.code is RETURN && wrong_a (word b CPSR) e.a; number = BAD_EVENT }
    ∷ record { applies = is_synchronous e.code && not_here e.code e.a (word b CPSR) (word b SCR); number = NOT_HERE }
    ∷ record { applies = e.code is RETURN && not (has_saved b); number = NOT_HERE }
    ∷ record {
      applies = is_synchronous e.code && disabled e.code (word b CPSR) (word b SCR) (word b HCR);
      number = DISABLED;
    }
    ∷ record { applies = is_banked e.code && cell e.a is NO_PLACE; number = NO_REGISTER }
    ∷ record {
      applies = is_banked e.code && not (right (cell e.a) (word b CPSR) (word b SCR) is DONE);
      number = right (cell e.a) (word b CPSR) (word b SCR);
    }
    ∷ record { applies = e.code is NOTE && unknown_mode (noted b e); number = BAD_MODE }
    ∷ record { applies = e.code is NOTE && not_good (noted b e); number = BAD_STATE }
    ∷ []

-- "DONE: no row below applies"
unfoldable pub refusal : List ℕ → Event → ℕ
refusal b e = first_of (rows b e) DONE
