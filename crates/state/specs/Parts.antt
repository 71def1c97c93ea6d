-- What the code's own parts answer. Nobody has to believe these: they stand between the code and the rules, and the
-- laws of proofs/ join them to `fault_of`.
use Rattle.std.specs.Prelude.{List, Option, None, Some, ◌≡◌, Bool, not, ◌&&◌, ◌||◌, ℕ, ◌/◌, ◌^◌, ◌<◌, eqb, if◌then◌else◌}
use Rattle.std.specs.Int.Bits.{bit_and}
use Rattle.words.specs.Word.{word}
use Rattle.state.specs.declared.state.Status.{Status}
use Rattle.state.specs.Choice.{◌is◌}
use Rattle.state.specs.Field.{mode_field}
use Rattle.state.specs.Mode.{MONITOR, HYP, known, el1}
use Rattle.state.specs.Place.{NO_PLACE, CPSR, SCR}
use Rattle.state.specs.Number.{BAD_MODE, BAD_STATE}

-- is n in the set, a word with bit n for the mode of number n?
abbrev pub in_set : ℕ → ℕ → Bool
in_set set n = eqb (bit_and (set / 2 ^ n) 1) 1

-- Hyp has NS 1, and NS EL1 has TGE 0: by the mode and the two bits
abbrev pub stands : ℕ → Bool → Bool → Bool
stands m ns tge = not (m is HYP && not ns) && not ((not (not ns || m is MONITOR) && el1 m) && tge)

-- the set has each mode that is none of the nine, or does not stand where the two bits let it
abbrev pub BadModes : Bool → Bool → ℕ → Type 0
BadModes ns tge set = (m : ℕ) → m < 32 → in_set set m ≡ not (known m && stands m ns tge)

-- the answer to a block in one of them
abbrev pub mode_fault : ℕ → ℕ
mode_fault cpsr = if known (mode_field cpsr) then BAD_STATE else BAD_MODE

-- a place, or the mark where there is none
abbrev pub place_or_none : Option ℕ → ℕ
place_or_none None = NO_PLACE
place_or_none (Some p) = p

-- CPSR and SCR of the block, as they were read
abbrev pub ReadFrom : List ℕ → Status → Type 0
ReadFrom b status = (status.cpsr ≡ word b CPSR) × (status.scr ≡ word b SCR)
