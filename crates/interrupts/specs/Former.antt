-- The rule that document 01 had before No. 5 of document 02, kept to say what that request changed: M of the masking table is
-- the override bit as stored. No other definition, no contract and no code goes by it.
use Rattle.std.specs.Prelude.{Bool, not, ◌&&◌, List, [], ◌∷◌, ℕ, leb, if◌then◌else◌}
use Rattle.state.specs.Choice.{◌is◌}
use Rattle.state.specs.Field.{mode_field}
use Rattle.state.specs.Mode.{HYP}
use Rattle.state.specs.State.{secure}
use Rattle.interrupts.specs.Check.{goes}
use Rattle.interrupts.specs.Decision.{class, lines_in, cpsr_in, scr_in, hcr_in, target_number, NOT_TAKEN, NO_CLASS}
use Rattle.interrupts.specs.Kind.{Kind, fiq, line, R, M, W, mask}
use Rattle.interrupts.specs.Masking.{obeyed}

abbrev pub masked_as_stored : Kind → ℕ → ℕ → ℕ → Bool
masked_as_stored k cpsr scr hcr = obeyed (secure cpsr scr) (mode_field cpsr is HYP) (M k hcr) (R k scr) (W k scr) && mask k cpsr

-- the decision table by it
unfoldable pub entry_as_stored : ℕ → ℕ
entry_as_stored i =
    if leb 3 (class i) then NO_CLASS else
    if line fiq (lines_in i) && not (masked_as_stored fiq (cpsr_in i) (scr_in i) (hcr_in i)) then
    target_number (goes fiq (cpsr_in i) (scr_in i) (hcr_in i)) else
    NOT_TAKEN

-- the entries that changed
abbrev pub changed : List ℕ
changed = 83 ∷ 87 ∷ 119 ∷ 183 ∷ []
