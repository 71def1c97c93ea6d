-- What No. 10 of document 02 split, and how: the right that an access had before it, kept to say what the request changed, and the
-- registers that are "not accessible from the current state". No other definition, no contract and no code goes by these.
use Rattle.std.specs.Prelude.{Bool, not, ◌&&◌, ◌||◌, [], ◌∷◌, ℕ, if◌then◌else◌}
use Rattle.state.specs.Choice.{◌among◌}
use Rattle.state.specs.Field.{mode_field}
use Rattle.state.specs.Mode.{MONITOR, HYP}
use Rattle.state.specs.Number.{DONE, NO_RIGHT}
use Rattle.state.specs.Place.{ELR_hyp, SP_hyp, SPSR_hyp}
use Rattle.state.specs.State.{secure}
use Rattle.banked.specs.Right.{mon_registers, denied}

-- before: one number for every denial
unfoldable pub right_formerly : ℕ → ℕ → ℕ → ℕ
right_formerly p cpsr scr = if denied p (mode_field cpsr) (secure cpsr scr) then NO_RIGHT else DONE

-- Monitor's registers from Non-secure state, Hyp's from any mode but Monitor and Hyp (source 004, section F5.2.2)
abbrev pub not_accessible : ℕ → ℕ → Bool → Bool
not_accessible p m sec =
    (p among mon_registers && not sec)
    || (p among (ELR_hyp ∷ SP_hyp ∷ SPSR_hyp ∷ []) && not (m among (MONITOR ∷ HYP ∷ [])))
