-- What the code's own parts ask and answer. Nobody has to believe these: they stand between the code and the rules, and the
-- laws of proofs/ join them to `illegal`.
use Rattle.std.specs.Prelude.{◌≡◌, ℕ, ◌+◌, ◌^◌, ◌<◌, Bool, true, false, not, ◌&&◌, if◌then◌else◌}
use Rattle.state.specs.Choice.{◌is◌}
use Rattle.state.specs.Field.{mode_field, SCR_NS}
use Rattle.state.specs.Mode.{HYP, MONITOR, is_target}
use Rattle.state.specs.Parts.{in_set}
use Rattle.returns.specs.Illegal.{illegal}

-- a mode with a saved state, Hyp with NS 1 alone: what a return is asked of on a good block
abbrev pub Leaves : ℕ → ℕ → Type 0
Leaves cpsr scr = (is_target (mode_field cpsr) ≡ true) × ((mode_field cpsr is HYP && not (SCR_NS scr)) ≡ false)

-- the modes above one of Non-secure state that has a saved state, as a set
abbrev pub above_set : ℕ → ℕ
above_set m =
    if m is MONITOR then 0 else
    if m is HYP then 2 ^ MONITOR else
    2 ^ MONITOR + 2 ^ HYP

-- the set has each mode that a return at this level may not go to
abbrev pub IllegalModes : ℕ → Bool → Bool → ℕ → Type 0
IllegalModes current ns tge set = (m : ℕ) → m < 32 → in_set set m ≡ illegal current m ns tge
