-- The Exception level that a mode stands at (document 02, No. 9; Arm's manual, chapter G1, "Exception levels"): Secure modes but
-- User stand at EL3, where every level uses AArch32.
use Rattle.std.specs.Prelude.{ℕ, Bool, if◌then◌else◌}
use Rattle.state.specs.Choice.{◌is◌}
use Rattle.state.specs.Mode.{MONITOR, HYP, USER}

abbrev pub EL0 : ℕ
EL0 = 0

abbrev pub EL1 : ℕ
EL1 = 1

abbrev pub EL2 : ℕ
EL2 = 2

abbrev pub EL3 : ℕ
EL3 = 3

-- "Monitor 3, Hyp 2, User 0, any other mode 1 with NS 1 and 3 with NS 0": by the mode's number and SCR.NS
unfoldable pub level : ℕ → Bool → ℕ
level m ns =
    if m is MONITOR then EL3 else
    if m is HYP then EL2 else
    if m is USER then EL0 else
    if ns then EL1 else
    EL3
