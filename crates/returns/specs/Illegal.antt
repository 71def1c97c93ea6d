-- The illegal returns (document 02, No. 9; Arm's manual, chapter G1, "Illegal return events from AArch32 state"), as far as they
-- can apply where every level uses AArch32: a list of named rows. docs/ILLEGAL-RETURNS.md has the manual's list beside it.
use Rattle.std.specs.Prelude.{ℕ, Bool, true, false, not, ◌&&◌, List, [], ◌∷◌, nat_lt, if◌then◌else◌}
use Rattle.state.specs.Choice.{◌is◌}
use Rattle.state.specs.Mode.{HYP, known, el1}
use Rattle.returns.specs.Level.{level}

-- "a reserved mode number, bit 4 clear included"
abbrev pub reserved_mode : ℕ → Bool
reserved_mode to = not (known to)

-- "an Exception level above the current one"
abbrev pub level_above : ℕ → ℕ → Bool → Bool
level_above current to ns = nat_lt current (level to ns)

-- "Hyp with NS 0"
abbrev pub hyp_without_ns : ℕ → Bool → Bool
hyp_without_ns to ns = to is HYP && not ns

-- "Non-secure EL1 with TGE 1", by SCR.NS: from Monitor with NS 1 too
abbrev pub el1_under_tge : ℕ → Bool → Bool → Bool
el1_under_tge to ns tge = (ns && el1 to) && tge

-- the list: of a return at the current level to the mode that the saved word names, with NS and TGE as they are
abbrev pub rows : ℕ → ℕ → Bool → Bool → List Bool
rows current to ns tge =
    reserved_mode to
    ∷ level_above current to ns
    ∷ hyp_without_ns to ns
    ∷ el1_under_tge to ns tge
    ∷ []

-- does one of the rows apply?
abbrev pub any_of : List Bool → Bool
any_of [] = false
any_of (r ∷ rs) = if r then true else any_of rs

unfoldable pub illegal : ℕ → ℕ → Bool → Bool → Bool
illegal current to ns tge = any_of (rows current to ns tge)
