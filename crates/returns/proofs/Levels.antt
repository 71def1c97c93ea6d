-- A return is at EL3 with NS 0: every Secure mode that has a saved state stands there.
use Rattle.std.proofs.Common.{◌≡◌, ℕ, Bool, true, false, ◌&&◌, refl, eqb-true, if◌then◌else◌}
use Rattle.state.specs.Choice.{◌is◌}
use Rattle.state.specs.Mode.{HYP, targets, is_target}
use Rattle.state.proofs.Test.{at_one}
use Rattle.returns.specs.Level.{EL3, level}

abbrev stands_at : ℕ → Bool
stands_at m = if m is HYP then true else level m false is EL3

pub at_el3 : (m : ℕ) → is_target m ≡ true → (m is HYP && true) ≡ false → level m false ≡ EL3
unfolding is_target level
at_el3 m t h = by (m is HYP) h (at_one targets stands_at refl m t)
  where
    by : (hyp : Bool) → (hyp && true) ≡ false → (if hyp then true else level m false is EL3) ≡ true → level m false ≡ EL3
    by true n k = let z : ◌≡◌ {A = Bool} true false = n in cc
    by false n k = eqb-true (level m false) EL3 k
