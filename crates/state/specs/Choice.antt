-- How the rules choose: by a test, or by the first row of a list that applies.
use Rattle.std.specs.Prelude.{Bool, true, false, List, [], ◌∷◌, ℕ, eqb, if◌then◌else◌}

-- is the one number the other?
abbrev pub ◌is◌ : ℕ → ℕ → Bool
◌is◌ x y = eqb x y

infix 60 ◌is◌
-- is the number one of these?
abbrev pub ◌among◌ : ℕ → List ℕ → Bool
◌among◌ x [] = false
◌among◌ x (y ∷ ys) = if x is y then true else x among ys

infix 60 ◌among◌
-- a row of a list of refusals: whether it applies, and its number
pub record Row : Type 0 where
  pub applies : Bool
  pub number : ℕ

-- the number of the first row that applies, or what stands at the end of the list
abbrev pub first_of : List Row → ℕ → ℕ
first_of [] last = last
first_of (r ∷ rs) last = if r.applies then r.number else first_of rs last
