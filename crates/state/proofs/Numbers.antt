-- An answer number tells its outcome: no two outcomes have one number, so what is said of the number is said of the outcome.
use Rattle.std.specs.Prelude.{Result, Ok, Err, if◌then◌else◌}
use mathlib.Core.Path.{◌≡◌, refl, sym, ap, ◌∙◌}
use mathlib.Core.List.{List, [], ◌∷◌}
use Prim.Native.Nat.{ℕ}
use Rattle.state.specs.Choice.{◌is◌}
use Rattle.state.specs.Refusal.{Refusal, number, number_of}
use Rattle.state.specs.Refusal.{BadSize, BadMode, BadState, BadEvent, NotHere, NoRegister, NoRight}
use Rattle.state.specs.Refusal.{Short, BadRecord, BadCount, WrongStep, Trailing}
use Rattle.state.specs.Refusal.{Full, Closed, NoRoom, Disabled, OwnRegister, NotBanked}

-- the first of these whose number it is, or else what none of them is
abbrev refusal_among : List Refusal → ℕ → Result Unit Refusal
refusal_among [] n = Ok tt
refusal_among (r ∷ rs) n = if n is number r then Err r else refusal_among rs n

abbrev refusals : List Refusal
refusals =
    BadSize ∷ BadMode ∷ BadState ∷ BadEvent ∷ NotHere ∷ NoRegister ∷ NoRight
    ∷ Short ∷ BadRecord ∷ BadCount ∷ WrongStep ∷ Trailing
    ∷ Full ∷ Closed ∷ NoRoom ∷ Disabled ∷ OwnRegister ∷ NotBanked
    ∷ []

-- the outcome that a number is answered of
abbrev outcome_of : ℕ → Result Unit Refusal
outcome_of n = refusal_among refusals n

of_its_number : (o : Result Unit Refusal) → outcome_of (number_of o) ≡ o
of_its_number (Ok x) = refl
of_its_number (Err BadSize) = refl
of_its_number (Err BadMode) = refl
of_its_number (Err BadState) = refl
of_its_number (Err BadEvent) = refl
of_its_number (Err NotHere) = refl
of_its_number (Err NoRegister) = refl
of_its_number (Err NoRight) = refl
of_its_number (Err Short) = refl
of_its_number (Err BadRecord) = refl
of_its_number (Err BadCount) = refl
of_its_number (Err WrongStep) = refl
of_its_number (Err Trailing) = refl
of_its_number (Err Full) = refl
of_its_number (Err Closed) = refl
of_its_number (Err NoRoom) = refl
of_its_number (Err Disabled) = refl
of_its_number (Err OwnRegister) = refl
of_its_number (Err NotBanked) = refl

pub number_tells : (o p : Result Unit Refusal) → number_of o ≡ number_of p → o ≡ p
number_tells o p e = sym (of_its_number o) ∙ ap outcome_of e ∙ of_its_number p
