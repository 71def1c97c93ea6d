-- Answers of yes or no: false is never true, and what is said by `↔` determines the answer.
use mathlib.Core.Path.{◌≡◌, refl, sym, subst}
use mathlib.Core.Bool.{Bool, true, false}
use mathlib.Core.Logic.{◌↔◌}
use lib.Dec.{T}

pub never : {X : Type 0} → false ≡ true → X
never e = absurd (subst T (sym e) tt)

-- two answers to one question are the same answer: what `same` says determines it, though it is no equation
pub same_once : (P : Type 0) (r s : Bool) → (r ≡ true) ↔ P → (s ≡ true) ↔ P → r ≡ s
same_once P true s h k = sym (k.1 (h.0 refl))
same_once P false true h k = h.1 (k.0 refl)
same_once P false false h k = refl
