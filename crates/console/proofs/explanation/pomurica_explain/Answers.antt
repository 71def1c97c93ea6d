-- The words are put one behind the other, each at its place, and fill the buffer.
use mathlib.Core.List.{[], ◌∷◌}
use native.Mathlib.Omega.{arith}
use Rattle.console.proofs.Filled.{filled}
use Rattle.console.specs.Explain.{explain_leaves}
use Rattle.console.proofs.explanation.pomurica_explain.Goals as goal

pub returns-clause-leaves : goal.returns-clause-leaves
unfolding explain_leaves
returns-clause-leaves c =
    let x = c.explain-x.result in
    let words = x.number ∷ x.place ∷ x.steps ∷ x.part ∷ x.found ∷ x.due ∷ [] in
    grind (arith, filled words c.args.explanation.now c.if-explanation-ne-EXPLANATION_SIZE.false)
