-- The words are put one behind the other, each at its place, and fill the buffer.
use mathlib.Core.List.{[], ◌∷◌}
use native.Mathlib.Omega.{arith}
use Rattle.console.proofs.Filled.{filled}
use Rattle.console.proofs.check.put_report.Goals as goal

pub returns : goal.returns
returns c =
    let v = c.args.found in
    grind (arith, filled (v.number ∷ v.place ∷ v.steps ∷ []) c.args.buffer.now)
