-- The words are put one behind the other, each at its place, and fill the buffer.
use mathlib.Core.List.{[], ◌∷◌}
use native.Mathlib.Omega.{arith}
use Rattle.console.proofs.Filled.{filled}
use Rattle.console.proofs.instructions.put_parts.Goals as goal

pub returns : goal.returns
returns c =
    let p = c.args.p in
    grind (arith, filled (p.code ∷ p.a ∷ p.condition ∷ p.register ∷ []) c.args.buffer.now)
