-- Each turn judges the next Step: a fault is told at once, and behind a right one the next is judged.
use mathlib.Core.Path.{◌≡◌}
use Prim.Native.Nat.{◌+◌, ◌*◌}
use native.Mathlib.Nat.{mul-zero}
use native.Mathlib.Omega.{arith}
use Rattle.std.proofs.Math.Nat.{mul-add}
use Rattle.records.proofs.Lawfuls.{lawful}
use Rattle.records.proofs.Judging.{reached_none, reached_next, reached_wrong, rest_is}
use Rattle.records.specs.Layout.{layout}
use Rattle.records.specs.Which.{old, its}
use Rattle.judgements.proofs.judge_each.Goals as goal

pub loop-right-init : goal.loop-right-init
loop-right-init c =
    rw (mul-zero c.step_size-size.result) (reached_none (its c.args.layout) _ _ _ c.requires.size, c.requires)

pub returns-then-is_err : goal.returns-then-is_err
returns-then-is_err c =
    let t = old c.args.layout in
    let j = rw (rest_is c.args.r.now _) at c.judge_step-outcome.ensures in
    reached_wrong (layout t) (lawful t) _ _ _ _ _ _ c.loop-right.invariant.0 c.loop-right-test.true _ _ j.judged
    (grind arith)

pub loop-right-preserved : goal.loop-right-preserved
loop-right-preserved c =
    let t = old c.args.layout in
    let j = rw (rest_is c.args.r.now _) at c.judge_step-outcome.ensures in
    let next = reached_next (layout t) (lawful t) _ _ _ _ _ _ c.loop-right.invariant.0 c.loop-right-test.true _ _ j.judged _
    c.step_size-size.ensures (grind arith) in
    let k = c.loop-right.right in
    let size = c.step_size-size.result in
    let place : size * k + size ≡ size * (k + 1) = omega (arith, mul-add size k 1) in
    rw (← place) (next, j.still (grind arith))
