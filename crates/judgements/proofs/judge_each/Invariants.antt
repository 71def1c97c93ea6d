-- So many Steps are right, and the block is the layout's still.
use Prim.Native.Nat.{◌*◌}
use Rattle.records.proofs.Judging.{Reached}
use Rattle.records.specs.Judged.{narrow, IsWide}
use Rattle.records.specs.Which.{old, its}
use Rattle.judgements.proofs.judge_each.Given as goal

abbrev pub invariant-loop-right : goal.invariant-loop-right
invariant-loop-right l =
    let was = narrow (old l.layout) l.initial.block in
    Reached (its l.layout) l.r l.count was (narrow (old l.layout) l.block) l.right (l.size * l.right) × IsWide (old l.layout) l.block
