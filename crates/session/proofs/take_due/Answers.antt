-- A record that is not whole yet is held; one that lies whole in the run is judged there, whatever was held before.
use Rattle.std.proofs.Common.{rules}
use Rattle.records.specs.Which.{its}
use Rattle.records.specs.Session.{session}
use Rattle.session.proofs.Concluding.{concluded_of}
use Rattle.session.proofs.Turns.{whole_taken}
use Rattle.session.proofs.take_due.Goals as goal

pub returns : goal.returns
returns c =
    let x = c.args in
    let judged = c.judge_due-outcome in
    let left = session c.conclude.result c.conclude.new.block c.conclude.new.unfinished in
    let is = concluded_of (its x.layout) x.p x.r.now x.block.now judged.new.block x.unfinished.now c.fill.new.self left
    judged.result judged.ensures.right judged.ensures.wrong c.conclude.ensures.right c.conclude.ensures.wrong in
    search (rules, whole_taken)
