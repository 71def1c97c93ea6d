-- A record that is held whole is judged.
use Rattle.std.proofs.Common.{◌∙◌, rules}
use Rattle.records.specs.Which.{its}
use Rattle.records.specs.Session.{session}
use Rattle.records.proofs.Taking.{seen_whole}
use Rattle.session.proofs.Concluding.{concluded_of}
use Rattle.session.proofs.look.Goals as goal

pub returns-then-p-due_size : goal.returns-then-p-due_size
returns-then-p-due_size c =
    let x = c.args in
    let judged = c.judge_due-outcome in
    let left = session c.conclude.result c.conclude.new.block c.conclude.new.unfinished in
    concluded_of (its x.layout) x.p x.unfinished.now x.block.now judged.new.block x.unfinished.now x.unfinished.now left
    judged.result judged.ensures.right judged.ensures.wrong c.conclude.ensures.right c.conclude.ensures.wrong
    ∙ seen_whole (its x.layout) x.before x.p x.block.now x.unfinished.now (search rules) (search rules)
