-- What is said of the Steps is what feeding their bytes makes of the session.
use Rattle.std.proofs.Common.{rules, ap}
use Rattle.state.specs.Refusal.{number_of}
use Rattle.records.specs.Which.{its}
use Rattle.session.proofs.Turns.{right_taken, wrong_taken}
use Rattle.session.proofs.take_steps.Goals as goal

pub returns-in-Err : goal.returns-in-Err
returns-in-Err c =
    let x = c.args in
    let run = c.judge_steps-run in
    wrong_taken (its x.layout) x.p x.block.now x.unfinished.now x.r.now c.requires (search rules) c.whole_steps.result
    c.whole_steps.ensures run.result run.new.block run.ensures _ c.step_on-q.ensures c.in-Err.fault c.in-Err.is _ c.refuse.ensures

pub returns : goal.returns
returns c =
    let x = c.args in
    let run = c.judge_steps-run in
    right_taken (its x.layout) x.p x.block.now x.unfinished.now x.r.now c.requires (search rules) c.whole_steps.result
    c.whole_steps.ensures run.result run.new.block run.ensures _ c.step_on-q.ensures (ap number_of c.in_default.is) _
    c.steps_size.ensures
