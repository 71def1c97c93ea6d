-- A block of another size is refused at once; else the event is carried out over a buffer of the function's own, which is read back.
use Rattle.rules.proofs.Deciding.{event}
use Rattle.machine.proofs.Replay.{by_value, by_value_refused}
use Rattle.machine.proofs.step.answer_in.Goals as goal

pub returns-in_default : goal.returns-in_default
returns-in_default g c =
    let e = event c.args.code c.args.operands.a c.args.operands.b in
    let p = by_value_refused _ e c.in_default.ensures.cases c.number.ensures.value in
    record { answers = p.0; leaves = p.1 }

pub returns : goal.returns
returns g c =
    let e = event c.args.code c.args.operands.a c.args.operands.b in
    let p = by_value _ e c.in-Some.ensures.cases.same c.dispatch.ensures c.get_word.ensures c.get_word-2.ensures in
    record { answers = p.0; leaves = p.1 }
