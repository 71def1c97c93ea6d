-- The event is replayed over a buffer of the function's own, which is read back.
use Rattle.machine.proofs.Replay.{by_replay}
use Rattle.machine.proofs.step.step_event.Goals as goal

pub returns : goal.returns
returns c =
    let r = c.replay-number.ensures in
    let p = by_replay _ c.args.e (r.number, (r.leaves, (r.answers, r.fits))) c.get_word.ensures in
    record { answers = p.0; leaves = p.1 }
