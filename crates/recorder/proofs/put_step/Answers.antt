-- The block before is copied to its place, the event put, the block stepped there by the event as it is seen, and the answer put.
use Rattle.recorder.proofs.Records.{step_written}
use Rattle.recorder.proofs.put_step.Goals as goal

pub returns : goal.returns
returns c =
    let e = c.args.e in
    step_written c.args.part.now e _ c.step_event-answer.result (c.direct_code.ensures e.b) c.requires c.copy_block.ensures
    c.put_event.ensures c.step_event-answer.ensures.answers c.step_event-answer.ensures.leaves c.put_word.ensures c.put_word-2.ensures
