-- One event more, and all of them (`Batching`).
use Rattle.console.proofs.Batching.{reached_next, reached_all}
use Rattle.console.proofs.batch.pomurica_batch.Goals as goal

pub loop-i-preserved : goal.loop-i-preserved
loop-i-preserved c =
    reached_next _ _ _ _ _ c.loop-i.invariant _ _ _ c.loop-i-test.true c.advance.ensures.answers c.advance.ensures.leaves

pub returns : goal.returns
returns c =
    reached_all _ _ _ _ _ c.loop-i.invariant _ c.if-events-answers.false c.if-block-ne-BLOCK_SIZE.false c.loop-i-test.false
