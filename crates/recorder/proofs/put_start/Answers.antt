-- Two words from the front on, and the block behind them.
use Rattle.recorder.proofs.Records.{start_written}
use Rattle.recorder.proofs.put_start.Goals as goal

pub returns : goal.returns
returns c =
    let x = c.args in
    start_written x.part.now x.block.now x.count c.requires.0 c.requires.1 c.put_word.ensures c.put_word-2.ensures
    c.copy.ensures.1
