-- Two words from the front on.
use Rattle.recorder.proofs.Records.{end_written}
use Rattle.recorder.proofs.put_end.Goals as goal

pub returns : goal.returns
returns c = end_written c.args.part.now c.args.count c.requires c.put_word.ensures c.put_word-2.ensures
