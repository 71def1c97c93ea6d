-- Four words from the front on.
use Rattle.recorder.proofs.Records.{event_written}
use Rattle.recorder.proofs.put_event.Goals as goal

pub returns : goal.returns
returns c =
    event_written c.args.part.now c.args.e c.requires c.put_word.ensures c.put_word-2.ensures c.put_word-3.ensures
    c.put_word-4.ensures
