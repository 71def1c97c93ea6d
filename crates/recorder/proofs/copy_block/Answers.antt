-- The first part, and behind it the other.
use Rattle.recorder.proofs.Records.{copied_in_two}
use Rattle.recorder.proofs.copy_block.Goals as goal

pub returns : goal.returns
returns c = copied_in_two c.args.part.now c.requires c.copy_within.ensures.after c.copy_within-2.ensures.after
