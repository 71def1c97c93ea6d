-- The part from the place on is written over from its front on.
use Prim.Native.Nat.{◌+◌}
use Rattle.records.specs.Layout.{new_layout, end_size, place_of}
use Rattle.records.specs.Published.{end_record}
use Rattle.records.proofs.Records.{length_end}
use Rattle.recorder.proofs.Writing.{over_part}
use Rattle.recorder.proofs.finish.Goals as goal

pub returns : goal.returns
returns c =
    let x = c.args in
    over_part x.buffer.now (end_record x.steps) _ (x.offset + place_of new_layout x.steps) end_size (length_end x.steps)
    c.requires.0 c.put_end.ensures
