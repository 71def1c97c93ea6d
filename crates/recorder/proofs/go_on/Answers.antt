-- The part begins with the block before, which stays; what is written over begins behind it.
use Prim.Native.Nat.{◌+◌, ◌*◌}
use native.Mathlib.Omega.{arith}
use Rattle.records.specs.Layout.{new_layout, step_size, place_of, start_block_at}
use Rattle.recorder.proofs.Records.{step_behind}
use Rattle.recorder.proofs.go_on.Goals as goal

pub returns : goal.returns
returns c =
    let x = c.args in
    step_behind x.buffer.now (x.offset + place_of new_layout x.steps)
    (x.offset + (start_block_at + step_size new_layout * x.steps)) x.e (omega arith) c.requires c.put_step.ensures
