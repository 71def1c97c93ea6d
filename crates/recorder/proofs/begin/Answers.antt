-- Where the checks are passed the offset lies in the buffer, and a Start has room behind it.
use mathlib.Core.Path.{sym}
use native.Mathlib.Omega.{arith}
use lib.ListN.{length}
use Rattle.records.specs.Layout.{new_layout, start_size}
use Rattle.records.specs.Published.{start_record}
use Rattle.records.proofs.Lawfuls.{lawful_new}
use Rattle.records.proofs.Records.{length_start}
use Rattle.recorder.proofs.Checks.{passed}
use Rattle.recorder.proofs.Writing.{over_part}
use Rattle.recorder.proofs.begin.Goals as goal

pub returns-clause-buffer : goal.returns-clause-buffer
returns-clause-buffer c =
    let x = c.args in
    let known = passed new_layout (length x.block.now) x.events (length x.buffer.now) x.offset (sym c.in_ok-judge.ensures) in
    over_part x.buffer.now (start_record new_layout x.events x.block.now) _ x.offset (start_size new_layout)
    (length_start new_layout lawful_new x.events x.block.now known.size) (omega (arith, known.inside)) c.put_start.ensures
