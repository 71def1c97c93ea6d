-- The text that is made is the lines, and the room takes it where it fits.
use mathlib.Core.Path.{ap, ◌∙◌}
use Rattle.count_lines.specs.Lines.{lines}
use Rattle.count_lines.proofs.Lining.{put_bad_size, put_no_room, put_done}
use Rattle.count_lines.proofs.put_lines.Goals as goal

pub returns-in_default : goal.returns-in_default
returns-in_default c =
    let put = put_bad_size c.args.counts.now c.args.room.now c.in_default.ensures.cases in
    record { returns = put.0; leaves = put.1 }

pub returns-then-room-size : goal.returns-then-room-size
returns-then-room-size c =
    let whole = c.in-Some.ensures.cases in
    let made = c.bytes-bytes.ensures ∙ c.lines_of-text.ensures ∙ ap lines whole.same in
    let put = put_no_room c.args.counts.now c.args.room.now whole.long _ made c.if-room-size.true in
    record { returns = put.0; leaves = put.1 }

pub returns : goal.returns
returns c =
    let whole = c.in-Some.ensures.cases in
    let made = c.bytes-bytes.ensures ∙ c.lines_of-text.ensures ∙ ap lines whole.same in
    let put = put_done c.args.counts.now c.args.room.now whole.long _ made c.if-room-size.false _ c.copy.ensures.1 in
    record { returns = put.0; leaves = put.1 }
