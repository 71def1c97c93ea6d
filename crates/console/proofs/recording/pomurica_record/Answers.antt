-- What `begin` has left is the Start, each turn puts a Step behind, and `finish` the End (the recorder's `Reached`).
use Rattle.records.specs.Layout.{new_layout}
use Rattle.records.proofs.Lawfuls.{lawful_new}
use Rattle.recorder.proofs.Reached.{reached_none, reached_next, reached_all, may_go_on, begun_again, recorded_all}
use Rattle.console.proofs.recording.pomurica_record.Goals as goal

pub loop-i-init : goal.loop-i-init
loop-i-init c =
    let number = c.in_default.ensures.number in
    let buffer = c.in_default.ensures.buffer in
    let may = may_go_on new_layout lawful_new _ _ _ _ _ number buffer in
    reached_none new_layout lawful_new _ _ _ _ may _ (begun_again new_layout lawful_new _ _ _ _ _ number buffer)

pub loop-i-preserved : goal.loop-i-preserved
loop-i-preserved c =
    let may = may_go_on new_layout lawful_new _ _ _ _ _ c.in_default.ensures.number c.in_default.ensures.buffer in
    reached_next new_layout lawful_new _ _ _ _ may _ _ c.loop-i.invariant _ c.loop-i-test.true _ c.go_on.ensures

pub returns : goal.returns
returns c =
    let number = c.in_default.ensures.number in
    let buffer = c.in_default.ensures.buffer in
    let may = may_go_on new_layout lawful_new _ _ _ _ _ number buffer in
    let written = reached_all new_layout lawful_new _ _ _ _ may _ _ c.loop-i.invariant c.loop-i-test.false _ c.finish.ensures in
    recorded_all new_layout lawful_new _ _ _ _ _ number buffer _ written
