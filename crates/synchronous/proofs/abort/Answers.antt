-- The tests in the order of the rules.
use Rattle.std.proofs.Common.{refl, sym, ap, ◌∙◌}
use Rattle.entry.specs.Way.{Enter}
use Rattle.state.proofs.Test.{told, told_both, first_of_two}
use Rattle.state.specs.Mode.{MONITOR, ABORT}
use Rattle.synchronous.proofs.Routing.{second_tells, added, as_read, aborted}
use Rattle.synchronous.proofs.Routing.{abort_not_here, abort_to_monitor, abort_to_hyp, abort_to_own}
use Rattle.synchronous.proofs.abort.Goals as goal

pub returns-then-lacks_stage2 : goal.returns-then-lacks_stage2
returns-then-lacks_stage2 c = abort_not_here _ _ _ _ _ (told c.lacks_stage2.ensures c.if-lacks_stage2.true)

pub returns-then-is_set : goal.returns-then-is_set
returns-then-is_set c =
    let pc = c.get_word-pc in
    aborted _ _ _ _ (as_read refl pc.ensures pc.type_inv)
    (ap (Enter MONITOR c.args.own) (added _ c.added.ensures)
    ∙ abort_to_monitor _ _ _ _ _ _ (told c.lacks_stage2.ensures c.if-lacks_stage2.false)
    (told_both c.is_set.ensures c.is_set-2.ensures refl c.if-is_set.true))
    c.send.ensures

pub returns-then-is_set-2 : goal.returns-then-is_set-2
returns-then-is_set-2 c =
    let pc = c.get_word-pc in
    aborted _ _ _ _ (as_read refl pc.ensures pc.type_inv)
    (sym c.hyp_entry.ensures
    ∙ abort_to_hyp _ _ _ _ _ _ (told c.lacks_stage2.ensures c.if-lacks_stage2.false)
    (told_both c.is_set.ensures c.is_set-2.ensures refl c.if-is_set.false)
    (first_of_two _ _ (told c.is_set-3.ensures c.if-is_set-2.true)))
    c.send-then-is_set-2.ensures

pub returns-then-general_to_hyp : goal.returns-then-general_to_hyp
returns-then-general_to_hyp c =
    let pc = c.get_word-pc in
    aborted _ _ _ _ (as_read c.get_word.ensures pc.ensures pc.type_inv)
    (sym c.hyp_entry-then-general_to_hyp.ensures
    ∙ abort_to_hyp _ _ _ _ _ _ (told c.lacks_stage2.ensures c.if-lacks_stage2.false)
    (told_both c.is_set.ensures c.is_set-2.ensures refl c.if-is_set.false)
    (second_tells (told c.is_set-3.ensures c.if-is_set-2.false)
    (told c.general_to_hyp.ensures c.if-general_to_hyp.true)))
    c.send-then-general_to_hyp.ensures

pub returns : goal.returns
returns c =
    let pc = c.get_word-pc in
    aborted _ _ _ _ (as_read c.get_word.ensures pc.ensures pc.type_inv)
    (ap (Enter ABORT c.args.own) (added _ c.added-2.ensures)
    ∙ abort_to_own _ _ _ _ _ _ (told c.lacks_stage2.ensures c.if-lacks_stage2.false)
    (told_both c.is_set.ensures c.is_set-2.ensures refl c.if-is_set.false)
    (second_tells (told c.is_set-3.ensures c.if-is_set-2.false)
    (told c.general_to_hyp.ensures c.if-general_to_hyp.false)))
    c.send-2.ensures
