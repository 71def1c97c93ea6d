-- To Hyp, or to Supervisor mode, as the test on the way found.
use Rattle.std.proofs.Common.{refl, sym, ap, ◌∙◌}
use Rattle.entry.proofs.Ways.{svc_to_hyp, svc_to_own}
use Rattle.entry.specs.Code.{SVC}
use Rattle.entry.specs.Offset.{CALL}
use Rattle.entry.specs.Route.{offset_to}
use Rattle.entry.specs.Way.{Enter}
use Rattle.state.proofs.Test.{told}
use Rattle.state.specs.Field.{mode_field}
use Rattle.state.specs.Mode.{SUPERVISOR, HYP}
use Rattle.synchronous.proofs.Routing.{beyond_range, in_range, added, as_read, on_its_way}
use Rattle.synchronous.proofs.SvcRule.apply.Goals as goal

pub returns-then-not-are_within : goal.returns-then-not-are_within
returns-then-not-are_within c = beyond_range SVC _ _ refl c.requires c.told-block c.are_within.ensures c.if-not-are_within.true

pub returns-then-general_to_hyp : goal.returns-then-general_to_hyp
returns-then-general_to_hyp c =
    let here = in_range {code = SVC} refl c.requires c.told-block c.are_within.ensures c.if-not-are_within.false in
    let pc = c.get_word in
    on_its_way here (as_read c.get_word-2.ensures pc.ensures pc.type_inv)
    (sym c.hyp_entry.ensures
    ∙ ap (Enter HYP (offset_to HYP (mode_field c.args.status.cpsr) CALL)) (added _ c.narrow_of.ensures)
    ∙ svc_to_hyp _ _ _ _ _ pc.type_inv (told c.general_to_hyp.ensures c.if-general_to_hyp.true))
    c.send.ensures

-- an SVC to Supervisor mode returns to the next address
pub returns : goal.returns
returns c =
    let here = in_range {code = SVC} refl c.requires c.told-block c.are_within.ensures c.if-not-are_within.false in
    let pc = c.get_word in
    on_its_way here (as_read c.get_word-2.ensures pc.ensures pc.type_inv)
    (ap (Enter SUPERVISOR CALL) (added _ c.narrow_of.ensures)
    ∙ svc_to_own _ _ _ _ _ pc.type_inv (told c.general_to_hyp.ensures c.if-general_to_hyp.false))
    c.send-2.ensures
