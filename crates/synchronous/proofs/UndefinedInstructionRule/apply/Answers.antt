-- To Hyp, or to Undefined mode, as the test on the way found.
use Rattle.std.proofs.Common.{refl, sym, ap, ◌∙◌}
use Rattle.entry.proofs.Ways.{undefined_to_hyp, undefined_to_own}
use Rattle.entry.specs.Code.{UNDEFINED_INSTRUCTION}
use Rattle.entry.specs.Offset.{UNDEFINED}
use Rattle.entry.specs.Way.{Enter}
use Rattle.state.proofs.Test.{told}
use Rattle.state.specs.Mode as modes
use Rattle.synchronous.proofs.Routing.{beyond_range, in_range, added, as_read, on_its_way}
use Rattle.synchronous.proofs.UndefinedInstructionRule.apply.Goals as goal

pub returns-then-not-are_within : goal.returns-then-not-are_within
returns-then-not-are_within c =
    beyond_range UNDEFINED_INSTRUCTION _ _ refl c.requires c.told-block c.are_within.ensures c.if-not-are_within.true

pub returns-then-general_to_hyp : goal.returns-then-general_to_hyp
returns-then-general_to_hyp c =
    let here = in_range {code = UNDEFINED_INSTRUCTION} refl c.requires c.told-block c.are_within.ensures c.if-not-are_within.false in
    let pc = c.get_word-pc in
    on_its_way here (as_read c.get_word.ensures pc.ensures pc.type_inv)
    (sym c.hyp_entry.ensures
    ∙ undefined_to_hyp _ _ _ _ _ pc.type_inv (told c.general_to_hyp.ensures c.if-general_to_hyp.true))
    c.send.ensures

pub returns : goal.returns
returns c =
    let here = in_range {code = UNDEFINED_INSTRUCTION} refl c.requires c.told-block c.are_within.ensures c.if-not-are_within.false in
    let pc = c.get_word-pc in
    on_its_way here (as_read c.get_word.ensures pc.ensures pc.type_inv)
    (ap (Enter modes.UNDEFINED UNDEFINED) (added _ c.narrow_of.ensures)
    ∙ undefined_to_own _ _ _ _ _ pc.type_inv (told c.general_to_hyp.ensures c.if-general_to_hyp.false))
    c.send-2.ensures
