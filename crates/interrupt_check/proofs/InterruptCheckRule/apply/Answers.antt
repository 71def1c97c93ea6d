-- The operands, and then what was found.
use Rattle.interrupt_check.proofs.Interrupting.{check_malformed, check_takes, check_quiet}
use Rattle.state.proofs.Test.{told}
use Rattle.interrupt_check.proofs.InterruptCheckRule.apply.Goals as goal

pub returns-then-not-are_within : goal.returns-then-not-are_within
returns-then-not-are_within c =
    check_malformed _ _ _ c.told-block c.requires.1 (told c.are_within.ensures c.if-not-are_within.true)

pub returns-in-Some : goal.returns-in-Some
returns-in-Some c =
    let p = c.requires in
    let well_formed = told c.are_within.ensures c.if-not-are_within.false in
    check_takes _ _ _ c.told-block p.1 well_formed p.0.0 p.0.1 c.get_word-hcr.ensures _ c.in-Some.ensures c.take_found.ensures

pub returns-in-None : goal.returns-in-None
returns-in-None c =
    let p = c.requires in
    let well_formed = told c.are_within.ensures c.if-not-are_within.false in
    check_quiet _ _ _ c.told-block p.1 well_formed p.0.0 p.0.1 c.get_word-hcr.ensures c.in-None.ensures
