-- The operands, whether the register may be reached, and then the access itself.
use Rattle.std.proofs.lemmas.Result.{err_from_is_err_and}
use Rattle.access.proofs.Access.{read_malformed, read_refused, read_done}
use Rattle.state.proofs.Test.{told}
use Rattle.access.proofs.BankedReadRule.apply.Goals as goal

pub returns-then-not-are_within : goal.returns-then-not-are_within
returns-then-not-are_within c =
    let p = c.requires in
    read_malformed _ _ _ p.0.0 p.0.1 c.told-block p.1 (told c.are_within.ensures c.if-not-are_within.true)

pub returns-in_err-p : goal.returns-in_err-p
returns-in_err-p c =
    let p = c.requires in
    let well_formed = told c.are_within.ensures c.if-not-are_within.false in
    let e = err_from_is_err_and c.from_residual.result c.from_residual.ensures.1 in
    rw (e.1, e.2) (read_refused _ _ _ p.0.0 p.0.1 c.told-block p.1 well_formed _ c.in_err-p.ensures)

pub returns : goal.returns
returns c =
    let p = c.requires in
    let well_formed = told c.are_within.ensures c.if-not-are_within.false in
    read_done _ _ _ p.0.0 p.0.1 c.told-block p.1 well_formed _ _ c.in_ok-p.ensures c.get_word.ensures
