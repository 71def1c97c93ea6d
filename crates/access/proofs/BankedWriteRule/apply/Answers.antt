-- The operands, whether the register may be reached, and then the access itself.
use Rattle.std.proofs.lemmas.Result.{err_from_is_err_and}
use Rattle.access.proofs.Access.{write_malformed, write_refused, write_done}
use Rattle.access.proofs.BankedWriteRule.apply.Goals as goal

pub returns-then-operands-ge-CELL_VALUES : goal.returns-then-operands-ge-CELL_VALUES
returns-then-operands-ge-CELL_VALUES c =
    let p = c.requires in
    write_malformed _ _ _ p.0.0 p.0.1 c.told-block p.1 c.if-operands-ge-CELL_VALUES.true

pub returns-in_err-p : goal.returns-in_err-p
returns-in_err-p c =
    let p = c.requires in
    let e = err_from_is_err_and c.from_residual.result c.from_residual.ensures.1 in
    rw (e.1, e.2) (write_refused _ _ _ p.0.0 p.0.1 c.told-block p.1 c.if-operands-ge-CELL_VALUES.false _ c.in_err-p.ensures)

pub returns : goal.returns
returns c =
    let p = c.requires in
    write_done _ _ _ p.0.0 p.0.1 c.told-block p.1 c.if-operands-ge-CELL_VALUES.false _ c.in_ok-p.ensures c.put_word.ensures
