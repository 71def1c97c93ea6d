-- By what was judged.
use Rattle.std.proofs.lemmas.Result.{err_from_is_err_and}
use Rattle.access.proofs.Noting.{put_refused, put_done}
use Rattle.access.proofs.put_if.Goals as goal

pub returns-in_err-judged : goal.returns-in_err-judged
returns-in_err-judged c =
    let e = err_from_is_err_and c.from_residual.result c.from_residual.ensures.1 in
    rw (e.1, e.2) (put_refused _ _ _ _ c.in_err-judged.was)

pub returns : goal.returns
returns c = put_done _ _ _ c.in_ok-judged.was c.put_word.ensures
