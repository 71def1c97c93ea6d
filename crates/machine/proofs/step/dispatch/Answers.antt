-- A fault refuses any event, and so does a code that is no arm's.
use borrow.Author.Rules.{rules}
use Rattle.rules.proofs.Deciding.{event}
use Rattle.machine.proofs.Stepping.{refused_by_fault, refused_by_code}
use Rattle.machine.proofs.step.dispatch.Goals as goal

pub returns-in-Err : goal.returns-in-Err
returns-in-Err g c =
    refused_by_fault _ c.told-block c.get_word.ensures c.get_word-2.ensures c.get_word-3.ensures
    (event c.args.code c.args.operands.a c.args.operands.b) c.in-Err.fault c.in-Err.ensures c.tell.ensures

pub returns-in_default-code : goal.returns-in_default-code
returns-in_default-code g c =
    refused_by_code _ c.told-block c.get_word.ensures c.get_word-2.ensures c.get_word-3.ensures
    c.in_default.ensures c.args.code c.args.operands.a c.args.operands.b (search rules) c.tell-in_default-code.ensures
