-- The digits of the number are those of its tenth, and the last one: each turn puts the last one of what is left.
use borrow.Author.Rules.{rules}
use Rattle.count_lines.proofs.Pushing.{written_none, written_room, written_next, written_last}
use Rattle.count_lines.proofs.text.Text.push_decimal.Goals as goal

pub loop-rest-init : goal.loop-rest-init
loop-rest-init c = written_none _ _ (search rules)

pub push-requires : goal.push-requires
push-requires c = written_room _ _ _ _ c.loop-rest.invariant c.requires

pub loop-rest-preserved : goal.loop-rest-preserved
loop-rest-preserved c = written_next _ _ _ _ c.loop-rest.invariant c.loop-rest-test.true _ c.push.ensures

pub push-requires-2 : goal.push-requires-2
push-requires-2 c = written_room _ _ _ _ c.loop-rest.invariant c.requires

pub returns : goal.returns
returns c = written_last _ _ _ _ c.loop-rest.invariant c.loop-rest-test.false _ c.push-2.ensures
