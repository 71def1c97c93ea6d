-- Below the place reached stand the sums, from it on the words as they were.
use borrow.Author.Rules.{rules}
use Rattle.counts.proofs.Adding.{added_none, added_next, added_all}
use Rattle.counts.proofs.totals.add.Goals as goal

pub loop-p-init : goal.loop-p-init
loop-p-init c = added_none _ c.args.gains.now (search rules) (search rules)

pub loop-p-preserved : goal.loop-p-preserved
loop-p-preserved c =
    added_next _ _ _ _ c.loop-p-test.true c.requires c.loop-p.invariant _ _ c.get_word.ensures c.get_word-in-loop-p.ensures
    _ c.put_word.ensures

pub returns : goal.returns
returns c = added_all _ _ _ _ c.loop-p-test.false c.loop-p.invariant
