-- Each turn puts the line of one word less, if its count is not 0.
use Rattle.count_lines.proofs.Lining.{lined_none, lined_room, lined_next, lined_same, lined_all}
use Rattle.count_lines.proofs.lines_of.Goals as goal

pub loop-w-init : goal.loop-w-init
loop-w-init c = lined_none _ _ c.new-text.ensures

pub push_line-requires : goal.push_line-requires
push_line-requires c = lined_room _ _ _ c.loop-w.invariant c.loop-w-test.true _

pub loop-w-preserved-then-count-ne0 : goal.loop-w-preserved-then-count-ne0
loop-w-preserved-then-count-ne0 c =
    lined_next _ _ _ c.loop-w.invariant c.loop-w-test.true _ c.get_word-count.ensures c.if-count-ne0.true _ c.push_line.ensures

pub loop-w-preserved : goal.loop-w-preserved
loop-w-preserved c = lined_same _ _ _ c.loop-w.invariant c.loop-w-test.true _ c.get_word-count.ensures c.if-count-ne0.false

pub returns : goal.returns
returns c = lined_all _ _ _ c.loop-w.invariant c.loop-w-test.false
