-- The words from w on have their lines in the text.
use Rattle.count_lines.proofs.Lining.{Lined}
use Rattle.count_lines.proofs.lines_of.Given as goal

abbrev pub invariant-loop-w : goal.invariant-loop-w
invariant-loop-w l = Lined l.counts l.text l.w
