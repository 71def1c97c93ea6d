-- Below the place reached stand the sums.
use Rattle.counts.proofs.Adding.{Added}
use Rattle.counts.proofs.totals.add.Given as goal

abbrev pub invariant-loop-p : goal.invariant-loop-p
invariant-loop-p l = Added l.initial.counts l.gains l.counts l.p
