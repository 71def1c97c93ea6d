-- So many Steps were counted.
use Rattle.records.specs.Which.{its}
use Rattle.counts.proofs.Tallying.{Passed}
use Rattle.counts.proofs.tally.count_steps.Given as goal

abbrev pub invariant-loop-k : goal.invariant-loop-k
invariant-loop-k l = Passed (its l.fn.layout) l.trace l.steps l.gains l.k
