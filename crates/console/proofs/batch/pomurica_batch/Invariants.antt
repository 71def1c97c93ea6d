-- The events passed have their answers in front of the list, and the block is the one after them.
use Rattle.console.proofs.Batching.{Reached}
use Rattle.console.proofs.batch.pomurica_batch.Given as goal

abbrev pub invariant-loop-i : goal.invariant-loop-i
invariant-loop-i l = Reached l.events l.initial.block l.answers l.block l.i
