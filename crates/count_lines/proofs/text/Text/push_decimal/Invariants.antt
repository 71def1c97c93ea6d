-- The last digits of the number are put, and its first ones are those of what is left.
use Rattle.count_lines.proofs.Pushing.{Written}
use Rattle.count_lines.proofs.text.Text.push_decimal.Given as goal

abbrev pub invariant-loop-rest : goal.invariant-loop-rest
invariant-loop-rest l = Written l.initial.self l.number l.self l.rest

abbrev pub decreases-loop-rest : goal.decreases-loop-rest
decreases-loop-rest l = l.rest
