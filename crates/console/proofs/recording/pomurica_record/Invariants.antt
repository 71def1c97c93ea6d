-- The turns go by the buffer that they find, in which the Start stands: it holds the trace as far as it has come.
use Rattle.records.specs.Layout.{new_layout}
use Rattle.records.proofs.Lawfuls.{lawful_new}
use Rattle.recorder.proofs.Reached.{Reached}
use Rattle.console.proofs.recording.pomurica_record.Given as goal

abbrev pub invariant-loop-i : goal.invariant-loop-i
invariant-loop-i l = Reached new_layout lawful_new l.block l.events l.initial.buffer l.offset l.buffer l.i
