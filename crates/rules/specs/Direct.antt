-- A direct step (document 02, No. 13): one that C asks for by itself, or in a batch, or that the recorder makes. It is the machine's
-- step of the event as a direct step knows it.
use Rattle.std.specs.Prelude.{List, ℕ}
use Rattle.rules.specs.Event.{Event}
use Rattle.rules.specs.Known.{direct}
use Rattle.rules.specs.Run.{run_by, answers_by}
use Rattle.rules.specs.Step.{answer, after}
use Rattle.rules.specs.Verdict.{Answer}

abbrev pub direct_answer : List ℕ → Event → Answer
direct_answer b e = answer b (direct e)

abbrev pub direct_after : List ℕ → Event → List ℕ
direct_after b e = after b (direct e)

-- direct steps in order
abbrev pub direct_run : List ℕ → List Event → List ℕ
direct_run = run_by direct_after

abbrev pub direct_answers : List ℕ → List Event → List Answer
direct_answers = answers_by direct_answer direct_after
