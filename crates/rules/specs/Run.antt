-- Events in order, from a block on: the block after them, and what each of them answers. A list has the answers of single
-- steps done one after another; a refused one leaves the block as it was, and the rest go on.
use Rattle.std.specs.Prelude.{List, [], ◌∷◌, ℕ}
use Rattle.rules.specs.Event.{Event}
use Rattle.rules.specs.Step.{answer, after}
use Rattle.rules.specs.Verdict.{Answer}

-- by any rule for the block after one event
unfoldable pub run_by : (List ℕ → Event → List ℕ) → List ℕ → List Event → List ℕ
run_by next b [] = b
run_by next b (e ∷ es) = run_by next (next b e) es

-- and by any rule for its answer
unfoldable pub answers_by : (List ℕ → Event → Answer) → (List ℕ → Event → List ℕ) → List ℕ → List Event → List Answer
answers_by says next b [] = []
answers_by says next b (e ∷ es) = says b e ∷ answers_by says next (next b e) es

-- by the rules of the step
abbrev pub run : List ℕ → List Event → List ℕ
run = run_by after

abbrev pub answers : List ℕ → List Event → List Answer
answers = answers_by answer after
