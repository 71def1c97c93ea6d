-- What C gets of an explanation: the number is returned, and its six words, number, place, Steps, part, found and due, are
-- written little-endian into a buffer of 24 bytes. Any other buffer is BAD-SIZE and is left alone.
use Rattle.std.specs.Prelude.{List, ◌++◌, ℕ, length, if◌then◌else◌}
use Rattle.words.specs.Word.{le32}
use Rattle.state.specs.Choice.{◌is◌}
use Rattle.state.specs.Number.{BAD_SIZE}
use Rattle.explain.specs.declared.Explanation.{Explanation}
use Rattle.explain.specs.Either.{explanation_of}

abbrev pub explanation_size : ℕ
explanation_size = 24

abbrev pub explanation_bytes : Explanation → List ℕ
explanation_bytes x =
    le32 x.number
    ++ (le32 x.place ++ (le32 x.steps ++ (le32 x.part ++ (le32 x.found ++ le32 x.due))))

unfoldable pub explain_returns : List ℕ → List ℕ → ℕ
explain_returns trace buffer = if length buffer is explanation_size then (explanation_of trace).number else BAD_SIZE

unfoldable pub explain_leaves : List ℕ → List ℕ → List ℕ
explain_leaves trace buffer = if length buffer is explanation_size then explanation_bytes (explanation_of trace) else buffer
