-- What C gets of the counts' lines: the number is returned, and number and size, how many bytes were written, stand
-- little-endian in an answer buffer of 8 bytes. Any other answer buffer, and counts that have not their size, are BAD-SIZE and
-- leave everything.
use Rattle.std.specs.Prelude.{List, ◌++◌, ℕ, length, if◌then◌else◌}
use Rattle.words.specs.Word.{le32}
use Rattle.state.specs.Choice.{◌is◌}
use Rattle.state.specs.Number.{BAD_SIZE}
use Rattle.rules.specs.Step.{ANSWER_SIZE}
use Rattle.count_lines.specs.Lines.{Written, lines_return, lines_leave}

abbrev pub written_bytes : Written → List ℕ
written_bytes v = le32 v.number ++ le32 v.size

unfoldable pub text_returns : List ℕ → List ℕ → List ℕ → ℕ
text_returns counts room answer = if length answer is ANSWER_SIZE then (lines_return counts room).number else BAD_SIZE

unfoldable pub text_leaves : List ℕ → List ℕ → List ℕ → List ℕ
text_leaves counts room answer = if length answer is ANSWER_SIZE then lines_leave counts room else room

unfoldable pub text_answers : List ℕ → List ℕ → List ℕ → List ℕ
text_answers counts room answer =
    if text_returns counts room answer is BAD_SIZE then answer else written_bytes (lines_return counts room)
