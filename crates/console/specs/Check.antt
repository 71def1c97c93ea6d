-- What C gets of the checker (document 01, "The trace"): the number is returned, and the report's three words, number,
-- place and Steps, are written little-endian into a buffer of 12 bytes. Any other buffer is BAD-SIZE and is left alone.
use Rattle.std.specs.Prelude.{List, ◌++◌, ℕ, length, if◌then◌else◌}
use Rattle.words.specs.Word.{le32}
use Rattle.state.specs.Choice.{◌is◌}
use Rattle.state.specs.Number.{BAD_SIZE}
use Rattle.records.specs.declared.report.Report.{Report}
use Rattle.records.specs.Either.{report_of}

abbrev pub report_size : ℕ
report_size = 12

abbrev pub report_bytes : Report → List ℕ
report_bytes v = le32 v.number ++ (le32 v.place ++ le32 v.steps)

unfoldable pub check_returns : List ℕ → List ℕ → ℕ
check_returns trace buffer = if length buffer is report_size then (report_of trace).number else BAD_SIZE

unfoldable pub check_leaves : List ℕ → List ℕ → List ℕ
check_leaves trace buffer = if length buffer is report_size then report_bytes (report_of trace) else buffer
