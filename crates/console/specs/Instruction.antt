-- What C gets of instruction words (document 02, No. 14): the number is returned, and the parts, code, A, condition and register, are
-- written little-endian into a buffer of 16 bytes, a word into one of 4. A buffer of another size is BAD-SIZE and is left alone.
use Rattle.std.specs.Prelude.{List, ◌++◌, ℕ, length, if◌then◌else◌}
use Rattle.words.specs.Word.{le32}
use Rattle.state.specs.Choice.{◌is◌}
use Rattle.state.specs.Number.{BAD_SIZE}
use Rattle.instruction.specs.Instruction.{reading, read_number, writing, write_number}
use Rattle.instruction.specs.declared.Parts.{Parts}

abbrev pub parts_size : ℕ
parts_size = 16

abbrev pub word_size : ℕ
word_size = 4

abbrev pub parts_bytes : Parts → List ℕ
parts_bytes p = le32 p.code ++ (le32 p.a ++ (le32 p.condition ++ le32 p.register))

unfoldable pub read_returns : ℕ → List ℕ → ℕ
read_returns word buffer = if length buffer is parts_size then read_number word else BAD_SIZE

unfoldable pub read_leaves : ℕ → List ℕ → List ℕ
read_leaves word buffer = if length buffer is parts_size then parts_bytes (reading word) else buffer

unfoldable pub write_returns : Parts → List ℕ → ℕ
write_returns p buffer = if length buffer is word_size then write_number p else BAD_SIZE

unfoldable pub write_leaves : Parts → List ℕ → List ℕ
write_leaves p buffer = if length buffer is word_size then le32 (writing p) else buffer
