-- The counts as lines (document 02, No. 1): "one line per non-zero count: the group 1 to 4, the number within it, the count,
-- in decimal, with single spaces between; groups in the order just given, numbers rising within each".
use Rattle.std.specs.Prelude.{Result, Ok, Err, not, List, [], ◌∷◌, ◌++◌, ℕ, zero, suc, ◌+◌, ◌/◌, ◌%◌, length, drop, ltb, if◌then◌else◌}
use Rattle.words.specs.Word.{word}
use Rattle.state.specs.Choice.{◌is◌}
use Rattle.state.specs.Number.{DONE, BAD_SIZE, NO_ROOM}
use Rattle.state.specs.Refusal as refusal
use Rattle.state.specs.declared.refusal.Refusal.{Refusal}
use Rattle.counts.specs.Counts.{GROUP_SIZE, WORDS, COUNTS_SIZE}

-- ---- letters

abbrev pub LINE_END : ℕ
LINE_END = 10

abbrev pub SPACE : ℕ
SPACE = 32

abbrev pub ZERO : ℕ
ZERO = 48

-- ---- a number in decimal: the digits of its tenth, and its last one

-- of a number of at most so many digits
unfoldable pub digits : (most n : ℕ) → List ℕ
digits zero n = []
digits (suc most) n = if ltb n 10 then (ZERO + n) ∷ [] else digits most (n / 10) ++ ((ZERO + n % 10) ∷ [])

-- a word has at most ten
abbrev pub decimal : ℕ → List ℕ
decimal n = digits 10 n

-- ---- lines

-- a number and the byte behind it
abbrev pub field : ℕ → ℕ → List ℕ
field n mark = decimal n ++ (mark ∷ [])

abbrev pub line : (group number count : ℕ) → List ℕ
line group number count = field group SPACE ++ (field number SPACE ++ field count LINE_END)

-- of the word w of the counts, if it is not 0
unfoldable pub line_of : List ℕ → ℕ → List ℕ
line_of counts w = if word counts w is 0 then [] else line (w / GROUP_SIZE + 1) (w % GROUP_SIZE) (word counts w)

-- of m words from w on
unfoldable pub lines_from : (m w : ℕ) → List ℕ → List ℕ
lines_from zero w counts = []
lines_from (suc m) w counts = line_of counts w ++ lines_from m (w + 1) counts

abbrev pub lines : List ℕ → List ℕ
lines counts = lines_from WORDS 0 counts

-- ---- into a lent room

-- what came of it: the number, and how many bytes were written
pub record Written : Type 0 where
  pub number : ℕ
  pub size : ℕ

-- the same of the code's answer
abbrev pub written : Result ℕ Refusal → Written
written (Ok size) = record { number = DONE; size = size }
written (Err r) = record { number = refusal.number r; size = 0 }

-- the number, and how many bytes were written
unfoldable pub lines_return : List ℕ → List ℕ → Written
lines_return counts room =
    if not (length counts is COUNTS_SIZE) then record { number = BAD_SIZE; size = 0 } else
    if ltb (length room) (length (lines counts)) then record { number = NO_ROOM; size = 0 } else
    record { number = DONE; size = length (lines counts) }

-- the first bytes of the room are the lines, the others as they were; a refusal leaves them all
unfoldable pub lines_leave : List ℕ → List ℕ → List ℕ
lines_leave counts room =
    if (lines_return counts room).number is DONE then lines counts ++ drop (length (lines counts)) room else
    room
