-- What the functions that tell C a number, and words in a lent buffer, are proved by: each one's definitions, to be opened, and its lemmas.
use Rattle.std.specs.Prelude.{⊤, not, if◌then◌else◌}
use mathlib.Core.Bool.{Bool, true, false}
use mathlib.Core.List.{List}
use Prim.Native.Nat.{ℕ, ◌^◌, ◌<◌}
use native.Mathlib.Omega.{arith}
use lib.ListN.{length}
use lib.Dec.{ltb}
use Rattle.state.specs.Choice.{◌is◌}
use Rattle.state.specs.Number.{DONE, BAD_SIZE, NO_ROOM}
use Rattle.counts.specs.Counts.{WORDS, COUNTS_SIZE}
use Rattle.count_lines.specs.Lines.{Written, lines, lines_return}
use Rattle.count_lines.proofs.Lining.{lines_few}
use Rattle.instruction.proofs.Theorems.{read_number_is, reading_is, write_number_is, writing_is}
use Rattle.console.specs.Count.{text_returns, text_leaves, text_answers}
use Rattle.console.specs.Instruction.{read_returns, read_leaves, write_returns, write_leaves}
use Rattle.console.specs.Session.{close_returns, close_keeps, close_leaves}
use Rattle.console.proofs.Filled.{filled_one}

-- ---- the report of a session that is closed

unfoldable pub closing : ⊤
unfolding close_returns close_keeps close_leaves
closing = tt

-- ---- instruction words

unfoldable pub reading : ⊤
unfolding read_returns read_leaves
reading = tt

pub ruleset of_reading = (read_number_is, reading_is)

unfoldable pub writing : ⊤
unfolding write_returns write_leaves
writing = tt

pub ruleset of_writing = (write_number_is, writing_is, filled_one)

-- ---- the lines of counts

-- they are a word of bytes, since each of them has at most sixteen
pub size_small : (counts room : List ℕ) → (lines_return counts room).size < 2 ^ 32
unfolding lines_return
size_small counts room = by (length counts is COUNTS_SIZE) (ltb (length room) (length (lines counts)))
  where
    by : (t u : Bool) → let told : Written =
        if not t then record { number = BAD_SIZE; size = 0 } else
        if u then record { number = NO_ROOM; size = 0 } else
        record { number = DONE; size = length (lines counts) } in
        told.size < 2 ^ 32
    by false u = omega arith
    by true true = omega arith
    by true false = omega (arith, lines_few WORDS 0 counts (omega arith))

unfoldable pub lining : ⊤
unfolding text_returns text_leaves text_answers
lining = tt
