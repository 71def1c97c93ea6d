-- The verdict of a done step and the answer that tells it (document 01, "Answer numbers"): for every case the paper's
-- number and value.
use Rattle.std.specs.Prelude.{ℕ, ◌+◌, ◌*◌}
use Rattle.state.specs.Number.{DONE}
use Rattle.interrupts.specs.Exception.{which}
use Rattle.interrupts.specs.declared.exception.Exception.{Exception}
pub use Rattle.rules.specs.declared.verdict.Answer.{Answer}
pub use Rattle.rules.specs.declared.verdict.Verdict.{Verdict}
pub use Rattle.rules.specs.declared.verdict.Verdict.TheVariants.{Entry, NothingTaken, Register, Written, Returned}

-- "entry: which·65536 + mode·256 + offset, with which 0 for codes 1-8; nothing taken: 0; a read: the word; a write or
-- note: 0"; "A done return has value 0" (document 02, No. 9)
unfoldable pub value : Verdict → ℕ
value (Entry x mode offset) = which x * 65536 + mode.number * 256 + offset
value (NothingTaken lines) = 0
value (Register w) = w
value (Written w) = 0
value (Returned pc) = 0

-- an entry to the mode of this number
abbrev pub entry_to : Exception → ℕ → ℕ → Verdict
entry_to x to offset = Entry x (record { number = to }) offset

-- a done step
abbrev pub answer_for : Verdict → Answer
answer_for v = record { number = DONE; value = value v }

-- "A refused step: number, value 0"
abbrev pub refused_with : ℕ → Answer
refused_with n = record { number = n; value = 0 }
