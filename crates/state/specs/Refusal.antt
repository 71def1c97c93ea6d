-- The answer number of each refusal, and of what is not refused (document 01, "Answer numbers").
use Rattle.std.specs.Prelude.{ℕ, Result, Ok, Err}
use Rattle.state.specs.Number as numbers
pub use Rattle.state.specs.declared.refusal.Refusal.{Refusal}
pub use Rattle.state.specs.declared.refusal.Refusal.TheVariants.{BadSize, BadMode, BadState, BadEvent, NotHere, NoRegister, NoRight}
pub use Rattle.state.specs.declared.refusal.Refusal.TheVariants.{Short, BadRecord, BadCount, WrongStep, Trailing}
pub use Rattle.state.specs.declared.refusal.Refusal.TheVariants.{Full, Closed, NoRoom, Disabled, OwnRegister, NotBanked}

abbrev pub number : Refusal → ℕ
number BadSize = numbers.BAD_SIZE
number BadMode = numbers.BAD_MODE
number BadState = numbers.BAD_STATE
number BadEvent = numbers.BAD_EVENT
number NotHere = numbers.NOT_HERE
number NoRegister = numbers.NO_REGISTER
number NoRight = numbers.NO_RIGHT
number Short = numbers.SHORT
number BadRecord = numbers.BAD_RECORD
number BadCount = numbers.BAD_COUNT
number WrongStep = numbers.WRONG_STEP
number Trailing = numbers.TRAILING
number Full = numbers.FULL
number Closed = numbers.CLOSED
number NoRoom = numbers.NO_ROOM
number Disabled = numbers.DISABLED
number OwnRegister = numbers.OWN_REGISTER
number NotBanked = numbers.NOT_BANKED

-- what is answered of an outcome
abbrev pub number_of : Result Unit Refusal → ℕ
number_of (Ok x) = numbers.DONE
number_of (Err r) = number r
