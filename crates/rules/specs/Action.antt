-- What an event comes to on a block.
use Rattle.std.specs.Prelude.{ℕ}
use Rattle.interrupts.specs.declared.exception.Exception.{Exception}

-- it is refused, with this number; an exception is taken to a mode, at an offset, with this return address; an interrupt
-- check of these lines takes nothing; the register at this place is read; this place gets this word; CPSR and PC get these
-- words by a return
pub data Action : Type 0 where
  Refuse : ℕ → Action
  Take : Exception → ℕ → ℕ → ℕ → Action
  Quiet : ℕ → Action
  Read : ℕ → Action
  Put : ℕ → ℕ → Action
  Return : ℕ → ℕ → Action
