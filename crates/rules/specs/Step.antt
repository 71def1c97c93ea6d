-- One step: what an event comes to on a block, what is answered, and the block after it.
use Rattle.std.specs.Prelude.{Option, None, Some, Bool, ◌&&◌, List, ◌++◌, ℕ, length, if◌then◌else◌}
use Rattle.words.specs.Word.{le32, word, put}
use Rattle.state.specs.Choice.{◌is◌}
use Rattle.state.specs.Field.{without}
use Rattle.state.specs.Number.{DONE, BAD_SIZE}
use Rattle.state.specs.Place.{BLOCK_SIZE, CPSR, PC, SCR, HCR, HDCR}
use Rattle.entry.specs.Enter.{entered}
use Rattle.entry.specs.Route as synchronous
use Rattle.entry.specs.Way.{Way, Barred, Enter}
use Rattle.interrupts.specs.Check as interrupt
use Rattle.interrupts.specs.declared.exception.Exception.{Exception}
use Rattle.interrupts.specs.declared.exception.Exception.TheVariants.{Synchronous, SError, Fiq, Irq}
use Rattle.interrupts.specs.declared.exception.Exception.TheVariants.{VirtualSError, VirtualFiq, VirtualIrq}
use Rattle.banked.specs.Cell.{cell}
use Rattle.returns.specs.Return.{cpsr_returned, pc_returned}
use Rattle.rules.specs.Event.{Event, INTERRUPT_CHECK, BANKED_READ, BANKED_WRITE, NOTE, RETURN}
use Rattle.rules.specs.Refusal.{refusal}
use Rattle.rules.specs.Verdict.{Answer, NothingTaken, Register, Written, Returned, entry_to, answer_for, refused_with}
pub use Rattle.rules.specs.Action.{Action, Refuse, Take, Quiet, Read, Put, Return}

-- the bytes of an answer buffer
abbrev pub ANSWER_SIZE : ℕ
ANSWER_SIZE = 8

-- an exception that goes its way, or is refused by what bars it
abbrev pub taken_by : Exception → Way → Action
taken_by x (Barred n) = Refuse n
taken_by x (Enter to offset link) = Take x to offset link

-- an interrupt check of these lines, by what it finds
abbrev pub checked : ℕ → ℕ → ℕ → ℕ → ℕ → Option Exception → Action
checked lines cpsr scr hcr pc None = Quiet lines
checked lines cpsr scr hcr pc (Some x) = taken_by x (interrupt.way x cpsr scr hcr pc)

-- by the words of a block: the A that an event is routed by, where an event or an interrupt goes, what a check of these lines finds,
-- and what it comes to
abbrev pub routed_in : List ℕ → ℕ → ℕ → ℕ
routed_in b code a = synchronous.routed_a code a (word b CPSR) (word b SCR) (word b HDCR)

abbrev pub event_way : List ℕ → ℕ → ℕ → Way
event_way b code a = synchronous.way code (routed_in b code a) (word b CPSR) (word b SCR) (word b HCR) (word b PC)

abbrev pub interrupt_way : List ℕ → Exception → Way
interrupt_way b x = interrupt.way x (word b CPSR) (word b SCR) (word b HCR) (word b PC)

abbrev pub found_in : List ℕ → ℕ → Option Exception
found_in b lines = interrupt.found lines (word b CPSR) (word b SCR) (word b HCR)

abbrev pub checked_in : List ℕ → ℕ → Option Exception → Action
checked_in b lines = checked lines (word b CPSR) (word b SCR) (word b HCR) (word b PC)

-- a return that takes A off its address
abbrev pub returned : List ℕ → ℕ → Action
returned b a = Return (cpsr_returned b) (pc_returned b a)

-- the rules of a done step, by its code
unfoldable pub done_action : List ℕ → Event → Action
done_action b e =
    if e.code is INTERRUPT_CHECK then checked_in b e.a (found_in b e.a) else
    if e.code is BANKED_READ then Read (cell e.a) else
    if e.code is BANKED_WRITE then Put (cell e.a) e.b else
    if e.code is NOTE then Put e.a e.b else
    if e.code is RETURN then returned b e.a else
    taken_by Synchronous (event_way b e.code e.a)

-- what an event comes to: the refusals first
unfoldable pub action : List ℕ → Event → Action
action b e = if refusal b e is DONE then done_action b e else Refuse (refusal b e)

-- "Taking virtual SError clears HCR.VA; VF and VI stay"
abbrev pub va_cleared : List ℕ → Exception → List ℕ
va_cleared b Synchronous = b
va_cleared b SError = b
va_cleared b Fiq = b
va_cleared b Irq = b
va_cleared b VirtualSError = put b HCR (without 8 (word b HCR))
va_cleared b VirtualFiq = b
va_cleared b VirtualIrq = b

-- the answer to each action
abbrev pub answer_to : List ℕ → Action → Answer
answer_to b (Refuse n) = refused_with n
answer_to b (Take x to offset link) = answer_for (entry_to x to offset)
answer_to b (Quiet lines) = answer_for (NothingTaken lines)
answer_to b (Read p) = answer_for (Register (word b p))
answer_to b (Put p w) = answer_for (Written w)
answer_to b (Return cpsr pc) = answer_for (Returned pc)

-- the block after each
abbrev pub block_after : List ℕ → Action → List ℕ
block_after b (Refuse n) = b
block_after b (Take x to offset link) = entered (va_cleared b x) to offset link
block_after b (Quiet lines) = b
block_after b (Read p) = b
block_after b (Put p w) = put b p w
block_after b (Return cpsr pc) = put (put b CPSR cpsr) PC pc

-- one step
unfoldable pub answer : List ℕ → Event → Answer
answer b e = answer_to b (action b e)

unfoldable pub after : List ℕ → Event → List ℕ
after b e = block_after b (action b e)

-- an answer in a buffer: number and value, four bytes each
abbrev pub answer_bytes : Answer → List ℕ
answer_bytes r = le32 r.number ++ le32 r.value

-- the same over an answer buffer: "BAD_SIZE: block not 180 bytes, or answer buffer not 8", and then neither buffer changes
abbrev pub sized : List ℕ → List ℕ → Bool
sized b buffer = length b is BLOCK_SIZE && length buffer is ANSWER_SIZE

unfoldable pub number_returned : List ℕ → Event → List ℕ → ℕ
number_returned b e buffer = if sized b buffer then (answer b e).number else BAD_SIZE

unfoldable pub block_left : List ℕ → Event → List ℕ → List ℕ
block_left b e buffer = if sized b buffer then after b e else b

unfoldable pub answer_left : List ℕ → Event → List ℕ → List ℕ
answer_left b e buffer = if sized b buffer then answer_bytes (answer b e) else buffer
