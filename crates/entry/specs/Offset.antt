-- The offsets of the vector table (document 01, "Routing").
use Rattle.std.specs.Prelude.{ℕ}

abbrev pub UNDEFINED : ℕ
UNDEFINED = 0x04

abbrev pub MONITOR_TRAP : ℕ
MONITOR_TRAP = 0x04

abbrev pub CALL : ℕ
CALL = 0x08

abbrev pub PREFETCH_ABORT : ℕ
PREFETCH_ABORT = 0x0C

abbrev pub DATA_ABORT : ℕ
DATA_ABORT = 0x10

abbrev pub SERROR : ℕ
SERROR = 0x10

abbrev pub HYP_TRAP : ℕ
HYP_TRAP = 0x14

abbrev pub IRQ : ℕ
IRQ = 0x18

abbrev pub FIQ : ℕ
FIQ = 0x1C
