-- The codes of the events and the bits of an abort's A (document 01, "Events"). A code has its number here, and its place in
-- the list of the synchronous ones or of the others: all that asks which codes there are goes by these lists.
use Rattle.std.specs.Prelude.{ℕ, Bool, List, [], ◌∷◌, ◌++◌}
use Rattle.state.specs.Choice.{◌among◌}
use Rattle.state.specs.Field.{bit}

abbrev pub UNDEFINED_INSTRUCTION : ℕ
UNDEFINED_INSTRUCTION = 1

abbrev pub SVC : ℕ
SVC = 2

abbrev pub SMC : ℕ
SMC = 3

abbrev pub HVC : ℕ
HVC = 4

abbrev pub PREFETCH_ABORT : ℕ
PREFETCH_ABORT = 5

abbrev pub DATA_ABORT : ℕ
DATA_ABORT = 6

abbrev pub HYP_TRAP : ℕ
HYP_TRAP = 7

abbrev pub MONITOR_TRAP : ℕ
MONITOR_TRAP = 8

abbrev pub INTERRUPT_CHECK : ℕ
INTERRUPT_CHECK = 9

abbrev pub BANKED_READ : ℕ
BANKED_READ = 10

abbrev pub BANKED_WRITE : ℕ
BANKED_WRITE = 11

abbrev pub NOTE : ℕ
NOTE = 12

-- (document 02, No. 9)
abbrev pub RETURN : ℕ
RETURN = 13

abbrev pub synchronous_codes : List ℕ
synchronous_codes =
    UNDEFINED_INSTRUCTION ∷ SVC ∷ SMC ∷ HVC ∷ PREFETCH_ABORT ∷ DATA_ABORT ∷ HYP_TRAP ∷ MONITOR_TRAP ∷ []

abbrev pub other_codes : List ℕ
other_codes = INTERRUPT_CHECK ∷ BANKED_READ ∷ BANKED_WRITE ∷ NOTE ∷ RETURN ∷ []

-- the codes of the table
abbrev pub codes : List ℕ
codes = synchronous_codes ++ other_codes

abbrev pub is_known : ℕ → Bool
is_known code = code among codes

abbrev pub is_synchronous : ℕ → Bool
is_synchronous code = code among synchronous_codes

-- "Prefetch Abort, synchronous Data Abort"
abbrev pub is_abort : ℕ → Bool
is_abort code = code among (PREFETCH_ABORT ∷ DATA_ABORT ∷ [])

-- "any of codes 1, 2, 5, 6": those that have a mode of their own to go to
abbrev pub is_general : ℕ → Bool
is_general code = code among (UNDEFINED_INSTRUCTION ∷ SVC ∷ PREFETCH_ABORT ∷ DATA_ABORT ∷ [])

-- "A: 1 external + 2 stage 2", and "Prefetch Abort's A gains 4, debug" (document 02, No. 11)
abbrev pub external : ℕ → Bool
external = bit 0

abbrev pub stage2 : ℕ → Bool
stage2 = bit 1

abbrev pub debug : ℕ → Bool
debug = bit 2

abbrev pub STAGE_2 : ℕ
STAGE_2 = 2
