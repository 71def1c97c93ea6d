-- The nine modes (document 01, "The state block"), by number, and where each keeps its return address and its saved state.
use Rattle.std.specs.Prelude.{Bool, List, [], ◌∷◌, ℕ, if◌then◌else◌}
use Rattle.state.specs.Choice.{◌is◌, ◌among◌}
use Rattle.state.specs.Place.{NO_PLACE, LR_usr, LR_fiq, LR_irq, LR_svc, LR_abt, LR_und, LR_mon, ELR_hyp, SPSR_fiq}
use Rattle.state.specs.Place.{SPSR_irq, SPSR_svc, SPSR_abt, SPSR_und, SPSR_mon, SPSR_hyp}

abbrev pub USER : ℕ
USER = 0x10

abbrev pub FIQ : ℕ
FIQ = 0x11

abbrev pub IRQ : ℕ
IRQ = 0x12

abbrev pub SUPERVISOR : ℕ
SUPERVISOR = 0x13

abbrev pub MONITOR : ℕ
MONITOR = 0x16

abbrev pub ABORT : ℕ
ABORT = 0x17

abbrev pub HYP : ℕ
HYP = 0x1A

abbrev pub UNDEFINED : ℕ
UNDEFINED = 0x1B

abbrev pub SYSTEM : ℕ
SYSTEM = 0x1F

-- the modes that stand at EL1 where the state is Non-secure ("The state block")
abbrev pub el1_modes : List ℕ
el1_modes = FIQ ∷ IRQ ∷ SUPERVISOR ∷ ABORT ∷ UNDEFINED ∷ SYSTEM ∷ []

-- the modes that a hypervisor's guest runs in
abbrev pub guest_modes : List ℕ
guest_modes = USER ∷ el1_modes

-- all nine
abbrev pub modes : List ℕ
modes = MONITOR ∷ HYP ∷ guest_modes

-- the modes that an exception can be taken to: those with a saved state of their own
abbrev pub targets : List ℕ
targets = FIQ ∷ IRQ ∷ SUPERVISOR ∷ ABORT ∷ UNDEFINED ∷ MONITOR ∷ HYP ∷ []

unfoldable pub known : ℕ → Bool
known m = m among modes

unfoldable pub el1 : ℕ → Bool
el1 m = m among el1_modes

unfoldable pub guest : ℕ → Bool
guest m = m among guest_modes

unfoldable pub is_target : ℕ → Bool
is_target m = m among targets

-- where the mode's SPSR is; User and System have none
unfoldable pub spsr_place : ℕ → ℕ
spsr_place m =
    if m is FIQ then SPSR_fiq else
    if m is IRQ then SPSR_irq else
    if m is SUPERVISOR then SPSR_svc else
    if m is ABORT then SPSR_abt else
    if m is UNDEFINED then SPSR_und else
    if m is MONITOR then SPSR_mon else
    if m is HYP then SPSR_hyp else
    NO_PLACE

-- where the mode's return address is: its LR, for Hyp ELR_hyp
unfoldable pub lr_place : ℕ → ℕ
lr_place m =
    if m is USER then LR_usr else
    if m is FIQ then LR_fiq else
    if m is IRQ then LR_irq else
    if m is SUPERVISOR then LR_svc else
    if m is ABORT then LR_abt else
    if m is UNDEFINED then LR_und else
    if m is MONITOR then LR_mon else
    if m is HYP then ELR_hyp else
    if m is SYSTEM then LR_usr else
    NO_PLACE
