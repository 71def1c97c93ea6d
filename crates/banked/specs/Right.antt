-- Who may reach a banked register, and why not (document 01, "Banked-register rights"; document 02, No. 10; Arm's source 004,
-- sections F5.2.1 and F5.2.2).
use Rattle.std.specs.Prelude.{Bool, not, ◌&&◌, ◌||◌, List, [], ◌∷◌, ◌++◌, ℕ, if◌then◌else◌}
use Rattle.state.specs.Choice.{◌is◌, ◌among◌}
use Rattle.state.specs.Field.{mode_field}
use Rattle.state.specs.Mode.{USER, FIQ, IRQ, SUPERVISOR, MONITOR, ABORT, HYP, UNDEFINED, SYSTEM}
use Rattle.state.specs.Number.{DONE, NO_RIGHT, OWN_REGISTER}
use Rattle.state.specs.Place.{R8_usr, R9_usr, R10_usr, R11_usr, R12_usr, SP_usr, LR_usr, R8_fiq, R9_fiq, R10_fiq}
use Rattle.state.specs.Place.{R11_fiq, R12_fiq, SP_fiq, LR_fiq, LR_irq, SP_irq, LR_svc, SP_svc, LR_abt, SP_abt, LR_und}
use Rattle.state.specs.Place.{SP_und, LR_mon, SP_mon, ELR_hyp, SP_hyp, SPSR_fiq, SPSR_irq, SPSR_svc, SPSR_abt, SPSR_und}
use Rattle.state.specs.Place.{SPSR_mon, SPSR_hyp}
use Rattle.state.specs.State.{secure}

-- R8_usr-R12_usr, and the registers of a mode that has some of its own
abbrev pub general_usr : List ℕ
general_usr = R8_usr ∷ R9_usr ∷ R10_usr ∷ R11_usr ∷ R12_usr ∷ []

abbrev pub fiq_registers : List ℕ
fiq_registers = R8_fiq ∷ R9_fiq ∷ R10_fiq ∷ R11_fiq ∷ R12_fiq ∷ SP_fiq ∷ LR_fiq ∷ SPSR_fiq ∷ []

abbrev pub irq_registers : List ℕ
irq_registers = LR_irq ∷ SP_irq ∷ SPSR_irq ∷ []

abbrev pub svc_registers : List ℕ
svc_registers = LR_svc ∷ SP_svc ∷ SPSR_svc ∷ []

abbrev pub abt_registers : List ℕ
abt_registers = LR_abt ∷ SP_abt ∷ SPSR_abt ∷ []

abbrev pub und_registers : List ℕ
und_registers = LR_und ∷ SP_und ∷ SPSR_und ∷ []

abbrev pub mon_registers : List ℕ
mon_registers = SP_mon ∷ LR_mon ∷ SPSR_mon ∷ []

-- "any fiq, irq, svc, abt or und register from its own mode"
abbrev pub its_own : ℕ → ℕ → Bool
its_own p m =
    (p among fiq_registers && m is FIQ)
    || ((p among irq_registers && m is IRQ)
    || ((p among svc_registers && m is SUPERVISOR)
    || ((p among abt_registers && m is ABORT)
    || (p among und_registers && m is UNDEFINED))))

-- "Allowed unless: ..", the list of the paper: p is the register's place, m the mode, sec whether the state is Secure
unfoldable pub denied : ℕ → ℕ → Bool → Bool
denied p m sec =
    m is USER
    || ((p among general_usr && not (m is FIQ))
    || ((p is SP_usr && m is SYSTEM)
    || ((p is LR_usr && m among (SYSTEM ∷ HYP ∷ []))
    || (its_own p m
    || ((p among mon_registers && (not sec || m is MONITOR))
    || ((p is ELR_hyp && not (m among (MONITOR ∷ HYP ∷ [])))
    || (p among (SP_hyp ∷ SPSR_hyp ∷ []) && not (m is MONITOR))))))))

-- "The current mode registers": those that the mode m reaches by another instruction, by the list of section F5.2.2, and User's as
-- System's, which "uses the same set of registers". (ELR_hyp is on no list: Hyp reaches it by these instructions too.)
abbrev pub current : ℕ → List ℕ
current m =
    if m is MONITOR then general_usr ++ mon_registers else
    if m is HYP then general_usr ++ (SP_hyp ∷ LR_usr ∷ SPSR_hyp ∷ []) else
    if m is FIQ then fiq_registers else
    if m among (SYSTEM ∷ USER ∷ []) then general_usr ++ (SP_usr ∷ LR_usr ∷ []) else
    if m is SUPERVISOR then general_usr ++ svc_registers else
    if m is ABORT then general_usr ++ abt_registers else
    if m is UNDEFINED then general_usr ++ und_registers else
    if m is IRQ then general_usr ++ irq_registers else
    []

-- "the current mode could reach the register by another instruction"
unfoldable pub own : ℕ → ℕ → Bool
own p m = p among current m

-- why an access is denied: "7 stays for User mode and for registers not accessible from the current state; if both fit, 7"
unfoldable pub reason : ℕ → ℕ → ℕ
reason p m =
    if m is USER then NO_RIGHT else
    if own p m then OWN_REGISTER else
    NO_RIGHT

-- what an access to the register at p answers: the reason, or DONE where it is allowed
unfoldable pub right : ℕ → ℕ → ℕ → ℕ
right p cpsr scr = if denied p (mode_field cpsr) (secure cpsr scr) then reason p (mode_field cpsr) else DONE
