-- The three kinds of interrupt and what goes with each, column by column (document 01, "The interrupt check", "Routing"
-- and "Events").
use Rattle.std.specs.Prelude.{Bool, true, ◌||◌, ℕ}
use Rattle.state.specs.Field.{bit, CPSR_A, CPSR_I, CPSR_F, SCR_IRQ, SCR_FIQ, SCR_EA, SCR_FW, SCR_AW, HCR_FMO, HCR_IMO}
use Rattle.state.specs.Field.{HCR_AMO, HCR_VF, HCR_VI, HCR_VA, HCR_TGE}
use Rattle.state.specs.Mode.{FIQ, IRQ, ABORT}
use Rattle.entry.specs.Offset as offsets
use Rattle.interrupts.specs.declared.kind.Kind as declared
use Rattle.interrupts.specs.declared.kind.Kind.TheVariants as declared_kinds

pub data Kind : Type 0 where
  serror : Kind
  fiq : Kind
  irq : Kind

-- the code's name of a kind
abbrev pub the_kind : declared.Kind → Kind
the_kind declared_kinds.SError = serror
the_kind declared_kinds.Fiq = fiq
the_kind declared_kinds.Irq = irq

-- the physical line: "lines 1 SError, 2 FIQ, 4 IRQ"
abbrev pub line : Kind → ℕ → Bool
line serror lines = bit 0 lines
line fiq lines = bit 1 lines
line irq lines = bit 2 lines

-- "R is its SCR bit (EA, FIQ, IRQ)"
abbrev pub R : Kind → ℕ → Bool
R serror scr = SCR_EA scr
R fiq scr = SCR_FIQ scr
R irq scr = SCR_IRQ scr

-- "M its HCR bit (AMO, FMO, IMO)"
abbrev pub M : Kind → ℕ → Bool
M serror hcr = HCR_AMO hcr
M fiq hcr = HCR_FMO hcr
M irq hcr = HCR_IMO hcr

-- and the value by which it acts on masking: "M in the masking table is the stored bit or TGE" (document 02, No. 5)
abbrev pub acting_M : Kind → ℕ → Bool
acting_M k hcr = M k hcr || HCR_TGE hcr

-- "W is AW, FW, or for IRQ the value 1"
abbrev pub W : Kind → ℕ → Bool
W serror scr = SCR_AW scr
W fiq scr = SCR_FW scr
W irq scr = true

-- the PSTATE mask bit
abbrev pub mask : Kind → ℕ → Bool
mask serror cpsr = CPSR_A cpsr
mask fiq cpsr = CPSR_F cpsr
mask irq cpsr = CPSR_I cpsr

-- a virtual exception's source: "VA; VF or line 8; VI or line 16"
abbrev pub source : Kind → ℕ → ℕ → Bool
source serror hcr lines = HCR_VA hcr
source fiq hcr lines = HCR_VF hcr || bit 3 lines
source irq hcr lines = HCR_VI hcr || bit 4 lines

-- the mode it goes to where nothing sends it higher: "Abort, FIQ, IRQ mode"
abbrev pub own_mode : Kind → ℕ
own_mode serror = ABORT
own_mode fiq = FIQ
own_mode irq = IRQ

-- "Offsets: Data Abort and SError 0x10, IRQ 0x18, FIQ 0x1C"
abbrev pub own_offset : Kind → ℕ
own_offset serror = offsets.SERROR
own_offset fiq = offsets.FIQ
own_offset irq = offsets.IRQ

-- what LR has added: "IRQ, FIQ 4; Data Abort, SError 8"
abbrev pub addend : Kind → ℕ
addend serror = 8
addend fiq = 4
addend irq = 4
