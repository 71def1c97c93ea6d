-- Which of the six exceptions is pending, and which can be taken (document 01, "The interrupt check").
use Rattle.std.specs.Prelude.{Bool, false, not, ◌&&◌, ◌||◌, ℕ}
use Rattle.state.specs.Choice.{◌is◌}
use Rattle.state.specs.Field.{mode_field, HCR_TGE}
use Rattle.state.specs.Mode.{HYP}
use Rattle.state.specs.State.{secure, ns_el1, ns_user}
use Rattle.interrupts.specs.Exception.{Exception, Synchronous, SError, Fiq, Irq, VirtualSError, VirtualFiq, VirtualIrq}
use Rattle.interrupts.specs.Kind.{Kind, serror, fiq, irq, line, R, M, acting_M, W, mask, source}
use Rattle.interrupts.specs.Masking.{obeyed}

-- the masking table's answer for a kind
abbrev pub is_obeyed : Kind → ℕ → ℕ → ℕ → Bool
is_obeyed k cpsr scr hcr = obeyed (secure cpsr scr) (mode_field cpsr is HYP) (acting_M k hcr) (R k scr) (W k scr)

-- "A physical exception is pending if its line is set"; it is masked if its mask bit is set and obeyed
abbrev pub physical_masked : Kind → ℕ → ℕ → ℕ → Bool
physical_masked k cpsr scr hcr = is_obeyed k cpsr scr hcr && mask k cpsr

-- "A virtual exception is pending only in Non-secure User or NS EL1, and there exactly if TGE is 0, its M is 1 and its
-- source is set"
abbrev pub virtual_pending : Kind → ℕ → ℕ → ℕ → ℕ → Bool
virtual_pending k lines cpsr scr hcr =
    (ns_user cpsr scr || ns_el1 cpsr scr) && (not (HCR_TGE hcr) && (M k hcr && source k hcr lines))

unfoldable pub pending : Exception → ℕ → ℕ → ℕ → ℕ → Bool
pending Synchronous lines cpsr scr hcr = false
pending SError lines cpsr scr hcr = line serror lines
pending Fiq lines cpsr scr hcr = line fiq lines
pending Irq lines cpsr scr hcr = line irq lines
pending VirtualSError lines cpsr scr hcr = virtual_pending serror lines cpsr scr hcr
pending VirtualFiq lines cpsr scr hcr = virtual_pending fiq lines cpsr scr hcr
pending VirtualIrq lines cpsr scr hcr = virtual_pending irq lines cpsr scr hcr

-- a physical exception by the masking table; a virtual one is "takeable if its mask bit is 0"
unfoldable pub masked : Exception → ℕ → ℕ → ℕ → Bool
masked Synchronous cpsr scr hcr = false
masked SError cpsr scr hcr = physical_masked serror cpsr scr hcr
masked Fiq cpsr scr hcr = physical_masked fiq cpsr scr hcr
masked Irq cpsr scr hcr = physical_masked irq cpsr scr hcr
masked VirtualSError cpsr scr hcr = mask serror cpsr
masked VirtualFiq cpsr scr hcr = mask fiq cpsr
masked VirtualIrq cpsr scr hcr = mask irq cpsr

unfoldable pub takeable : Exception → ℕ → ℕ → ℕ → ℕ → Bool
takeable x lines cpsr scr hcr = pending x lines cpsr scr hcr && not (masked x cpsr scr hcr)
