-- What the code's own parts answer. Nobody has to believe these: the laws of proofs/ join them to `takeable`.
use Rattle.std.specs.Prelude.{Bool, not, ◌&&◌, ℕ}
use Rattle.state.specs.Field.{mode_field, SCR_NS, HCR_TGE}
use Rattle.state.specs.Mode.{guest}
use Rattle.interrupts.specs.Exception.{Exception, VirtualSError, VirtualFiq, VirtualIrq}
use Rattle.interrupts.specs.Kind.{Kind, serror, fiq, irq, M, mask, source}

-- where a virtual exception can be pending at all: Non-secure User or NS EL1, with TGE 0
abbrev pub virtual_here : ℕ → ℕ → ℕ → Bool
virtual_here cpsr scr hcr = (SCR_NS scr && guest (mode_field cpsr)) && not (HCR_TGE hcr)

-- a virtual exception there, by its M, its source and its mask bit
abbrev pub taken_if : Bool → Bool → Bool → Bool
taken_if m src msk = m && (src && not msk)

abbrev pub takes_virtual : Kind → ℕ → ℕ → ℕ → Bool
takes_virtual k lines cpsr hcr = taken_if (M k hcr) (source k hcr lines) (mask k cpsr)

-- a kind's virtual exception
abbrev pub virtual : Kind → Exception
virtual serror = VirtualSError
virtual fiq = VirtualFiq
virtual irq = VirtualIrq
