-- What an interrupt check takes, and where that goes (document 01, "The interrupt check").
use Rattle.std.specs.Prelude.{Option, None, Some, not, ◌&&◌, ◌||◌, List, [], ◌∷◌, ℕ, if◌then◌else◌}
use Rattle.state.specs.Choice.{◌is◌}
use Rattle.state.specs.Field.{mode_field, HCR_TGE}
use Rattle.state.specs.Mode.{MONITOR, HYP}
use Rattle.state.specs.Number.{NOT_HERE}
use Rattle.state.specs.State.{secure}
use Rattle.entry.specs.Route.{offset_to, link_to}
use Rattle.entry.specs.Way.{Way, Barred, Enter}
use Rattle.interrupts.specs.Exception.{Exception, Synchronous, SError, Fiq, Irq, VirtualSError, VirtualFiq, VirtualIrq, order}
use Rattle.interrupts.specs.Kind.{Kind, serror, fiq, irq, R, M, own_mode, own_offset, addend}
use Rattle.interrupts.specs.Takeable.{takeable}

-- "The first one takeable is taken, one per check"
abbrev pub first_of : List Exception → ℕ → ℕ → ℕ → ℕ → Option Exception
first_of [] lines cpsr scr hcr = None
first_of (x ∷ xs) lines cpsr scr hcr =
    if takeable x lines cpsr scr hcr then Some x else first_of xs lines cpsr scr hcr

unfoldable pub found : ℕ → ℕ → ℕ → ℕ → Option Exception
found lines cpsr scr hcr = first_of order lines cpsr scr hcr

-- "Routing: Monitor if R; else Hyp if the mode is Hyp or if Non-secure with TGE or M; else Abort, FIQ, IRQ mode"
abbrev pub goes : Kind → ℕ → ℕ → ℕ → ℕ
goes k cpsr scr hcr =
    if R k scr then MONITOR else
    if mode_field cpsr is HYP || (not (secure cpsr scr) && (HCR_TGE hcr || M k hcr)) then HYP else
    own_mode k

-- "Anything but IRQ and FIQ entering Hyp from another mode uses 0x14"
abbrev pub offset_of : Kind → ℕ → ℕ → ℕ
offset_of serror to from = offset_to to from (own_offset serror)
offset_of fiq to from = own_offset fiq
offset_of irq to from = own_offset irq

-- a physical exception that is taken
abbrev pub physical_way : Kind → ℕ → ℕ → ℕ → ℕ → Way
physical_way k cpsr scr hcr pc =
    Enter (goes k cpsr scr hcr) (offset_of k (goes k cpsr scr hcr) (mode_field cpsr)) (link_to (goes k cpsr scr hcr) pc (addend k))

-- a virtual one: "to Abort, FIQ, IRQ mode with the physical one's offsets"
abbrev pub virtual_way : Kind → ℕ → Way
virtual_way k pc = Enter (own_mode k) (own_offset k) (link_to (own_mode k) pc (addend k))

unfoldable pub way : Exception → ℕ → ℕ → ℕ → ℕ → Way
way Synchronous cpsr scr hcr pc = Barred NOT_HERE
way SError cpsr scr hcr pc = physical_way serror cpsr scr hcr pc
way Fiq cpsr scr hcr pc = physical_way fiq cpsr scr hcr pc
way Irq cpsr scr hcr pc = physical_way irq cpsr scr hcr pc
way VirtualSError cpsr scr hcr pc = virtual_way serror pc
way VirtualFiq cpsr scr hcr pc = virtual_way fiq pc
way VirtualIrq cpsr scr hcr pc = virtual_way irq pc
