-- Which exception an entry was: a synchronous one, or one of the six of an interrupt check, with the number that a value
-- reports it by (document 01, "Answer numbers" and "The interrupt check").
use Rattle.std.specs.Prelude.{List, [], ◌∷◌, ℕ}
pub use Rattle.interrupts.specs.declared.exception.Exception.{Exception}
pub use Rattle.interrupts.specs.declared.exception.Exception.TheVariants.{Synchronous, SError, Fiq, Irq}
pub use Rattle.interrupts.specs.declared.exception.Exception.TheVariants.{VirtualSError, VirtualFiq, VirtualIrq}

abbrev pub which : Exception → ℕ
which Synchronous = 0
which SError = 1
which Fiq = 2
which Irq = 3
which VirtualSError = 4
which VirtualFiq = 5
which VirtualIrq = 6

-- "Ours: SError 1, FIQ 2, IRQ 3, virtual SError 4, FIQ 5, IRQ 6. The first one takeable is taken"
abbrev pub order : List Exception
order = SError ∷ Fiq ∷ Irq ∷ VirtualSError ∷ VirtualFiq ∷ VirtualIrq ∷ []
