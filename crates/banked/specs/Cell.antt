-- The 64 cells: which register an access names (document 01, "Banked-register rights" and "Events": A is 32 R + SYSm;
-- Tables F5-116 and F5-117 of Arm's source 004). The two tables stand here as Arm prints them: a row for each SYSm<2:0>,
-- a column for each SYSm<4:3>.
use Rattle.std.specs.Prelude.{List, [], ◌∷◌, ℕ, ◌/◌, ◌%◌, get_or}
use Rattle.state.specs.Place.{NO_PLACE, R8_usr, R9_usr, R10_usr, R11_usr, R12_usr, SP_usr, LR_usr, R8_fiq, R9_fiq}
use Rattle.state.specs.Place.{R10_fiq, R11_fiq, R12_fiq, SP_fiq, LR_fiq, LR_irq, SP_irq, LR_svc, SP_svc, LR_abt, SP_abt}
use Rattle.state.specs.Place.{LR_und, SP_und, LR_mon, SP_mon, ELR_hyp, SP_hyp, SPSR_fiq, SPSR_irq, SPSR_svc, SPSR_abt}
use Rattle.state.specs.Place.{SPSR_und, SPSR_mon, SPSR_hyp}

-- how many there are
abbrev pub CELL_VALUES : ℕ
CELL_VALUES = 64

-- a cell that is CONSTRAINED UNPREDICTABLE
abbrev pub none : ℕ
none = NO_PLACE

-- a row: the registers at SYSm<4:3> 0b00, 0b01, 0b10, 0b11
abbrev pub row : ℕ → ℕ → ℕ → ℕ → List ℕ
row a b c d = a ∷ b ∷ c ∷ d ∷ []

-- Table F5-116, R 0
abbrev pub F5_116 : List (List ℕ)
F5_116 =
    row R8_usr R8_fiq LR_irq none
    ∷ row R9_usr R9_fiq SP_irq none
    ∷ row R10_usr R10_fiq LR_svc none
    ∷ row R11_usr R11_fiq SP_svc none
    ∷ row R12_usr R12_fiq LR_abt LR_mon
    ∷ row SP_usr SP_fiq SP_abt SP_mon
    ∷ row LR_usr LR_fiq LR_und ELR_hyp
    ∷ row none none SP_und SP_hyp
    ∷ []

-- Table F5-117, R 1
abbrev pub F5_117 : List (List ℕ)
F5_117 =
    row none none SPSR_irq none
    ∷ row none none none none
    ∷ row none none SPSR_svc none
    ∷ row none none none none
    ∷ row none none SPSR_abt SPSR_mon
    ∷ row none none none none
    ∷ row none SPSR_fiq SPSR_und SPSR_hyp
    ∷ row none none none none
    ∷ []

-- the register of A, by R, SYSm<2:0> and SYSm<4:3>; past the 64 cells there is none
unfoldable pub cell : ℕ → ℕ
cell a = get_or (get_or (get_or (F5_116 ∷ F5_117 ∷ []) (a / 32) []) (a % 8) []) (a % 32 / 8) NO_PLACE
