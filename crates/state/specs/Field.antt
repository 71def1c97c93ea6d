-- The fields of the words that steer the rules (document 01, "The state block"). Bits are counted from 0, the lowest.
use Rattle.std.specs.Prelude.{Bool, true, false, ℕ, ◌+◌, ◌-◌, ◌*◌, ◌/◌, ◌%◌, ◌^◌, eqb}

-- is bit n of the word w set?
abbrev pub bit : ℕ → ℕ → Bool
bit n w = eqb (w / 2 ^ n % 2) 1

-- the bits from hi down to lo of the word w, where they stand
abbrev pub bits : ℕ → ℕ → ℕ → ℕ
bits hi lo w = w / 2 ^ lo % 2 ^ (hi + 1 - lo) * 2 ^ lo

-- a word with bit n alone, or 0
abbrev pub flag : ℕ → Bool → ℕ
flag n true = 2 ^ n
flag n false = 0

-- the word w with bit n clear
abbrev pub without : ℕ → ℕ → ℕ
without n w = w / 2 ^ (n + 1) * 2 ^ (n + 1) + w % 2 ^ n

-- CPSR
abbrev pub mode_field : ℕ → ℕ
mode_field cpsr = cpsr % 2 ^ 5

abbrev pub CPSR_T : ℕ → Bool
CPSR_T = bit 5

abbrev pub CPSR_F : ℕ → Bool
CPSR_F = bit 6

abbrev pub CPSR_I : ℕ → Bool
CPSR_I = bit 7

abbrev pub CPSR_A : ℕ → Bool
CPSR_A = bit 8

-- SCR
abbrev pub SCR_NS : ℕ → Bool
SCR_NS = bit 0

abbrev pub SCR_IRQ : ℕ → Bool
SCR_IRQ = bit 1

abbrev pub SCR_FIQ : ℕ → Bool
SCR_FIQ = bit 2

abbrev pub SCR_EA : ℕ → Bool
SCR_EA = bit 3

abbrev pub SCR_FW : ℕ → Bool
SCR_FW = bit 4

abbrev pub SCR_AW : ℕ → Bool
SCR_AW = bit 5

abbrev pub SCR_SCD : ℕ → Bool
SCR_SCD = bit 7

abbrev pub SCR_HCE : ℕ → Bool
SCR_HCE = bit 8

-- HCR
abbrev pub HCR_FMO : ℕ → Bool
HCR_FMO = bit 3

abbrev pub HCR_IMO : ℕ → Bool
HCR_IMO = bit 4

abbrev pub HCR_AMO : ℕ → Bool
HCR_AMO = bit 5

abbrev pub HCR_VF : ℕ → Bool
HCR_VF = bit 6

abbrev pub HCR_VI : ℕ → Bool
HCR_VI = bit 7

abbrev pub HCR_VA : ℕ → Bool
HCR_VA = bit 8

abbrev pub HCR_TSC : ℕ → Bool
HCR_TSC = bit 19

abbrev pub HCR_TGE : ℕ → Bool
HCR_TGE = bit 27

-- HDCR (document 02, No. 11)
abbrev pub HDCR_TDE : ℕ → Bool
HDCR_TDE = bit 8

-- SCTLR and HSCTLR
abbrev pub SCTLR_V : ℕ → Bool
SCTLR_V = bit 13

abbrev pub SCTLR_EE : ℕ → Bool
SCTLR_EE = bit 25

abbrev pub SCTLR_TE : ℕ → Bool
SCTLR_TE = bit 30
