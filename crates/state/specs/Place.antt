-- The places of the state block (document 01, "The state block"; document 02, No. 11): 45 words, each with its place.
use Rattle.std.specs.Prelude.{ℕ}

-- the words and the bytes of a block
abbrev pub PLACES : ℕ
PLACES = 45

abbrev pub BLOCK_SIZE : ℕ
BLOCK_SIZE = 180

-- of one without HDCR, as document 01 has it
abbrev pub OLD_BLOCK_SIZE : ℕ
OLD_BLOCK_SIZE = 176

-- a mark where there is no place: no block, now or later, has so many words
abbrev pub NO_PLACE : ℕ
NO_PLACE = 255

-- 0 to 6: the registers of User and System mode
abbrev pub R8_usr : ℕ
R8_usr = 0

abbrev pub R9_usr : ℕ
R9_usr = 1

abbrev pub R10_usr : ℕ
R10_usr = 2

abbrev pub R11_usr : ℕ
R11_usr = 3

abbrev pub R12_usr : ℕ
R12_usr = 4

abbrev pub SP_usr : ℕ
SP_usr = 5

abbrev pub LR_usr : ℕ
LR_usr = 6

-- 7 to 13: those of FIQ mode
abbrev pub R8_fiq : ℕ
R8_fiq = 7

abbrev pub R9_fiq : ℕ
R9_fiq = 8

abbrev pub R10_fiq : ℕ
R10_fiq = 9

abbrev pub R11_fiq : ℕ
R11_fiq = 10

abbrev pub R12_fiq : ℕ
R12_fiq = 11

abbrev pub SP_fiq : ℕ
SP_fiq = 12

abbrev pub LR_fiq : ℕ
LR_fiq = 13

-- 14 to 21: LR and SP of IRQ, Supervisor, Abort and Undefined mode
abbrev pub LR_irq : ℕ
LR_irq = 14

abbrev pub SP_irq : ℕ
SP_irq = 15

abbrev pub LR_svc : ℕ
LR_svc = 16

abbrev pub SP_svc : ℕ
SP_svc = 17

abbrev pub LR_abt : ℕ
LR_abt = 18

abbrev pub SP_abt : ℕ
SP_abt = 19

abbrev pub LR_und : ℕ
LR_und = 20

abbrev pub SP_und : ℕ
SP_und = 21

-- 22 to 25: those of Monitor and Hyp mode
abbrev pub LR_mon : ℕ
LR_mon = 22

abbrev pub SP_mon : ℕ
SP_mon = 23

abbrev pub ELR_hyp : ℕ
ELR_hyp = 24

abbrev pub SP_hyp : ℕ
SP_hyp = 25

-- 26 to 32: the saved state of each mode that has one
abbrev pub SPSR_fiq : ℕ
SPSR_fiq = 26

abbrev pub SPSR_irq : ℕ
SPSR_irq = 27

abbrev pub SPSR_svc : ℕ
SPSR_svc = 28

abbrev pub SPSR_abt : ℕ
SPSR_abt = 29

abbrev pub SPSR_und : ℕ
SPSR_und = 30

abbrev pub SPSR_mon : ℕ
SPSR_mon = 31

abbrev pub SPSR_hyp : ℕ
SPSR_hyp = 32

-- 33, 34: the present state, and the address
abbrev pub CPSR : ℕ
CPSR = 33

abbrev pub PC : ℕ
PC = 34

-- 35 to 43: the control words and the vector bases
abbrev pub SCR : ℕ
SCR = 35

abbrev pub HCR : ℕ
HCR = 36

abbrev pub SCTLR_s : ℕ
SCTLR_s = 37

abbrev pub SCTLR_ns : ℕ
SCTLR_ns = 38

abbrev pub HSCTLR : ℕ
HSCTLR = 39

abbrev pub VBAR_s : ℕ
VBAR_s = 40

abbrev pub VBAR_ns : ℕ
VBAR_ns = 41

abbrev pub HVBAR : ℕ
HVBAR = 42

abbrev pub MVBAR : ℕ
MVBAR = 43

-- 44: "The block gains place 44, HDCR"
abbrev pub HDCR : ℕ
HDCR = 44
