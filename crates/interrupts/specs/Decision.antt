-- The decision table (document 02, No. 4): what document 01 gives one physical exception alone, by an index of eight bits. An
-- entry goes by the rules themselves, in a state that has the index's bits; the exception is FIQ there, whose W is a bit of SCR.
use Rattle.std.specs.Prelude.{Bool, not, ℕ, ◌+◌, ◌*◌, ◌/◌, leb, if◌then◌else◌}
use Rattle.state.specs.Choice.{◌is◌}
use Rattle.state.specs.Field.{bit, flag, mode_field, HCR_TGE}
use Rattle.state.specs.Mode.{USER, SUPERVISOR, MONITOR, HYP}
use Rattle.state.specs.State.{secure}
use Rattle.interrupts.specs.Check.{goes}
use Rattle.interrupts.specs.Exception.{Exception, SError, Fiq, Irq}
use Rattle.interrupts.specs.Kind.{Kind, serror, fiq, irq, R, M, W, mask, own_mode}
use Rattle.interrupts.specs.Takeable.{takeable}

-- "Index, low bit first: pending, mask bit, W, M, TGE, R, then two bits of class: 0 Secure, 1 Non-secure User or EL1, 2 Hyp, 3
-- unused"; past the 256 there is no class either
abbrev pub is_pending : ℕ → Bool
is_pending = bit 0

abbrev pub mask_bit : ℕ → Bool
mask_bit = bit 1

abbrev pub w_bit : ℕ → Bool
w_bit = bit 2

abbrev pub m_bit : ℕ → Bool
m_bit = bit 3

abbrev pub tge_bit : ℕ → Bool
tge_bit = bit 4

abbrev pub r_bit : ℕ → Bool
r_bit = bit 5

abbrev pub class : ℕ → ℕ
class i = i / 64

-- a state with these bits: the mode, "class 1 with TGE 1 stands for User", the words and the line
abbrev pub mode_in : ℕ → ℕ
mode_in i =
    if class i is 0 then SUPERVISOR else
    if class i is 1 then USER else
    HYP

abbrev pub cpsr_in : ℕ → ℕ
cpsr_in i = mode_in i + flag 6 (mask_bit i)

abbrev pub scr_in : ℕ → ℕ
scr_in i = flag 0 (not (class i is 0)) + flag 2 (r_bit i) + flag 4 (w_bit i)

abbrev pub hcr_in : ℕ → ℕ
hcr_in i = flag 3 (m_bit i) + flag 27 (tge_bit i)

abbrev pub lines_in : ℕ → ℕ
lines_in i = flag 1 (is_pending i)

-- "Entry: 0 not taken, 1 Monitor, 2 Hyp, 3 the default mode, 4 for class 3"
abbrev pub NOT_TAKEN : ℕ
NOT_TAKEN = 0

abbrev pub TO_MONITOR : ℕ
TO_MONITOR = 1

abbrev pub TO_HYP : ℕ
TO_HYP = 2

abbrev pub TO_DEFAULT : ℕ
TO_DEFAULT = 3

abbrev pub NO_CLASS : ℕ
NO_CLASS = 4

-- the number of a mode that a physical exception goes to
abbrev pub target_number : ℕ → ℕ
target_number to =
    if to is MONITOR then TO_MONITOR else
    if to is HYP then TO_HYP else
    TO_DEFAULT

unfoldable pub entry : ℕ → ℕ
entry i =
    if leb 3 (class i) then NO_CLASS else
    if takeable Fiq (lines_in i) (cpsr_in i) (scr_in i) (hcr_in i) then target_number (goes fiq (cpsr_in i) (scr_in i) (hcr_in i)) else
    NOT_TAKEN

-- ---- of any kind, in any state

-- its physical exception, and the lines of a check with that one alone
abbrev pub physical : Kind → Exception
physical serror = SError
physical fiq = Fiq
physical irq = Irq

abbrev pub line_alone : Kind → ℕ
line_alone serror = 1
line_alone fiq = 2
line_alone irq = 4

-- the mode that a number of the table stands for
abbrev pub target_by : Kind → ℕ → ℕ
target_by k n =
    if n is TO_MONITOR then MONITOR else
    if n is TO_HYP then HYP else
    own_mode k

-- the index that a kind has in a state, pending or not
abbrev pub class_of : ℕ → ℕ → ℕ
class_of cpsr scr =
    if secure cpsr scr then 0 else
    if mode_field cpsr is HYP then 2 else
    1

abbrev pub index : Bool → Bool → Bool → Bool → Bool → Bool → ℕ → ℕ
index pending masked w m tge r c =
    flag 0 pending + flag 1 masked + flag 2 w + flag 3 m + flag 4 tge + flag 5 r + 64 * c

abbrev pub index_of : Kind → Bool → ℕ → ℕ → ℕ → ℕ
index_of k pending cpsr scr hcr =
    index pending (mask k cpsr) (W k scr) (M k hcr) (HCR_TGE hcr) (R k scr) (class_of cpsr scr)
