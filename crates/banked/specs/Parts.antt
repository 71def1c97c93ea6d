-- Cells as words: what the code's own parts answer. Nobody has to believe these: laws of proofs/ join them to `cell`, to
-- `denied` and to `own`.
use Rattle.std.specs.Prelude.{Result, Ok, Err, ◌≡◌, Bool, true, false, ◌||◌, List, [], ◌∷◌, get_or, if◌then◌else◌}
use Rattle.std.specs.Prelude.{ℕ, ◌+◌, ◌*◌, ◌-◌, ◌/◌, ◌^◌}
use Rattle.std.specs.Int.Bits.{bit_or}
use Rattle.state.specs.Choice.{◌is◌}
use Rattle.banked.specs.Cell.{cell}
use Rattle.banked.specs.Right.{denied, reason}
use Rattle.state.specs.Field.{mode_field}
use Rattle.state.specs.Number.{NO_REGISTER}
use Rattle.state.specs.Place.{NO_PLACE}
use Rattle.state.specs.Refusal.{number}
use Rattle.state.specs.declared.refusal.Refusal.{Refusal}
use Rattle.state.specs.State.{secure}
use Rattle.state.specs.Mode.{USER, FIQ, IRQ, SUPERVISOR, MONITOR, ABORT, HYP, UNDEFINED, SYSTEM}

-- the 64 cells by eights, a byte each, the first in the lowest; the last eight stand apart, for what is behind the others
abbrev pub eights : List ℕ
eights =
    0xFF06050403020100
    ∷ 0xFF0D0C0B0A090807
    ∷ 0x1514131211100F0E
    ∷ 0x19181716FFFFFFFF
    ∷ 0xFFFFFFFFFFFFFFFF
    ∷ 0xFF1AFFFFFFFFFFFF
    ∷ 0xFF1EFF1DFF1CFF1B
    ∷ []

abbrev pub last_eight : ℕ
last_eight = 0xFF20FF1FFFFFFFFF

-- those among which the cell of A is
unfoldable pub eight_from : ℕ → ℕ
eight_from a = get_or eights (a / 8) last_eight

-- sets of cells, bit A for the cell of A
abbrev pub unallocated : ℕ
unallocated = 0xAFAABFFF0F008080

-- two registers from this cell on, and their SPSR
abbrev pub own : ℕ → ℕ
own a = 3 * 2 ^ a + 2 ^ (32 + a)

abbrev pub of_mon : ℕ
of_mon = own 28

abbrev usr : ℕ
usr = 0x1F

abbrev hyp : ℕ
hyp = 2 ^ 31 + 2 ^ 62

-- what most modes cannot reach besides their own, ELR_hyp among it
abbrev pub most : ℕ
most = unallocated + usr + 2 ^ 30 + hyp

-- a mode by the lower four bits of its number
abbrev pub low : ℕ → ℕ
low mode = mode - 16

-- the cells that a mode cannot reach in Secure state, or that name no register
unfoldable pub denied_to : ℕ → ℕ
denied_to m =
    if m is low USER then 2 ^ 64 - 1 else
    if m is low FIQ then unallocated + 0x7F * 2 ^ 8 + 2 ^ 46 + 2 ^ 30 + hyp else
    if m is low IRQ then most + own 16 else
    if m is low SUPERVISOR then most + own 18 else
    if m is low MONITOR then unallocated + usr + of_mon else
    if m is low ABORT then most + own 20 else
    if m is low HYP then unallocated + usr + 2 ^ 6 + hyp else
    if m is low UNDEFINED then most + own 22 else
    if m is low SYSTEM then most + 2 ^ 5 + 2 ^ 6 else
    most

-- and in either state
unfoldable pub denied_cells : ℕ → Bool → ℕ
denied_cells m ns = if ns then bit_or (denied_to m) of_mon else denied_to m

-- those of its own that a mode but User reaches by another instruction
unfoldable pub own_to : ℕ → ℕ
own_to m =
    if m is low FIQ then 0x7F * 2 ^ 8 + 2 ^ 46 else
    if m is low IRQ then usr + own 16 else
    if m is low SUPERVISOR then usr + own 18 else
    if m is low MONITOR then usr + of_mon else
    if m is low ABORT then usr + own 20 else
    if m is low HYP then usr + 2 ^ 6 + hyp else
    if m is low UNDEFINED then usr + own 22 else
    if m is low SYSTEM then usr + 2 ^ 5 + 2 ^ 6 else
    0

-- what is said of the register that A names: its place, or why it may not be reached
abbrev pub Reached : ℕ → ℕ → ℕ → Result ℕ Refusal → Type 0
Reached a cpsr scr (Ok p) =
    (p ≡ cell a) × ((cell a is NO_PLACE || denied (cell a) (mode_field cpsr) (secure cpsr scr)) ≡ false)
Reached a cpsr scr (Err r) =
    (number r ≡ (if cell a is NO_PLACE then NO_REGISTER else reason (cell a) (mode_field cpsr)))
    × ((cell a is NO_PLACE || denied (cell a) (mode_field cpsr) (secure cpsr scr)) ≡ true)
