-- What an entry writes (document 01, "Entry"; Arm's source 000, the entry pseudocode of each mode).
use Rattle.std.specs.Prelude.{ℕ, ◌+◌, Bool, not, ◌&&◌, ◌||◌, List, [], ◌∷◌, if◌then◌else◌}
use Rattle.words.specs.Word.{word, put}
use Rattle.state.specs.Choice.{◌is◌, ◌among◌}
use Rattle.state.specs.Field.{bits, flag, without, mode_field, CPSR_A, CPSR_I, CPSR_F, SCR_NS, SCR_IRQ, SCR_FIQ, SCR_EA}
use Rattle.state.specs.Field.{SCTLR_V, SCTLR_EE, SCTLR_TE}
use Rattle.state.specs.Mode.{FIQ, IRQ, SUPERVISOR, MONITOR, ABORT, HYP, UNDEFINED, spsr_place, lr_place}
use Rattle.state.specs.Place.{CPSR, PC, SCR, SCTLR_s, SCTLR_ns, HSCTLR, VBAR_s, VBAR_ns, HVBAR, MVBAR}
use Rattle.entry.specs.Route.{wrap}

-- "An entry from Monitor to a mode other than Hyp, Monitor included, clears SCR.NS first"
unfoldable pub ns_cleared : List ℕ → ℕ → List ℕ
ns_cleared b to =
    if mode_field (word b CPSR) is MONITOR && not (to is HYP) then put b SCR (without 0 (word b SCR)) else
    b

-- "Masks set: Monitor and FIQ: A I F; Abort and IRQ: A I; Undefined and Supervisor: I; Hyp: A if EA 0, I if SCR.IRQ 0,
-- F if SCR.FIQ 0"
abbrev pub sets_a : ℕ → ℕ → Bool
sets_a to scr = if to is HYP then not (SCR_EA scr) else to among (MONITOR ∷ FIQ ∷ ABORT ∷ IRQ ∷ [])

abbrev pub sets_i : ℕ → ℕ → Bool
sets_i to scr =
    if to is HYP then not (SCR_IRQ scr) else to among (MONITOR ∷ FIQ ∷ ABORT ∷ IRQ ∷ UNDEFINED ∷ SUPERVISOR ∷ [])

abbrev pub sets_f : ℕ → ℕ → Bool
sets_f to scr = if to is HYP then not (SCR_FIQ scr) else to among (MONITOR ∷ FIQ ∷ [])

-- "Other mask bits stay"
unfoldable pub masks_after : ℕ → ℕ → ℕ → ℕ
masks_after cpsr scr to =
    flag 8 (CPSR_A cpsr || sets_a to scr)
    + flag 7 (CPSR_I cpsr || sets_i to scr)
    + flag 6 (CPSR_F cpsr || sets_f to scr)

-- CPSR: "mode is set; IT and IL become 0; N Z C V Q GE stay"; T and E are those of the control word
unfoldable pub cpsr_after : ℕ → ℕ → ℕ → ℕ → ℕ
cpsr_after cpsr scr sctlr to =
    bits 31 27 cpsr
    + bits 19 16 cpsr
    + flag 9 (SCTLR_EE sctlr)
    + masks_after cpsr scr to
    + flag 5 (SCTLR_TE sctlr)
    + mode_field to

-- "T and E take TE and EE of HSCTLR for Hyp, Secure SCTLR for Monitor, else the SCTLR of the NS value after entry": the
-- place of the control word, b being the block with NS as it is after the entry
abbrev pub control_place : List ℕ → ℕ → ℕ
control_place b to =
    if to is HYP then HSCTLR else
    if to is MONITOR then SCTLR_s else
    if SCR_NS (word b SCR) then SCTLR_ns else
    SCTLR_s

-- "base is HVBAR, MVBAR, or 0xFFFF0000 if that SCTLR's V is 1, else that state's VBAR"; sctlr is the control word
unfoldable pub vector_base : List ℕ → ℕ → ℕ → ℕ
vector_base b to sctlr =
    if to is HYP then word b HVBAR else
    if to is MONITOR then word b MVBAR else
    if SCTLR_V sctlr then 0xFFFF0000 else
    if SCR_NS (word b SCR) then word b VBAR_ns else
    word b VBAR_s

-- "PC is base + offset", "low five bits of the base cleared"
abbrev pub vector : ℕ → ℕ → ℕ
vector base offset = wrap (bits 31 5 base) offset

-- the words of an entry to the mode `to`, in a block whose NS is as it is after the entry; cpsr is the old CPSR word.
-- "The target's SPSR takes the old CPSR word"; "No other word changes"
unfoldable pub written : List ℕ → ℕ → ℕ → ℕ → ℕ → List ℕ
written b cpsr to offset link =
    put
    (put
    (put
    (put b
    (spsr_place to) cpsr)
    (lr_place to) link)
    CPSR (cpsr_after cpsr (word b SCR) (word b (control_place b to)) to))
    PC (vector (vector_base b to (word b (control_place b to))) offset)

-- the block after an entry to the mode `to` at an offset, with the word for its return address
unfoldable pub entered : List ℕ → ℕ → ℕ → ℕ → List ℕ
entered b to offset link = written (ns_cleared b to) (word b CPSR) to offset link
