-- What every rule asks of the words CPSR, SCR and HCR: the mode, the Security state, and whether the block is good
-- (document 01, "The state block" and "Answer numbers").
use Rattle.std.specs.Prelude.{Bool, not, ◌&&◌, ◌||◌, List, [], ◌∷◌, ℕ}
use Rattle.words.specs.Word.{word}
use Rattle.state.specs.Choice.{◌is◌, first_of}
use Rattle.state.specs.Field.{bits, mode_field, SCR_NS, HCR_TGE}
use Rattle.state.specs.Mode.{MONITOR, HYP, USER, known, el1}
use Rattle.state.specs.Number.{DONE, BAD_MODE, BAD_STATE}
use Rattle.state.specs.Place.{CPSR, SCR, HCR}

-- "The state is Secure if NS is 0 or the mode is Monitor"
abbrev pub secure : ℕ → ℕ → Bool
secure cpsr scr = not (SCR_NS scr) || mode_field cpsr is MONITOR

-- "NS EL1" is Non-secure FIQ, IRQ, Supervisor, Abort, Undefined or System
abbrev pub ns_el1 : ℕ → ℕ → Bool
ns_el1 cpsr scr = not (secure cpsr scr) && el1 (mode_field cpsr)

abbrev pub ns_user : ℕ → ℕ → Bool
ns_user cpsr scr = not (secure cpsr scr) && mode_field cpsr is USER

-- "good if its mode is one of the nine, CPSR bits 24-21 are zero, Hyp has NS 1, and NS EL1 has TGE 0"
unfoldable pub good : ℕ → ℕ → ℕ → Bool
good cpsr scr hcr =
    known (mode_field cpsr)
    && (bits 24 21 cpsr is 0
    && (not (mode_field cpsr is HYP && not (SCR_NS scr))
    && not (ns_el1 cpsr scr && HCR_TGE hcr)))

-- what the three words answer by themselves: BAD_MODE, BAD_STATE, or DONE where they are good
unfoldable pub fault_of : ℕ → ℕ → ℕ → ℕ
fault_of cpsr scr hcr =
    first_of
    (record { applies = not (known (mode_field cpsr)); number = BAD_MODE }
    ∷ record { applies = not (good cpsr scr hcr); number = BAD_STATE }
    ∷ [])
    DONE

-- the same of a block
unfoldable pub fault : List ℕ → ℕ
fault b = fault_of (word b CPSR) (word b SCR) (word b HCR)
