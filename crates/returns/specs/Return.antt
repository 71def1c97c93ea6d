-- The exception return (document 02, No. 9): what it asks of its operand and of the saved word, and the words that it writes.
use Rattle.std.specs.Prelude.{ℕ, ◌+◌, ◌-◌, ◌%◌, ◌^◌, Bool, true, not, List, [], ◌∷◌, if◌then◌else◌}
use Rattle.words.specs.Word.{word}
use Rattle.state.specs.Choice.{◌is◌, ◌among◌}
use Rattle.state.specs.Field.{bits, flag, mode_field, CPSR_T, SCR_NS, HCR_TGE}
use Rattle.state.specs.Mode.{HYP, is_target, spsr_place, lr_place}
use Rattle.state.specs.Place.{CPSR, SCR, HCR}
use Rattle.returns.specs.Level.{level}
use Rattle.returns.specs.Illegal.{illegal}

-- ---- by the words that a return goes by

-- "From Hyp .. A must be 0. Elsewhere it is the mode's LR less A, with A one of 0, 2, 4, 8": is A none of those?
abbrev pub taken_off : List ℕ
taken_off = 0 ∷ 2 ∷ 4 ∷ 8 ∷ []

unfoldable pub wrong_a : ℕ → ℕ → Bool
wrong_a cpsr a = if mode_field cpsr is HYP then not (a is 0) else not (a among taken_off)

-- "A saved word with any of bits 24-21 set"
abbrev pub bad_saved : ℕ → Bool
bad_saved saved = not (bits 24 21 saved is 0)

-- is a return from the mode of CPSR to that of the saved word illegal?
abbrev pub is_illegal : ℕ → ℕ → ℕ → ℕ → Bool
is_illegal cpsr scr hcr saved =
    illegal (level (mode_field cpsr) (SCR_NS scr)) (mode_field saved) (SCR_NS scr) (HCR_TGE hcr)

-- "the mode stays, IL becomes 1, the other fields .. as in the legal case"
unfoldable pub mode_kept : ℕ → ℕ → ℕ
mode_kept cpsr saved = bits 31 25 saved + flag 20 true + bits 19 5 saved + mode_field cpsr

-- CPSR after a return: "Legal returns set CPSR to the saved word"
unfoldable pub word_after : ℕ → ℕ → ℕ → ℕ → ℕ
word_after cpsr scr hcr saved = if is_illegal cpsr scr hcr saved then mode_kept cpsr saved else saved

-- "less A .. wrapping"
abbrev pub less : ℕ → ℕ → ℕ
less x y = (x + (2 ^ 32 - y)) % 2 ^ 32

-- "with its lowest bit cleared if T is 1, else its lowest two": the saved word's T
abbrev pub aligned : ℕ → ℕ → ℕ
aligned saved x = if CPSR_T saved then bits 31 1 x else bits 31 2 x

-- PC after a return, "the address as in the legal case" where it is illegal
unfoldable pub address_after : ℕ → ℕ → ℕ → ℕ
address_after saved link a = aligned saved (less link a)

-- ---- by a block

-- "The saved word is the current mode's SPSR; User and System have none"
abbrev pub saved_word : List ℕ → ℕ
saved_word b = word b (spsr_place (mode_field (word b CPSR)))

abbrev pub has_saved : List ℕ → Bool
has_saved b = is_target (mode_field (word b CPSR))

-- "From Hyp the address is ELR_hyp .. Elsewhere it is the mode's LR"
abbrev pub link_word : List ℕ → ℕ
link_word b = word b (lr_place (mode_field (word b CPSR)))

abbrev pub cpsr_returned : List ℕ → ℕ
cpsr_returned b = word_after (word b CPSR) (word b SCR) (word b HCR) (saved_word b)

abbrev pub pc_returned : List ℕ → ℕ → ℕ
pc_returned b a = address_after (saved_word b) (link_word b) a
