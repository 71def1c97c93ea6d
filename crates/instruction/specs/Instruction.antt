-- The parts of an instruction word, "code 10 or 11, A 0-63, condition 0-14 and register 0-14", read off its fields, and the word put
-- together of them (document 02, No. 14). "Anything else is 18 both ways, with the parts or the word 0."
use Rattle.std.specs.Prelude.{Option, None, Some, Bool, true, ◌&&◌, ◌||◌, List, [], ◌∷◌, ℕ, ◌+◌, ◌*◌, ◌/◌, ◌%◌, ◌^◌, ltb, if◌then◌else◌}
use Rattle.state.specs.Choice.{◌is◌}
use Rattle.state.specs.Number.{DONE, NOT_BANKED}
use Rattle.entry.specs.Code.{BANKED_READ, BANKED_WRITE}
use Rattle.instruction.specs.Encoding.{Name, cond, R, M1, Rd, Rn, M, none}
use Rattle.instruction.specs.Encoding.{Value, must_be, should_be, any, Field, MRS, MSR, in_word}
pub use Rattle.instruction.specs.declared.Parts.{Parts}

-- MRS reads a banked register, MSR writes one
abbrev pub encoding : ℕ → List Field
encoding code = if code is BANKED_READ then MRS else MSR

-- "SYSm is M:M1", and A is R:SYSm: what a field counts in each part
abbrev pub in_a : Name → ℕ
in_a cond = 0
in_a R = 32
in_a M1 = 1
in_a Rd = 0
in_a Rn = 0
in_a M = 16
in_a none = 0

abbrev pub in_condition : Name → ℕ
in_condition cond = 1
in_condition R = 0
in_condition M1 = 0
in_condition Rd = 0
in_condition Rn = 0
in_condition M = 0
in_condition none = 0

abbrev pub in_register : Name → ℕ
in_register cond = 0
in_register R = 0
in_register M1 = 0
in_register Rd = 1
in_register Rn = 1
in_register M = 0
in_register none = 0

-- the values of these fields, added up as each counts
abbrev pub total : (Field → ℕ) → (Field → ℕ) → List Field → ℕ
total counts value [] = 0
total counts value (f ∷ fs) = value f * counts f + total counts value fs

-- ---- reading

-- are the fixed bits as the page has them, those that should be so too?
abbrev pub agrees : Value → ℕ → Bool
agrees (must_be v) n = n is v
agrees (should_be v) n = n is v
agrees any n = true

abbrev pub laid_out : List Field → ℕ → Bool
laid_out [] w = true
laid_out (f ∷ fs) w = agrees f.value (in_word f w) && laid_out fs w

abbrev pub parts_in : ℕ → ℕ → Parts
parts_in code w =
    let read : (Name → ℕ) → ℕ = λ counts. total (λ f. counts f.name) (λ f. in_word f w) (encoding code) in
    record { code = code; a = read in_a; condition = read in_condition; register = read in_register }

-- "condition 0-14 and register 0-14"
abbrev pub in_range : Parts → Bool
in_range p = ltb p.condition 15 && ltb p.register 15

abbrev pub is_of : ℕ → ℕ → Bool
is_of code w = laid_out (encoding code) w && in_range (parts_in code w)

-- the parts of no instruction
abbrev pub no_parts : Parts
no_parts = record { code = 0; a = 0; condition = 0; register = 0 }

abbrev pub is_read : ℕ → Bool
is_read w = is_of BANKED_READ w || is_of BANKED_WRITE w

unfoldable pub reading : ℕ → Parts
reading w =
    if is_of BANKED_READ w then parts_in BANKED_READ w else
    if is_of BANKED_WRITE w then parts_in BANKED_WRITE w else
    no_parts

unfoldable pub read_number : ℕ → ℕ
read_number w = if is_read w then DONE else NOT_BANKED

-- ---- writing

abbrev pub are_parts : Parts → Bool
are_parts p = (p.code is BANKED_READ || p.code is BANKED_WRITE) && (ltb p.a 64 && in_range p)

-- what a field is given, by its name, and what it holds: its value where that is fixed
abbrev pub given : Name → Parts → ℕ
given cond p = p.condition
given R p = p.a / 32
given M1 p = p.a % 16
given Rd p = p.register
given Rn p = p.register
given M p = p.a / 16 % 2
given none p = 0

abbrev pub holds : Value → ℕ → ℕ
holds (must_be v) n = v
holds (should_be v) n = v
holds any n = n

abbrev pub field_of : Parts → Field → ℕ
field_of p f = holds f.value (given f.name p)

unfoldable pub writing : Parts → ℕ
writing p = if are_parts p then total (λ f. 2 ^ f.low) (field_of p) (encoding p.code) else 0

unfoldable pub write_number : Parts → ℕ
write_number p = if are_parts p then DONE else NOT_BANKED

-- ---- the same, where there is something to tell

unfoldable pub read_if : ℕ → Option Parts
read_if w = if is_read w then Some (reading w) else None

unfoldable pub write_if : Parts → Option ℕ
write_if p = if are_parts p then Some (writing p) else None
