-- Which table the word is laid out by, and its parts there.
use mathlib.Core.Path.{sym, ap, ◌∙◌}
use Prim.Native.Nat.{ℕ, ◌/◌, ◌%◌}
use Rattle.entry.specs.Code.{BANKED_READ, BANKED_WRITE}
use Rattle.instruction.specs.Instruction.{Parts}
use Rattle.instruction.proofs.Reading.{if_in_range, read_mrs, read_msr, read_none}
use Rattle.instruction.proofs.Tests.{mrs_bits, msr_bits}
use Rattle.instruction.proofs.read.Goals as goal

-- the parts with this A
abbrev mrs_with : ℕ → ℕ → Parts
mrs_with w a = record { code = BANKED_READ; a = a; condition = w / 0x10000000; register = w / 0x1000 % 16 }

abbrev msr_with : ℕ → ℕ → Parts
msr_with w a = record { code = BANKED_WRITE; a = a; condition = w / 0x10000000; register = w % 16 }

pub returns-then-has_bits : goal.returns-then-has_bits
returns-then-has_bits c =
    let w = c.args.word in
    c.within.ensures
    ∙ ap (λ a. if_in_range (mrs_with w a)) c.a_of.ensures
    ∙ read_mrs w c.ranges.word.fits (sym (c.has_bits.ensures ∙ mrs_bits w) ∙ c.if-has_bits.true)

pub returns-then-has_bits-2 : goal.returns-then-has_bits-2
returns-then-has_bits-2 c =
    let w = c.args.word in
    c.within-then-has_bits-2.ensures
    ∙ ap (λ a. if_in_range (msr_with w a)) c.a_of-then-has_bits-2.ensures
    ∙ read_msr w c.ranges.word.fits (sym (c.has_bits.ensures ∙ mrs_bits w) ∙ c.if-has_bits.false)
    (sym (c.has_bits-2.ensures ∙ msr_bits w) ∙ c.if-has_bits-2.true)

pub returns : goal.returns
returns c =
    let w = c.args.word in
    let no_mrs = sym (c.has_bits.ensures ∙ mrs_bits w) ∙ c.if-has_bits.false in
    let no_msr = sym (c.has_bits-2.ensures ∙ msr_bits w) ∙ c.if-has_bits-2.false in
    read_none w no_mrs no_msr
