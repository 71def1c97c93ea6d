-- What is proved of instruction words (document 02, No. 14).
use Rattle.std.specs.Prelude.{◌≡◌, true, ◌↔◌, ℕ, ◌<◌, ◌^◌}
use Rattle.state.specs.Number.{DONE, NOT_BANKED}
use Rattle.instruction.specs.Instruction.{Parts, no_parts, are_parts, reading, read_number, writing, write_number}

-- some parts are written as this word
pub record Written (w : ℕ) : Type 0 where
  pub parts : Parts
  pub are : are_parts parts ≡ true
  pub word : writing parts ≡ w

pub record InstructionTheorems : Type 0 where
  -- "Reading what was written gives the same parts"
  pub read_written : (p : Parts) → write_number p ≡ DONE → reading (writing p) ≡ p
  -- "and a word that is read is written back identically"
  pub written_read : (w : ℕ) → w < 2 ^ 32 → read_number w ≡ DONE → writing (reading w) ≡ w
  -- what is written is a word
  pub is_word : (p : Parts) → writing p < 2 ^ 32
  -- a word is read exactly where it is one that some parts are written as; else it is 18, with the parts 0
  pub read_exactly : (w : ℕ) → w < 2 ^ 32 → (read_number w ≡ DONE) ↔ Written w
  pub else_not_banked : (w : ℕ) → (read_number w ≡ DONE → ⊥) → (read_number w ≡ NOT_BANKED) × (reading w ≡ no_parts)
  -- parts are written exactly where they are "code 10 or 11, A 0-63, condition 0-14 and register 0-14"; else it is 18, with the word 0
  pub write_exactly : (p : Parts) → (write_number p ≡ DONE) ↔ (are_parts p ≡ true)
  pub else_no_word : (p : Parts) → (write_number p ≡ DONE → ⊥) → (write_number p ≡ NOT_BANKED) × (writing p ≡ 0)
  -- "E1002200 is MRS r2, R8_usr; E120F202 is MSR R8_usr, r2"
  pub mrs_r2 : reading 0xE1002200 ≡ record { code = 10; a = 0; condition = 14; register = 2 }
  pub msr_r2 : reading 0xE120F202 ≡ record { code = 11; a = 0; condition = 14; register = 2 }
