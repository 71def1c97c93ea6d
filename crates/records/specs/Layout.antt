-- The layout of a trace (document 01, "The trace"): what its records' sizes and kinds are, and by which rules its Steps go.
--
-- All that is said of traces is said of any layout, which is a value of Layout, and of Lawful, which has what the theorems ask of
-- it. There are two (document 02, No. 11).
use Rattle.std.specs.Prelude.{◌≡◌, Bool, true, false, not, ◌&&◌, List, ◌++◌, ℕ, ◌+◌, ◌*◌, ◌<◌, ◌^◌, length, take, leb}
use Rattle.words.specs.Word.{half, le32, Bytes}
use Rattle.state.specs.Choice.{◌is◌}
use Rattle.state.specs.Place.{BLOCK_SIZE, OLD_BLOCK_SIZE}
use Rattle.rules.specs.declared.event.Event.{Event}
use Rattle.rules.specs.declared.verdict.Answer.{Answer}
use Rattle.rules.specs.Known.{seen}
use Rattle.rules.specs.Step.{answer, after}

-- the stages of a session: the Start is due; nothing more, which any higher number says too. Behind a Start stands that of its layout
abbrev pub AT_START : ℕ
AT_START = 0

abbrev pub OVER : ℕ
OVER = 3

-- the bytes of a block, the kinds of a Start and of a Step, the stage of a session that waits for a Step or the End, and the rules:
-- what an event answers, and the block after it
pub record Layout : Type 0 where
  pub size : ℕ
  pub start_kind : ℕ
  pub step_kind : ℕ
  pub next : ℕ
  pub answer : List ℕ → Event → Answer
  pub after : List ℕ → Event → List ℕ

-- ---- the two layouts

-- an old block as the machine has it: "with HDCR 0"
abbrev pub with_hdcr0 : List ℕ → List ℕ
with_hdcr0 b = b ++ le32 0

-- the old one is document 01's: blocks of 176 bytes, Start of kind 1, Step of kind 2. "Kinds 1 and 2 are still read, with HDCR 0,
-- and there debug and notes on place 44 are BAD_EVENT"
abbrev pub old_layout : Layout
old_layout =
    record {
      size = OLD_BLOCK_SIZE;
      start_kind = 1;
      step_kind = 2;
      next = 1;
      answer = λ b e. answer (with_hdcr0 b) (seen true e);
      after = λ b e. take OLD_BLOCK_SIZE (after (with_hdcr0 b) (seen true e));
    }

-- "Traces with the new block use Start kind 4 (188 bytes) and Step kind 5 (204)"
abbrev pub new_layout : Layout
new_layout =
    record {
      size = BLOCK_SIZE;
      start_kind = 4;
      step_kind = 5;
      next = 2;
      answer = λ b e. answer b (seen false e);
      after = λ b e. after b (seen false e);
    }

-- the old one, or the new
abbrev pub layout : Bool → Layout
layout true = old_layout
layout false = new_layout

-- ---- sizes of records

-- a head: the length of the whole record and its kind, two bytes each
abbrev pub head_size : ℕ
head_size = 4

-- Start (184 bytes, or 188): head, step count, block
abbrev pub start_size : Layout → ℕ
start_size L = 8 + L.size

-- Step (200 bytes, or 204): head, code, A, B, answer, value, block after
abbrev pub step_size : Layout → ℕ
step_size L = 24 + L.size

-- End (8, kind 3): head, step count
abbrev pub end_size : ℕ
end_size = 8

abbrev pub end_kind : ℕ
end_kind = 3

-- n is at most 65,535
abbrev pub most_steps : ℕ
most_steps = 65535

-- where the record after a Start and k Steps begins
abbrev pub place_of : Layout → ℕ → ℕ
place_of L k = start_size L + step_size L * k

-- ---- where the parts of a record begin

-- of every head: the length and the kind
abbrev pub length_at : ℕ
length_at = 0

abbrev pub kind_at : ℕ
kind_at = 2

-- of Start and End: the step count; of Start: the block
abbrev pub count_at : ℕ
count_at = 4

abbrev pub start_block_at : ℕ
start_block_at = 8

-- of a Step: code, A, B, answer, value and block after
abbrev pub code_at : ℕ
code_at = 4

abbrev pub a_at : ℕ
a_at = 8

abbrev pub b_at : ℕ
b_at = 12

abbrev pub number_at : ℕ
number_at = 16

abbrev pub value_at : ℕ
value_at = 20

abbrev pub block_after_at : ℕ
block_after_at = 24

-- ---- which layout a string has

-- it goes by the kind of its Start; what has no head of the new one is old
unfoldable pub is_old : List ℕ → Bool
is_old s = not (leb head_size (length s) && half s kind_at is new_layout.start_kind)

abbrev pub layout_of : List ℕ → Layout
layout_of s = layout (is_old s)

-- ---- what the theorems ask of a layout

pub record Lawful (L : Layout) : Type 0 where
  -- lengths and kinds are two bytes each
  pub step_fits : step_size L < 2 ^ 16
  pub start_kind_fits : L.start_kind < 2 ^ 16
  pub step_kind_fits : L.step_kind < 2 ^ 16
  -- its stage is none of the two others
  pub next_behind : L.next ≡ AT_START → ⊥
  pub next_going : L.next < OVER
  -- from a block of the layout's size a Step leaves one of that size, and its answer is two words; nothing is asked of
  -- the rules on other blocks
  pub length_after : (b : List ℕ) (e : Event) → length b ≡ L.size → length (L.after b e) ≡ L.size
  pub bytes_after : (b : List ℕ) (e : Event) → length b ≡ L.size → Bytes b → Bytes (L.after b e)
  pub number_fits : (b : List ℕ) (e : Event) → length b ≡ L.size → (L.answer b e).number < 2 ^ 32
  pub value_fits : (b : List ℕ) (e : Event) → length b ≡ L.size → Bytes b → (L.answer b e).value < 2 ^ 32
