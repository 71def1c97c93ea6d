-- What is wrong with a trace that is refused with WRONG_STEP (document 01, "The trace": "anything but what the rules give
-- from the block before"): the first part of that Step that differs, the word found there and the word due.
--
-- The rules decide the words of a Step behind its event. In the order of the record's bytes they are its parts: 1 the
-- answer number, 2 the value, 3 + p the word at the place p of the block after. The block before is the one that the
-- events of the right Steps lead to from the start block. For any other report there is nothing to explain, and part,
-- found and due are 0.
use Rattle.std.specs.Prelude.{Option, None, Some, List, ℕ, zero, suc, ◌+◌, ◌-◌, ◌/◌, take, drop, if◌then◌else◌}
use Rattle.words.specs.Word.{spelt, word}
use Rattle.state.specs.Choice.{◌is◌}
use Rattle.rules.specs.declared.verdict.Answer.{Answer}
use Rattle.records.specs.declared.report.Report.{Report}
use Rattle.records.specs.Layout.{Layout, start_size, number_at, value_at, block_after_at}
use Rattle.records.specs.Published.{run}
use Rattle.records.specs.Report.{WRONG_STEP, event_of, report}
use Rattle.records.specs.Claims.{start_of, events_from}
use Rattle.explain.specs.declared.Difference.{Difference}
use Rattle.explain.specs.declared.Explanation.{Explanation}

-- ---- the parts of a Step

abbrev pub NUMBER_PART : ℕ
NUMBER_PART = 1

abbrev pub VALUE_PART : ℕ
VALUE_PART = 2

abbrev pub BLOCK_PART : ℕ
BLOCK_PART = 3

-- how many there are (46 in the old layout, 47 in the new): number, value, and a word for every four bytes of a block
abbrev pub parts : Layout → ℕ
parts L = 2 + L.size / 4

-- the word of a part, by the answer and the block after
abbrev pub part_word : Answer → List ℕ → ℕ → ℕ
part_word x c part =
    if part is NUMBER_PART then x.number else
    if part is VALUE_PART then x.value else
    word c (part - BLOCK_PART)

-- ---- the first difference

-- no part differs
abbrev pub none : Difference
none = record { part = 0; found = 0; due = 0 }

-- one that there may be
abbrev pub told : Option Difference → Difference
told None = none
told (Some d) = d

-- of m parts from this one on, the first at which the word found is not the word due
unfoldable pub differing : (m part : ℕ) → (ℕ → ℕ) → (ℕ → ℕ) → Difference
differing zero part found due = none
differing (suc m) part found due =
    if found part is due part then differing m (part + 1) found due else
    record { part = part; found = found part; due = due part }

module _ (L : Layout) where
  -- the words that a Step shows, r being what is left of the string from its first byte on
  abbrev pub word_found : List ℕ → ℕ → ℕ
  word_found r = part_word (record { number = spelt r number_at; value = spelt r value_at }) (take L.size (drop block_after_at r))

  -- the words that the rules give on its event from the block b before
  abbrev pub word_due : List ℕ → List ℕ → ℕ → ℕ
  word_due b r = part_word (L.answer b (event_of r)) (L.after b (event_of r))

  -- the first part at which the Step is not what the rules give from the block b before
  unfoldable pub step_difference : List ℕ → List ℕ → Difference
  step_difference b r = differing (parts L) NUMBER_PART (word_found r) (word_due b r)

  -- ---- the string

  -- the block before the Step after k Steps: the start block, and the k events from there
  abbrev pub block_before : ℕ → List ℕ → List ℕ
  block_before k s = run L (start_of L s) (events_from L k (drop (start_size L) s))

  -- what there is to explain of a report
  abbrev pub wrong_part : List ℕ → Report → Difference
  wrong_part s v =
      if v.number is WRONG_STEP then step_difference (block_before v.steps s) (drop v.place s) else none

  -- a report with a difference
  abbrev pub explained : Report → Difference → Explanation
  explained v d =
      record {
        number = v.number;
        place = v.place;
        steps = v.steps;
        part = d.part;
        found = d.found;
        due = d.due;
      }

  -- the explanation of any string
  unfoldable pub explanation : List ℕ → Explanation
  explanation s = explained (report L s) (wrong_part s (report L s))
