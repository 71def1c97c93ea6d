-- A monthly count over all traces (document 02, No. 1): four groups of exact counts, each defined from the list of accepted
-- Steps.
--
-- A count stands at a word of its own: number i of group g at word 32 (g - 1) + i. An accepted trace adds the counts of its
-- Steps to the words, a refused one adds nothing and keeps its number, and one that would carry any word past 4,294,967,295
-- is refused whole with 13 FULL.
use Rattle.std.specs.Prelude.{Bool, false, not, ◌&&◌, ◌||◌, List, [], ◌∷◌, ◌++◌, ℕ, zero, suc, ◌+◌, ◌/◌, ◌%◌, length, ltb, if◌then◌else◌}
use Rattle.words.specs.Word.{le32, word}
use Rattle.state.specs.Choice.{◌is◌}
use Rattle.state.specs.Number.{DONE, BAD_SIZE, FULL}
use Rattle.entry.specs.Code.{is_known, is_synchronous, INTERRUPT_CHECK}
use Rattle.rules.specs.declared.event.Event.{Event}
use Rattle.rules.specs.declared.verdict.Answer.{Answer}
use Rattle.records.specs.Layout.{Layout, layout_of}
use Rattle.records.specs.Report.{report, ACCEPTED}
use Rattle.records.specs.Claims.{start_of, events_of}

-- ---- Steps

-- an accepted Step: an event, and what the rules answered it
pub record Step : Type 0 where
  pub event : Event
  pub answer : Answer

module _ (L : Layout) where
  -- the Steps of these events, from the block b on
  unfoldable pub steps_from : List ℕ → List Event → List Step
  steps_from b [] = []
  steps_from b (e ∷ es) = record { event = e; answer = L.answer b e } ∷ steps_from (L.after b e) es

  -- those of the trace that the string s is
  abbrev pub steps_of : List ℕ → List Step
  steps_of s = steps_from (start_of L s) (events_of L s)

-- ---- the four groups

-- 1. "Steps by event code, with all codes that the rules do not know under the one number 0"
abbrev pub code_number : Step → ℕ
code_number s = if is_known s.event.code then s.event.code else 0

-- 2. "Steps by answer number"
abbrev pub answer_number : Step → ℕ
answer_number s = s.answer.number

abbrev pub is_done : Step → Bool
is_done s = s.answer.number is DONE

abbrev pub is_check : Step → Bool
is_check s = s.event.code is INTERRUPT_CHECK

-- an entry is a done exception of codes 1 to 8, or a done check that took one: its value is then not 0
abbrev pub is_entry : Step → Bool
is_entry s = is_done s && (is_synchronous s.event.code || (is_check s && not (s.answer.value is 0)))

-- 3. "entries by target mode": the value of an entry is which·65536 + mode·256 + offset
abbrev pub target_mode : Step → ℕ
target_mode s = s.answer.value / 256 % 256

-- 4. "done interrupt checks by which exception they took, 0 for nothing"
abbrev pub is_done_check : Step → Bool
is_done_check s = is_done s && is_check s

abbrev pub exception_taken : Step → ℕ
exception_taken s = s.answer.value / 65536

-- does the Step count in this group, under this number?
unfoldable pub counted : (group number : ℕ) → Step → Bool
counted group number s =
    if group is 1 then code_number s is number else
    if group is 2 then answer_number s is number else
    if group is 3 then is_entry s && (target_mode s is number) else
    if group is 4 then is_done_check s && (exception_taken s is number) else
    false

-- ---- counts

-- how many of the Steps pass a test
unfoldable pub how_many : (Step → Bool) → List Step → ℕ
how_many test [] = 0
how_many test (s ∷ ss) = (if test s then 1 else 0) + how_many test ss

abbrev pub count : (group number : ℕ) → List Step → ℕ
count group number = how_many (counted group number)

-- ---- the words

-- a group has so many words
abbrev pub GROUP_SIZE : ℕ
GROUP_SIZE = 32

-- and there are four
abbrev pub WORDS : ℕ
WORDS = 128

abbrev pub COUNTS_SIZE : ℕ
COUNTS_SIZE = 512

-- what the Steps add to the word w
abbrev pub gain : List Step → ℕ → ℕ
gain ss w = count (w / GROUP_SIZE + 1) (w % GROUP_SIZE) ss

-- the sums, each a word's before and what the Steps add to it
abbrev pub sum : List ℕ → List Step → ℕ → ℕ
sum counts ss w = word counts w + gain ss w

-- m words from w on, little-endian
unfoldable pub spell_words : (m w : ℕ) → (ℕ → ℕ) → List ℕ
spell_words zero w f = []
spell_words (suc m) w f = le32 (f w) ++ spell_words m (w + 1) f

-- does any of m words from w on pass 4,294,967,295?
unfoldable pub any_passes : (m w : ℕ) → (ℕ → ℕ) → Bool
any_passes zero w f = false
any_passes (suc m) w f = ltb 4294967295 (f w) || any_passes m (w + 1) f

-- ---- one trace

-- on any bytes and any counts: the number, and the counts after
module _ (L : Layout) where
  unfoldable pub count_returns : List ℕ → List ℕ → ℕ
  count_returns s counts =
      if not (length counts is COUNTS_SIZE) then BAD_SIZE else
      if not ((report L s).number is ACCEPTED) then (report L s).number else
      if any_passes WORDS 0 (sum counts (steps_of L s)) then FULL else
      DONE

  unfoldable pub count_leaves : List ℕ → List ℕ → List ℕ
  count_leaves s counts =
      if count_returns s counts is DONE then spell_words WORDS 0 (sum counts (steps_of L s)) else counts

-- in the layout of its Start (document 02, No. 11)
abbrev pub count_returns_of : List ℕ → List ℕ → ℕ
count_returns_of s = count_returns (layout_of s) s

abbrev pub count_leaves_of : List ℕ → List ℕ → List ℕ
count_leaves_of s = count_leaves (layout_of s) s
