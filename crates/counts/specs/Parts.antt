-- What the inner functions of the counting ask and answer. Nobody has to believe these: the contracts of the public
-- functions cite Counts.antt alone.
use Rattle.std.specs.Prelude.{Option, None, Some, ◌≡◌, List, [], ◌∷◌, ℕ, zero, suc, length, drop, ltb, if◌then◌else◌}
use Rattle.std.specs.Prelude.{◌+◌, ◌/◌, ◌%◌, ◌<◌, ◌≤◌, ◌^◌}
use Rattle.words.specs.Word.{spelt, word, put}
use Rattle.records.specs.Layout.{Layout, step_size, number_at, value_at}
use Rattle.records.specs.Report.{event_of}
use Rattle.counts.specs.Counts.{Step, is_entry, target_mode, is_done_check, exception_taken, counted, gain}
use Rattle.counts.specs.Counts.{WORDS, GROUP_SIZE, COUNTS_SIZE}

-- ---- Steps as their records show them

abbrev pub shown_step : List ℕ → Step
shown_step r = record { event = event_of r; answer = record { number = spelt r number_at; value = spelt r value_at } }

unfoldable pub shown_steps : Layout → ℕ → List ℕ → List Step
shown_steps L zero r = []
shown_steps L (suc m) r = shown_step r ∷ shown_steps L m (drop (step_size L) r)

-- ---- the numbers of a Step

-- a Step by the words that the groups go by
abbrev pub step_of : ℕ → ℕ → ℕ → Step
step_of code number value =
    record {
      event = record { code = code; a = 0; b = 0 };
      answer = record { number = number; value = value };
    }

-- the number of a Step that counts nowhere in a group
abbrev pub NOWHERE : ℕ
NOWHERE = GROUP_SIZE

unfoldable pub target_number : Step → ℕ
target_number s = if is_entry s then target_mode s else NOWHERE

unfoldable pub taken_number : Step → ℕ
taken_number s = if is_done_check s then exception_taken s else NOWHERE

-- ---- a tally

-- the words of a tally, and none above n
pub record Tally (n : ℕ) (b : List ℕ) : Type 0 where
  pub size : length b ≡ COUNTS_SIZE
  pub small : (w : ℕ) → w < WORDS → word b w ≤ n

-- one more under this number of the group that begins at the word first
unfoldable pub bumped : List ℕ → ℕ → ℕ → List ℕ
bumped b first number =
    if ltb number GROUP_SIZE then put b (first + number) (word b (first + number) + 1) else b

-- c is b with a Step counted
pub record Counted (b : List ℕ) (s : Step) (c : List ℕ) : Type 0 where
  pub size : length c ≡ COUNTS_SIZE
  pub more : (w : ℕ) → w < WORDS
      → word c w ≡ word b w + (if counted (w / GROUP_SIZE + 1) (w % GROUP_SIZE) s then 1 else 0)

-- b is what the Steps add
pub record Gains (ss : List Step) (b : List ℕ) : Type 0 where
  pub size : length b ≡ COUNTS_SIZE
  pub words : (w : ℕ) → w < WORDS → word b w ≡ gain ss w

-- no sum of two words of the same place passes 4,294,967,295
abbrev pub Fits : List ℕ → List ℕ → Type 0
Fits a b = (w : ℕ) → w < WORDS → word a w + word b w < 2 ^ 32

-- a number that there may be, or one that has no word
abbrev pub or_nowhere : Option ℕ → ℕ
or_nowhere None = NOWHERE
or_nowhere (Some number) = number
