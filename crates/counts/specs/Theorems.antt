-- What is proved of the counts, in either layout of a trace.
use Rattle.std.specs.Prelude.{◌≡◌, Bool, List, ℕ, zero, suc, ◌+◌, ◌<◌, length}
use Rattle.words.specs.Word.{word, Bytes}
use Rattle.state.specs.Number.{DONE}
use Rattle.rules.specs.declared.event.Event.{Event}
use Rattle.records.specs.Layout.{Layout, layout, layout_of}
use Rattle.records.specs.Published.{Published}
use Rattle.records.specs.Report.{ACCEPTED}
use Rattle.records.specs.Either.{report_of}
use Rattle.counts.specs.Counts.{Step, steps_from, steps_of, is_entry, is_done_check, how_many, count, gain, GROUP_SIZE, WORDS}
use Rattle.counts.specs.Counts.{COUNTS_SIZE, count_returns_of, count_leaves_of}

-- the sum of the counts of a group, over the numbers below m
unfoldable pub total_below : (group m : ℕ) → List Step → ℕ
total_below group zero ss = 0
total_below group (suc m) ss = count group m ss + total_below group m ss

-- over all numbers that have a word
abbrev pub total : ℕ → List Step → ℕ
total group = total_below group GROUP_SIZE

-- of the Steps of any events, from any block on
pub record OfSteps (L : Layout) (b : List ℕ) (es : List Event) : Type 0 where
  -- "the counts by answer number add up to the number of Steps", and so do those by code
  pub by_answer : total 2 (steps_from L b es) ≡ length es
  pub by_code : total 1 (steps_from L b es) ≡ length es
  -- no entry and no done check is left out
  pub by_target : total 3 (steps_from L b es) ≡ how_many is_entry (steps_from L b es)
  pub by_taken : total 4 (steps_from L b es) ≡ how_many is_done_check (steps_from L b es)

-- what counting a trace s onto the counts c leaves
pub record Counting (s c : List ℕ) : Type 0 where
  -- every word has grown by exactly the count of its class
  pub grown : count_returns_of s c ≡ DONE
      → (w : ℕ)
      → w < WORDS
      → word (count_leaves_of s c) w ≡ word c w + gain (steps_of (layout_of s) s) w
  pub size : count_returns_of s c ≡ DONE → length (count_leaves_of s c) ≡ COUNTS_SIZE
  -- any other answer leaves the counts, and a trace that is not accepted has one
  pub kept : (count_returns_of s c ≡ DONE → ⊥) → count_leaves_of s c ≡ c
  pub refused : ((report_of s).number ≡ ACCEPTED → ⊥) → count_returns_of s c ≡ DONE → ⊥

pub record Theorems : Type 0 where
  pub of_steps : (old : Bool) (b : List ℕ) (es : List Event) → OfSteps (layout old) b es
  -- what is counted of a published trace is the Steps of its events, in the layout that it is published in
  pub steps_counted : (old : Bool) (s : List ℕ) (p : Published (layout old) s)
      → steps_of (layout_of s) s ≡ steps_from (layout old) p.start p.events
  -- what group 2 gains from an accepted trace is the number of its Steps
  pub steps_gained : (s : List ℕ) → Bytes s → (report_of s).number ≡ ACCEPTED
      → total 2 (steps_of (layout_of s) s) ≡ (report_of s).steps
  pub counting : (s c : List ℕ) → Counting s c
