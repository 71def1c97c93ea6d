-- Words for what the theorems say of a report: what stands before its place, how far the string was judged, what a cut and
-- a changed trace are, what it is to be a checker, and the wrong checkers that the paper names.
use Rattle.std.specs.Prelude.{◌≡◌, ◌⊎◌, ◌↔◌, List, [], ◌∷◌, ◌++◌, ℕ, zero, suc, ◌+◌, ◌<◌, ◌≤◌, length, take, drop}
use Rattle.std.specs.Prelude.{get_or, eqb, ltb, if◌then◌else◌}
use Rattle.words.specs.Word.{spelt, Bytes}
use Rattle.rules.specs.declared.event.Event.{Event}
use Rattle.rules.specs.declared.verdict.Answer.{Answer}
use Rattle.records.specs.declared.report.Report.{Report}
use Rattle.records.specs.Layout.{Layout, head_size, start_size, step_size, end_size, most_steps, place_of, count_at}
use Rattle.records.specs.Layout.{start_block_at}
use Rattle.records.specs.Published.{AreEvents, start_record, end_record, step_showing, step_records, run, Published}
use Rattle.records.specs.Report.{event_of, report, ACCEPTED, SHORT, BAD_RECORD, BAD_COUNT, WRONG_STEP, TRAILING}

-- t is s, but for bytes at these places
pub record ChangedAt (places : ℕ → Type 0) (s t : List ℕ) : Type 0 where
  pub size : length s ≡ length t
  pub same : (i : ℕ) → (places i → ⊥) → get_or s i 0 ≡ get_or t i 0

-- refused with 9, 10 or 11
abbrev pub Misjudged : Report → Type 0
Misjudged v = (v.number ≡ BAD_RECORD) ⊎ (v.number ≡ BAD_COUNT) ⊎ (v.number ≡ WRONG_STEP)

module _ (L : Layout) where
  -- s is a published trace, the place is its length, and Steps is how many events it has
  pub record Accepted (s : List ℕ) (v : Report) : Type 0 where
    pub whole : Published L s
    pub place : v.place ≡ length s
    pub steps : v.steps ≡ length whole.events

  -- the first place bytes of s are a right Start and exactly this many right Steps
  pub record Begun (s : List ℕ) (place steps : ℕ) : Type 0 where
    pub start : List ℕ
    pub events : List Event
    pub count : ℕ
    pub size : length start ≡ L.size
    pub bytes : Bytes start
    pub few : count ≤ most_steps
    pub room : length events ≤ count
    pub words : AreEvents events
    pub all : length events ≡ steps
    pub is : take place s ≡ start_record L count start ++ step_records L start events

  -- the first place bytes of s are a whole published trace of this many Steps, and there are more
  pub record Trailed (s : List ℕ) (place steps : ℕ) : Type 0 where
    pub whole : Published L (take place s)
    pub all : length whole.events ≡ steps
    pub more : place < length s

  -- the size of the record that is due at a report's place: Start at 0, then as many Steps as Start counts, then End
  abbrev pub due_size : List ℕ → Report → ℕ
  due_size s v =
      if eqb v.place 0 then start_size L else
      if ltb v.steps (spelt s count_at) then step_size L else end_size

  -- where what was judged ends: for 9 the head, else the whole record
  abbrev pub judged_to : List ℕ → Report → ℕ
  judged_to s v = v.place + (if eqb v.number BAD_RECORD then head_size else due_size s v)

  -- what the report v says of s
  pub record Says (s : List ℕ) (v : Report) : Type 0 where
    -- accepted: s is a published trace, the place is its length and Steps is n
    pub accepted_whole : v.number ≡ ACCEPTED → Accepted s v
    -- refused at place 0: Steps is 0
    pub at_zero : v.place ≡ 0 → v.steps ≡ 0
    -- refused with 8, 9, 10 or 11 at a later place: up to it stand a right Start and exactly Steps right Steps
    pub begun_before : (v.number ≡ ACCEPTED → ⊥) → (v.number ≡ TRAILING → ⊥) → (v.place ≡ 0 → ⊥)
        → Begun s v.place v.steps
    -- refused with 12: up to the place stands a whole published trace of Steps Steps
    pub trailing_whole : v.number ≡ TRAILING → Trailed s v.place v.steps
    -- refused with 8: the record due is not whole
    pub short_not_whole : v.number ≡ SHORT → length s < v.place + due_size s v
    -- refused with 9, 10 or 11: what was judged, the head for 9 and the whole record else, is there
    pub judged_within : Misjudged v → judged_to s v ≤ length s
    -- and no published trace begins with the bytes up to its end
    pub no_trace_begins : Misjudged v → (t : List ℕ) → Published L (take (judged_to s v) s ++ t) → ⊥
    -- the place lies within the string, and is at most the length of the longest trace
    pub place_within : v.place ≤ length s
    pub place_fits : v.place ≤ place_of L most_steps + end_size

  -- a cut of a trace of n Steps after l bytes falls in the record at this place, or that record is missing, and k whole
  -- Steps lie before it
  pub data CutAt (n l : ℕ) : ℕ → ℕ → Type 0 where
    in_start : l < start_size L → CutAt n l 0 0
    in_step : (k : ℕ) → k < n → place_of L k ≤ l → l < place_of L (suc k) → CutAt n l (place_of L k) k
    in_end : place_of L n ≤ l → l < place_of L n + end_size → CutAt n l (place_of L n) n

  -- the record in which a cut after l bytes falls
  pub record Falls (n l : ℕ) : Type 0 where
    pub place : ℕ
    pub steps : ℕ
    pub at : CutAt n l place steps

  -- the published trace of the events es, e and fs from the block b, but for the Step of e, which shows the answer x and
  -- the block c
  unfoldable pub changed : List ℕ → List Event → Event → Answer → List ℕ → List Event → List ℕ
  changed b es e x c fs =
      let n = length es + suc (length fs) in
      start_record L n b
      ++ (step_records L b es ++ (step_showing L e x c ++ (step_records L (L.after (run L b es) e) fs ++ end_record n)))

  -- the start block that a trace names, and its events, one for each Step that its Start counts
  abbrev pub start_of : List ℕ → List ℕ
  start_of s = take L.size (drop start_block_at s)

  unfoldable pub events_from : ℕ → List ℕ → List Event
  events_from zero r = []
  events_from (suc m) r = event_of r ∷ events_from m (drop (step_size L) r)

  abbrev pub events_of : List ℕ → List Event
  events_of s = events_from (spelt s count_at) (drop (start_size L) s)

  -- what the contract of the checker asks of a function from byte strings to reports
  pub record Meets (f : List ℕ → Report) : Type 0 where
    pub reports : (s : List ℕ) → Bytes s → f s ≡ report L s
    pub exact : (s : List ℕ) → Bytes s → ((f s).number ≡ ACCEPTED) ↔ Published L s

  -- ---- the wrong checkers (document 01, "What the statements have to say")

  -- "refuses all"
  abbrev pub RefusesAll : (List ℕ → Report) → Type 0
  RefusesAll f = (s : List ℕ) → Bytes s → (f s).number ≡ ACCEPTED → ⊥

  -- "accepts all"
  abbrev pub AcceptsAll : (List ℕ → Report) → Type 0
  AcceptsAll f = (s : List ℕ) → Bytes s → (f s).number ≡ ACCEPTED

  -- the byte at i lies in one of the Steps that the Start of s counts; they are counted from 0
  pub record InStep (s : List ℕ) (i : ℕ) : Type 0 where
    pub step : ℕ
    pub counted : step < spelt s count_at
    pub from : place_of L step ≤ i
    pub to : i < place_of L (suc step)

  -- and in its body, behind the head, the Step not being the first
  pub record InLaterBody (s : List ℕ) (i : ℕ) : Type 0 where
    pub at : InStep s i
    pub later : 0 < at.step
    pub body : place_of L at.step + head_size ≤ i

  -- f leaves these places unread: a published trace that is changed there keeps its number. Nothing is asked of f on other
  -- strings, nor of place and Steps.
  abbrev pub LeavesUnread : (List ℕ → ℕ → Type 0) → (List ℕ → Report) → Type 0
  LeavesUnread places f =
      (s t : List ℕ) → Published L s → Bytes t → ChangedAt (places s) s t → (f s).number ≡ (f t).number

  -- "reads Start and End only"
  abbrev pub ReadsStartAndEndOnly : (List ℕ → Report) → Type 0
  ReadsStartAndEndOnly f = LeavesUnread InStep f

  -- "verifies the first Step and merely walks the others": it may read their heads, and not their bodies
  abbrev pub WalksTheOthers : (List ℕ → Report) → Type 0
  WalksTheOthers f = LeavesUnread InLaterBody f
