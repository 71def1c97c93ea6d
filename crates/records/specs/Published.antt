-- What a recorder publishes (document 01, "The trace"): one Start, n Steps, one End, all little-endian.
use Rattle.std.specs.Prelude.{◌≡◌, List, [], ◌∷◌, ◌++◌, ℕ, ◌<◌, ◌≤◌, ◌^◌, length}
use Rattle.words.specs.Word.{le16, le32, Bytes}
use Rattle.rules.specs.declared.event.Event.{Event}
use Rattle.rules.specs.declared.verdict.Answer.{Answer}
use Rattle.rules.specs.Run.{run_by}
use Rattle.rules.specs.Step.{answer_bytes}
use Rattle.records.specs.Layout.{Layout, start_size, step_size, end_size, end_kind, most_steps}

-- an event is three words (document 01, "Events")
pub record IsEvent (e : Event) : Type 0 where
  pub code : e.code < 2 ^ 32
  pub a : e.a < 2 ^ 32
  pub b : e.b < 2 ^ 32

abbrev pub AreEvents : List Event → Type 0
AreEvents [] = Unit {0}
AreEvents (e ∷ es) = IsEvent e × AreEvents es

-- an answer is two words, number and value (document 01, "Answer numbers")
pub record IsAnswer (x : Answer) : Type 0 where
  pub number : x.number < 2 ^ 32
  pub value : x.value < 2 ^ 32

-- ---- records

-- two bytes of length, two bytes of kind
abbrev pub head : ℕ → ℕ → List ℕ
head len kind = le16 len ++ le16 kind

abbrev pub event_bytes : Event → List ℕ
event_bytes e = le32 e.code ++ (le32 e.a ++ le32 e.b)

-- End: n
unfoldable pub end_record : ℕ → List ℕ
end_record n = head end_size end_kind ++ le32 n

module _ (L : Layout) where
  -- Start: step count n, block
  unfoldable pub start_record : ℕ → List ℕ → List ℕ
  start_record n b = head (start_size L) L.start_kind ++ (le32 n ++ b)

  -- a Step that shows this event, this answer and this block after
  unfoldable pub step_showing : Event → Answer → List ℕ → List ℕ
  step_showing e x c = head (step_size L) L.step_kind ++ (event_bytes e ++ (answer_bytes x ++ c))

  -- Step: what the rules give from the block before
  abbrev pub step_record : List ℕ → Event → List ℕ
  step_record b e = step_showing e (L.answer b e) (L.after b e)

  -- the Steps of these events, from the block b on
  unfoldable pub step_records : List ℕ → List Event → List ℕ
  step_records b [] = []
  step_records b (e ∷ es) = step_record b e ++ step_records (L.after b e) es

  -- the block after these events
  abbrev pub run : List ℕ → List Event → List ℕ
  run = run_by L.after

  unfoldable pub published : List ℕ → List Event → List ℕ
  published b es = start_record (length es) b ++ (step_records b es ++ end_record (length es))

  -- s is the published trace of some start block and some list of at most 65,535 events, and nothing more. The block
  -- may be one that is not good.
  pub record Published (s : List ℕ) : Type 0 where
    pub start : List ℕ
    pub events : List Event
    pub size : length start ≡ L.size
    pub bytes : Bytes start
    pub few : length events ≤ most_steps
    pub words : AreEvents events
    pub is : s ≡ published start events
