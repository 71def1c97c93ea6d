-- What C gets of a trace judged as it arrives (document 02, No. 6): a session that it lends, and at closing a report of 12 bytes.
-- Nothing is asked of a session: what is said here is said of one that nobody opened, too.
use Rattle.std.specs.Prelude.{◌≡◌, ◌↔◌, List, [], ◌∷◌, ◌++◌, ℕ, ◌≤◌, length, take, leb, if◌then◌else◌}
use Rattle.words.specs.Word.{Bytes}
use Rattle.state.specs.Choice.{◌is◌}
use Rattle.state.specs.Number.{DONE, BAD_SIZE}
use Rattle.records.specs.declared.session.Progress.{Progress}
use Rattle.records.specs.declared.session.Session.{Session}
use Rattle.records.specs.Layout.{layout_of}
use Rattle.records.specs.Either.{report_of, PublishedInOne}
use Rattle.records.specs.Report.{SHORT}
use Rattle.records.specs.Session.{CLOSED, session, opened_session, fed_session, feed_number, shutting, closing}
use Rattle.records.specs.Arrival.{joined, known_number, known_with}
use Rattle.console.specs.Check.{report_size, report_bytes, check_returns, check_leaves}

-- opening returns 0 and leaves a session before its first byte
pub record Opens (n : ℕ) (s' : Session) : Type 0 where
  pub number : n ≡ DONE
  pub leaves : s' ≡ opened_session

-- feeding leaves the session after the bytes, and returns the fault that is known then, or 14 CLOSED
pub record Feeds (s : Session) (bytes : List ℕ) (n : ℕ) (s' : Session) : Type 0 where
  pub number : n ≡ feed_number s'.progress
  pub leaves : s' ≡ fed_session s bytes

-- closing returns the number and writes the report; the session is as it was, but closed. Another size of report is BAD-SIZE and
-- changes nothing
unfoldable pub close_returns : Progress → List ℕ → ℕ
close_returns p buffer = if length buffer is report_size then (closing p).number else BAD_SIZE

unfoldable pub close_keeps : Progress → List ℕ → Progress
close_keeps p buffer = if length buffer is report_size then shutting p else p

unfoldable pub close_leaves : Progress → List ℕ → List ℕ
close_leaves p buffer = if length buffer is report_size then report_bytes (closing p) else buffer

pub record Closes (s : Session) (buffer : List ℕ) (n : ℕ) (s' : Session) (buffer' : List ℕ) : Type 0 where
  pub number : n ≡ close_returns s.progress buffer
  pub leaves : s' ≡ session (close_keeps s.progress buffer) s.block s.unfinished
  pub told : buffer' ≡ close_leaves s.progress buffer

-- ---- calls one after another

-- runs were fed to a session, each as `Feeds` says, and it has become another
pub data FedRuns : Session → List (List ℕ) → Session → Type 0 where
  no_run : (s : Session) → FedRuns s [] s
  one_run : (s u t : Session) (bytes : List ℕ) (n : ℕ) (rs : List (List ℕ)) → Feeds s bytes n u → FedRuns u rs t
      → FedRuns s (bytes ∷ rs) t

-- a session was opened, these runs were fed, and it is t now
pub record Arriving (rs : List (List ℕ)) (t : Session) : Type 0 where
  pub returned : ℕ
  pub first : Session
  pub opens : Opens returned first
  pub feeds : FedRuns first rs t

-- and it was closed over a buffer of 12 bytes: what was returned, and what the buffer became
pub record Arrived (rs : List (List ℕ)) (n : ℕ) (buffer' : List ℕ) : Type 0 where
  pub last : Session
  pub left : Session
  pub buffer : List ℕ
  pub size : length buffer ≡ report_size
  pub arriving : Arriving rs last
  pub closes : Closes last buffer n left buffer'

-- what is proved of the three functions together
pub record SessionTheorems : Type 0 where
  -- however the bytes were cut, what closing returns and writes is what `pomurica_check` does of the whole
  pub as_checked : (rs : List (List ℕ)) (n : ℕ) (buffer' buffer : List ℕ) → Arrived rs n buffer' → length buffer ≡ report_size
      → (n ≡ check_returns (joined rs) buffer) × (buffer' ≡ check_leaves (joined rs) buffer)
  -- and it returns 0 exactly where the bytes are a published trace of either layout and nothing more
  pub exact : (rs : List (List ℕ)) (n : ℕ) (buffer' : List ℕ) → Bytes (joined rs) → Arrived rs n buffer'
      → (n ≡ DONE) ↔ PublishedInOne (joined rs)
  -- a feeding returns the number that closing would give for the bytes so far, but 0 in place of SHORT
  pub tells : (rs : List (List ℕ)) (bytes : List ℕ) (s t : Session) (n : ℕ) → Arriving rs s → Feeds s bytes n t
      → n ≡ known_number (report_of (joined rs ++ bytes)).number
  -- so where they are the first j bytes of a string with a fault: its number from the byte on with which it is known, before it 0
  pub tells_from_the_byte : (rs : List (List ℕ)) (bytes : List ℕ) (s t : Session) (n : ℕ) → Arriving rs s → Feeds s bytes n t
      → (all : List ℕ) (j : ℕ)
      → j ≤ length all
      → joined rs ++ bytes ≡ take j all
      → ((report_of all).number ≡ DONE → ⊥)
      → ((report_of all).number ≡ SHORT → ⊥)
      → n ≡ (if leb (known_with (layout_of all) all (report_of all)) j then (report_of all).number else 0)
  -- an empty run changes nothing, of any session
  pub empty_run : (s t : Session) (n : ℕ) → Feeds s [] n t → t ≡ s
  -- after closing a feeding answers 14 and changes nothing, and closing again gives the same
  pub closed_feeding : (s s' t : Session) (buffer buffer' bytes : List ℕ) (n m : ℕ) → length buffer ≡ report_size
      → Closes s buffer n s' buffer' → Feeds s' bytes m t → (m ≡ CLOSED) × (t ≡ s')
  pub closed_again : (s s' t : Session) (buffer buffer' other other' : List ℕ) (n m : ℕ) → length buffer ≡ report_size
      → length other ≡ report_size → Closes s buffer n s' buffer' → Closes s' other m t other'
      → (m ≡ n) × (other' ≡ buffer') × (t ≡ s')
