-- What is proved of a trace that is judged as it arrives (document 02, No. 6), in whichever lawful layout it is.
use Rattle.std.specs.Prelude.{◌≡◌, ◌↔◌, List, [], ◌∷◌, ◌++◌, ℕ, ◌+◌, ◌≤◌, length, take, leb, if◌then◌else◌}
use Rattle.words.specs.Word.{Bytes}
use Rattle.state.specs.Choice.{◌is◌}
use Rattle.records.specs.declared.report.Report.{Report}
use Rattle.records.specs.declared.session.Progress.{Progress}
use Rattle.records.specs.declared.session.Session.{Session}
use Rattle.records.specs.Layout.{Layout, layout_of}
use Rattle.records.specs.Published.{Published}
use Rattle.records.specs.Report.{report, ACCEPTED, SHORT, TRAILING}
use Rattle.records.specs.Claims.{judged_to}
use Rattle.records.specs.Session.{CLOSED, feed_number, closing, shutting, shut, opened, fed, fed_all}
use Rattle.records.specs.Session.{opened_session, fed_session, fed_runs}
use Rattle.records.specs.Either.{report_of, PublishedInOne}

-- all bytes of these runs
abbrev pub joined : List (List ℕ) → List ℕ
joined [] = []
joined (r ∷ rs) = r ++ joined rs

-- what a feeding answers where the bytes so far have this number: SHORT is no fault yet
abbrev pub known_number : ℕ → ℕ
known_number n = if n is SHORT then 0 else n

-- with how many bytes the fault of s is known, v being its report: BAD-RECORD with the last of the head, TRAILING with the first
-- byte too many, the others with the record's last
abbrev pub known_with : Layout → List ℕ → Report → ℕ
known_with L s v = if v.number is TRAILING then v.place + 1 else judged_to L s v

pub record Arrival (L : Layout) : Type 0 where
  -- ---- a session that was opened, fed these runs, and closed

  -- however the bytes are cut, every byte of the session is the same
  pub however_cut : (rs : List (List ℕ)) → fed_all L (opened L) rs ≡ fed L (opened L) (joined rs)
  -- closing gives the report of the whole
  pub closes_with_the_report : (rs : List (List ℕ)) → closing (fed_all L (opened L) rs).progress ≡ report L (joined rs)
  -- so demand 3 holds of it: number 0 exactly where a start block and at most 65,535 events publish the bytes and nothing more
  pub accepts_exactly : (rs : List (List ℕ)) → Bytes (joined rs)
      → ((closing (fed_all L (opened L) rs).progress).number ≡ ACCEPTED) ↔ Published L (joined rs)
  -- ---- what a feeding answers, of the bytes up to its last

  -- the number that closing would give, but that SHORT is none yet
  pub answers : (s : List ℕ) → feed_number (fed L (opened L) s).progress ≡ known_number (report L s).number
  -- a fault is answered from the very byte on with which it is known, and before it 0
  pub known_exactly : (s : List ℕ) (j : ℕ) → j ≤ length s → ((report L s).number ≡ ACCEPTED → ⊥) → ((report L s).number ≡ SHORT → ⊥)
      → feed_number (fed L (opened L) (take j s)).progress
      ≡ (if leb (known_with L s (report L s)) j then (report L s).number else 0)
  -- where the string has no fault, or is short, 0 is answered all along
  pub nothing_known : (s : List ℕ) (j : ℕ) → known_number (report L s).number ≡ 0
      → feed_number (fed L (opened L) (take j s)).progress ≡ 0
  -- SHORT is never answered
  pub never_short : (s : List ℕ) → feed_number (fed L (opened L) s).progress ≡ SHORT → ⊥
  -- ---- any session, also one that nobody opened

  -- an empty run changes nothing
  pub empty_run : (s : Session) → fed L s [] ≡ s
  -- once a fault is known no byte changes anything
  pub fault_stays : (s : Session) (r : List ℕ) → (s.progress.fault ≡ 0 → ⊥) → fed L s r ≡ s
  -- a feeding after closing answers CLOSED and changes nothing, whatever was known before
  pub closed_stays : (s : Session) (r : List ℕ) → (s.progress.closed ≡ 0 → ⊥) → fed L s r ≡ s
  pub closed_answers : (p : Progress) → (p.closed ≡ 0 → ⊥) → feed_number p ≡ CLOSED
  -- closing again gives the same three numbers, and changes nothing
  pub closes_again : (p : Progress) → closing (shutting p) ≡ closing p
  pub shut_again : (s : Session) → shut (shut s) ≡ shut s

-- the same of the session that is shipped, whose bytes may be of either layout
pub record ArrivalOfBoth : Type 0 where
  -- ---- a session that was opened, fed these runs, and closed

  -- however the bytes are cut, every byte of the session is the same
  pub however_cut : (rs : List (List ℕ)) → fed_runs opened_session rs ≡ fed_session opened_session (joined rs)
  -- closing gives the report of the whole
  pub closes_with_the_report : (rs : List (List ℕ)) → closing (fed_runs opened_session rs).progress ≡ report_of (joined rs)
  -- so demand 3 holds of it: number 0 exactly where the bytes are a published trace of either layout and nothing more
  pub accepts_exactly : (rs : List (List ℕ)) → Bytes (joined rs)
      → ((closing (fed_runs opened_session rs).progress).number ≡ ACCEPTED) ↔ PublishedInOne (joined rs)
  -- ---- what a feeding answers, of the bytes up to its last

  -- the number that closing would give, but that SHORT is none yet
  pub answers : (s : List ℕ) → feed_number (fed_session opened_session s).progress ≡ known_number (report_of s).number
  -- a fault is answered from the very byte on with which it is known, and before it 0
  pub known_exactly : (s : List ℕ) (j : ℕ) → j ≤ length s → ((report_of s).number ≡ ACCEPTED → ⊥) → ((report_of s).number ≡ SHORT → ⊥)
      → feed_number (fed_session opened_session (take j s)).progress
      ≡ (if leb (known_with (layout_of s) s (report_of s)) j then (report_of s).number else 0)
  -- where the string has no fault, or is short, 0 is answered all along
  pub nothing_known : (s : List ℕ) (j : ℕ) → known_number (report_of s).number ≡ 0
      → feed_number (fed_session opened_session (take j s)).progress ≡ 0
  -- SHORT is never answered
  pub never_short : (s : List ℕ) → feed_number (fed_session opened_session s).progress ≡ SHORT → ⊥
  -- ---- any session, also one that nobody opened

  -- an empty run changes nothing
  pub empty_run : (s : Session) → fed_session s [] ≡ s
  -- once a fault is known no byte changes anything, nor after closing
  pub fault_stays : (s : Session) (r : List ℕ) → (s.progress.fault ≡ 0 → ⊥) → fed_session s r ≡ s
  pub closed_stays : (s : Session) (r : List ℕ) → (s.progress.closed ≡ 0 → ⊥) → fed_session s r ≡ s
