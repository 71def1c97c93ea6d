-- What is proved of opening, feeding and closing together: each contract is put in the place of its function, and the rest is what
-- records proves of sessions.
use mathlib.Core.Path.{◌≡◌, refl, sym, ap, ◌∙◌}
use mathlib.Core.Logic.{◌↔◌}
use mathlib.Core.Bool.{true}
use mathlib.Core.List.{List, ◌++◌}
use Prim.Native.Nat.{ℕ}
use native.Mathlib.Omega.{arith}
use lib.ListN.{length}
use borrow.Author.Tests.{eq-eqb}
use Rattle.words.specs.Word.{Bytes}
use Rattle.state.specs.Number.{DONE}
use Rattle.records.specs.declared.report.Report.{Report}
use Rattle.records.specs.declared.session.Session.{Session}
use Rattle.records.specs.Either.{report_of, PublishedInOne}
use Rattle.records.specs.Session.{CLOSED, opened_session, fed_session, fed_runs, feed_number, shutting, shut, closing}
use Rattle.records.specs.Arrival.{joined}
use Rattle.records.proofs.Arrivals.{arrival_of}
use Rattle.records.proofs.Joining.{joins, all_runs, arrival_of_both}
use Rattle.records.proofs.Joining as joining
use Rattle.console.specs.Check.{report_size, report_bytes, check_returns, check_leaves}
use Rattle.console.specs.Session.{Feeds, Closes, FedRuns, no_run, one_run, Arriving, Arrived, SessionTheorems}
use Rattle.console.specs.Session.{close_returns, close_keeps, close_leaves}

-- what was fed is the session after all runs
fed_is : (s : Session) (rs : List (List ℕ)) (t : Session) → FedRuns s rs t → t ≡ fed_runs s rs
unfolding fed_runs
fed_is _ _ _ (no_run s) = refl
fed_is _ _ _ (one_run s u t bytes n rs f more) =
    fed_is u rs t more ∙ ap (λ (v : Session). fed_runs v rs) f.leaves

-- closing over a buffer of its size
module _ (s s' : Session) (buffer buffer' : List ℕ) (n : ℕ) (h : length buffer ≡ report_size) (c : Closes s buffer n s' buffer') where
  returned : n ≡ (closing s.progress).number
  unfolding close_returns
  returned = c.number ∙ simp (eq-eqb (length buffer) report_size h)

  written : buffer' ≡ report_bytes (closing s.progress)
  unfolding close_leaves
  written = c.told ∙ simp (eq-eqb (length buffer) report_size h)

  left : s' ≡ shut s
  unfolding close_keeps
  left = c.leaves ∙ simp (eq-eqb (length buffer) report_size h)

-- opened and fed: the session after all runs
arrived : (rs : List (List ℕ)) (t : Session) → Arriving rs t → t ≡ fed_runs opened_session rs
arrived rs t a = fed_is a.first rs t a.feeds ∙ ap (λ (s : Session). fed_runs s rs) a.opens.leaves

-- and fed once more
fed_once_more : (rs : List (List ℕ)) (bytes : List ℕ) (s t : Session) (n : ℕ) → Arriving rs s → Feeds s bytes n t
    → n ≡ feed_number (fed_session opened_session (joined rs ++ bytes)).progress
fed_once_more rs bytes s t n a f =
    f.number
    ∙ ap (λ (u : Session). feed_number u.progress)
    (f.leaves
    ∙ ap (λ (u : Session). fed_session u bytes) (arrived rs s a ∙ all_runs rs)
    ∙ joins (joined rs) bytes
    ∙ sym (joining.one_run (joined rs ++ bytes)))

-- opened, fed and closed: the report of the whole
module _ (rs : List (List ℕ)) (n : ℕ) (buffer' : List ℕ) (j : Arrived rs n buffer') where
  reported : closing j.last.progress ≡ report_of (joined rs)
  reported =
      ap (λ (s : Session). closing s.progress) (arrived rs j.last j.arriving) ∙ arrival_of_both.closes_with_the_report rs

  number_is : n ≡ (report_of (joined rs)).number
  number_is =
      returned j.last j.left j.buffer buffer' n j.size j.closes ∙ ap (λ (v : Report). v.number) reported

  report_is : buffer' ≡ report_bytes (report_of (joined rs))
  report_is =
      written j.last j.left j.buffer buffer' n j.size j.closes ∙ ap report_bytes reported

pub theorems : SessionTheorems
unfolding check_returns check_leaves
theorems =
    record {
      as_checked = λ rs n buffer' buffer j h. (
        number_is rs n buffer' j ∙ sym (simp (eq-eqb (length buffer) report_size h)),
        report_is rs n buffer' j ∙ sym (simp (eq-eqb (length buffer) report_size h)),
      );
      exact = λ rs n buffer' by j. number_exact rs n buffer' by j;
      tells = λ rs bytes s t n a f. fed_once_more rs bytes s t n a f ∙ arrival_of_both.answers (joined rs ++ bytes);
      tells_from_the_byte = λ rs bytes s t n a f all j h e nz n8.
          fed_once_more rs bytes s t n a f
          ∙ ap (λ (r : List ℕ). feed_number (fed_session opened_session r).progress) e
          ∙ arrival_of_both.known_exactly all j h nz n8;
      empty_run = λ s t n f. f.leaves ∙ arrival_of_both.empty_run s;
      closed_feeding = λ s s' t buffer buffer' bytes n m h c f.
          let e = left s s' buffer buffer' n h c in
          let same : t ≡ s' =
          f.leaves
          ∙ ap (λ (u : Session). fed_session u bytes) e
          ∙ arrival_of_both.closed_stays (shut s) bytes (λ z. omega arith)
          ∙ sym e in
          let answer : m ≡ CLOSED =
          f.number
          ∙ ap (λ (u : Session). feed_number u.progress) (same ∙ e)
          ∙ (arrival_of true).closed_answers (shutting s.progress) (λ z. omega arith) in
          (answer, same);
      closed_again = λ s s' t buffer buffer' other other' n m h k c d.
          let e = left s s' buffer buffer' n h c in
          let same : closing s'.progress ≡ closing s.progress =
          ap (λ (u : Session). closing u.progress) e ∙ (arrival_of true).closes_again s.progress in (
            returned s' t other other' m k d ∙ ap (λ (v : Report). v.number) same ∙ sym (returned s s' buffer buffer' n h c),
            written s' t other other' m k d ∙ ap report_bytes same ∙ sym (written s s' buffer buffer' n h c),
            left s' t other other' m k d ∙ ap shut e ∙ (arrival_of true).shut_again s ∙ sym e,
          );
    }
  where
    number_exact : (rs : List (List ℕ)) (n : ℕ) (buffer' : List ℕ) → Bytes (joined rs) → Arrived rs n buffer'
        → (n ≡ DONE) ↔ PublishedInOne (joined rs)
    number_exact rs n buffer' by j =
        let e = number_is rs n buffer' j ∙ sym (ap (λ (v : Report). v.number) (arrival_of_both.closes_with_the_report rs)) in
        let x = arrival_of_both.accepts_exactly rs by in
        ((λ z. x.0 (sym e ∙ z)), (λ q. e ∙ x.1 q))
