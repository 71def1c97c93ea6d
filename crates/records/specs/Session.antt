-- A trace judged as it arrives (document 02, No. 6): a checker that is opened, fed byte runs of any length, and closed.
--
-- A byte is held until its record is whole. The fourth one shows whether the record is the one due, the last one whether it is
-- right. A right record is forgotten, but for the block that it leaves; once a fault is known nothing is kept but the numbers.
-- All that is said here is said of any session, also of one that no opening and no feeding made.
use Rattle.std.specs.Prelude.{Bool, not, ◌&&◌, List, [], ◌∷◌, ◌++◌, ℕ, zero, suc, ◌+◌, ◌%◌, ◌^◌, length, take, drop}
use Rattle.std.specs.Prelude.{replicate, leb, ltb, if◌then◌else◌}
use Rattle.std.proofs.lemmas.List.Edits.{sets}
use Rattle.words.specs.Word.{spelt}
use Rattle.state.specs.Choice.{◌is◌}
use Rattle.records.specs.declared.report.Report.{Report}
use Rattle.records.specs.declared.session.Progress.{Progress}
use Rattle.records.specs.declared.session.Session.{Session}
use Rattle.records.specs.Layout.{Layout, layout, new_layout, head_size, start_size, step_size, end_size, end_kind}
use Rattle.records.specs.Layout.{count_at, start_block_at}
use Rattle.records.specs.Layout.{is_old}
pub use Rattle.records.specs.Layout.{AT_START, OVER}
use Rattle.records.specs.Report.{unless, ◌else◌, head_number, start_number, step_number, end_number, event_of, SHORT, TRAILING}
pub use Rattle.state.specs.Number.{CLOSED}

-- ---- a session: its numbers, the last block, and the bytes of one unfinished record

abbrev pub session : Progress → List ℕ → List ℕ → Session
session p b u = record { progress = p; block = b; unfinished = u }

abbrev pub is_over : Progress → Bool
is_over p = leb OVER p.stage

-- it is open, and no fault is known
abbrev pub is_live : Progress → Bool
is_live p = (p.closed is 0) && (p.fault is 0)

-- the numbers with another number of bytes held; with a fault, and none held; closed
abbrev pub holding : Progress → ℕ → Progress
holding p n =
    record {
      stage = p.stage;
      count = p.count;
      steps = p.steps;
      place = p.place;
      held = n;
      fault = p.fault;
      closed = p.closed;
    }

abbrev pub refusing : Progress → ℕ → Progress
refusing p fault =
    record {
      stage = p.stage;
      count = p.count;
      steps = p.steps;
      place = p.place;
      held = 0;
      fault = fault;
      closed = p.closed;
    }

abbrev pub shutting : Progress → Progress
shutting p =
    record {
      stage = p.stage;
      count = p.count;
      steps = p.steps;
      place = p.place;
      held = p.held;
      fault = p.fault;
      closed = 1;
    }

-- what goes by the record due: a Start, then as many Steps as it counts, then an End
abbrev pub due : {A : Type 0} → Progress → A → A → A → A
due p start step end = if p.stage is AT_START then start else if ltb p.steps p.count then step else end

-- n and Steps that it leaves where it is right, r being its bytes
abbrev pub due_count : Progress → List ℕ → ℕ
due_count p r = due p (spelt r count_at) p.count p.count

abbrev pub due_steps : Progress → ℕ
due_steps p = due p 0 (p.steps + 1) p.steps

-- ---- what is answered

-- a feeding: 14 CLOSED after closing, else the fault that is known
abbrev pub feed_number : Progress → ℕ
feed_number p = if p.closed is 0 then p.fault else CLOSED

-- a closing: the fault that is known, else 8 SHORT where the End has not come
abbrev pub close_number : Progress → ℕ
close_number p = p.fault else unless (is_over p) SHORT

abbrev pub closing : Progress → Report
closing p = record { number = close_number p; place = p.place; steps = p.steps }

-- the session after it
abbrev pub shut : Session → Session
shut s = session (shutting s.progress) s.block s.unfinished

module _ (L : Layout) where
  abbrev pub no_block : List ℕ
  no_block = replicate L.size 0

  abbrev pub nothing_held : List ℕ
  nothing_held = replicate (step_size L) 0

  -- ---- opening

  abbrev pub opened : Session
  opened =
      session (record { stage = AT_START; count = 0; steps = 0; place = 0; held = 0; fault = 0; closed = 0 }) no_block nothing_held

  -- ---- the record due: its size and kind

  abbrev pub due_size : Progress → ℕ
  due_size p = due p (start_size L) (step_size L) end_size

  abbrev pub due_kind : Progress → ℕ
  due_kind p = due p L.start_kind L.step_kind end_kind

  -- what is wrong with it, r being its bytes
  abbrev pub due_number : Progress → List ℕ → List ℕ → ℕ
  due_number p b r = due p (start_number L r) (step_number L b r) (end_number p.steps r)

  -- the stage and the block that it leaves where nothing is, and the numbers, with n
  abbrev pub due_stage : Progress → ℕ
  due_stage p = due p L.next p.stage OVER

  abbrev pub due_block : Progress → List ℕ → List ℕ → List ℕ
  due_block p b r = due p (take L.size (drop start_block_at r)) (L.after b (event_of r)) b

  abbrev pub advancing : Progress → ℕ → Progress
  advancing p count =
      record {
        stage = due_stage p;
        count = count;
        steps = due_steps p;
        place = (p.place + due_size p) % 2 ^ 32;
        held = 0;
        fault = p.fault;
        closed = p.closed;
      }

  -- ---- feeding

  -- a fault is known: nothing is kept but the numbers
  abbrev pub faulty : Session → ℕ → Session
  faulty s fault = session (refusing s.progress fault) no_block nothing_held

  -- the next session, unless there is a fault
  abbrev pub unless_faulty : ℕ → Session → Session → Session
  unless_faulty zero s next = next
  unless_faulty (suc fault) s next = faulty s (suc fault)

  -- the record due has come whole, r being its bytes: right, it is forgotten, and the next one is due
  abbrev pub advanced : Session → List ℕ → Session
  advanced s r =
      let p = s.progress in session (advancing p (due_count p r)) (due_block p s.block r) nothing_held

  unfoldable pub judged : Session → List ℕ → Session
  judged s r = unless_faulty (due_number s.progress s.block r) s (advanced s r)

  -- bytes were held: four of a record show whether it is the one due, all of them whether it is right
  unfoldable pub looked : Session → Session
  looked s =
      let p = s.progress in
      if p.held is head_size then unless_faulty (head_number (due_size p) (due_kind p) s.unfinished) s s else
      if p.held is due_size p then judged s s.unfinished else
      s

  -- these bytes are held behind those that are
  abbrev pub grown : Session → List ℕ → Session
  grown s r =
      let p = s.progress in session (holding p (p.held + length r)) s.block (sets s.unfinished p.held r)

  -- a byte comes. Behind the End it is 12 TRAILING. (No feeding makes a session that holds as many bytes as its record
  -- has, or more: a byte leaves such a one as it is.)
  unfoldable pub fed_byte : Session → ℕ → Session
  fed_byte s x =
      let p = s.progress in
      if is_live p then (
      if is_over p then faulty s TRAILING else
      if ltb p.held (due_size p) then looked (grown s (x ∷ [])) else
      s
      ) else s

  -- a run of bytes comes, and run after run
  unfoldable pub fed : Session → List ℕ → Session
  fed s [] = s
  fed s (x ∷ xs) = fed (fed_byte s x) xs

  unfoldable pub fed_all : Session → List (List ℕ) → Session
  fed_all s [] = s
  fed_all s (r ∷ rs) = fed_all (fed s r) rs

-- ---- a session of either layout (document 02, No. 11): its block and its record have room for the larger one. What lies behind those
-- of its own layout stays as it was, until a fault is known

abbrev pub opened_session : Session
opened_session = opened new_layout

-- the layout in which the bytes r come: while the Start is due, that of the Start which they go on with; then that of the stage
abbrev pub comes_old : Progress → List ℕ → List ℕ → Bool
comes_old p u r = if p.stage is AT_START then is_old (take p.held u ++ r) else not (p.stage is new_layout.next)

-- a session as its layout has it, and back
abbrev pub narrowed : Bool → Session → Session
narrowed old s =
    session s.progress (take (layout old).size s.block) (take (step_size (layout old)) s.unfinished)

abbrev pub widened : Bool → Session → Session → Session
widened old s t =
    session t.progress (t.block ++ drop (layout old).size s.block)
    (t.unfinished ++ drop (step_size (layout old)) s.unfinished)

-- "nothing is kept but the numbers"
abbrev pub numbers_of : Session → Session
numbers_of t = session t.progress (no_block new_layout) (nothing_held new_layout)

unfoldable pub fed_session : Session → List ℕ → Session
fed_session s r =
    let old = comes_old s.progress s.unfinished r in
    let t = fed (layout old) (narrowed old s) r in
    if s.progress.fault is 0 && not (t.progress.fault is 0) then numbers_of t else widened old s t

-- run after run
unfoldable pub fed_runs : Session → List (List ℕ) → Session
fed_runs s [] = s
fed_runs s (r ∷ rs) = fed_runs (fed_session s r) rs
