-- What the parts of feeding go by and what they leave.
use Rattle.std.specs.Prelude.{◌≡◌, Bool, true, false, List, ℕ, zero, suc, ◌+◌, ◌*◌, ◌%◌, ◌<◌, ◌≤◌, ◌^◌, length, drop}
use Rattle.std.specs.Prelude.{leb, ltb, if◌then◌else◌}
use Rattle.state.specs.Choice.{◌is◌}
use Rattle.records.specs.declared.session.Progress.{Progress}
use Rattle.records.specs.declared.session.Session.{Session}
use Rattle.records.specs.Layout.{Layout, layout, head_size, step_size}
use Rattle.records.specs.Report.{ACCEPTED, head_number}
use Rattle.records.specs.Session.{session, is_live, is_over, refusing, no_block, nothing_held, due_size, due_number, due_block}
use Rattle.records.specs.Session.{due_kind, advancing, unless_faulty, judged, fed}

-- a block and a record of the layout's sizes
abbrev pub Room : Bool → List ℕ → List ℕ → Type 0
Room old b u = (length b ≡ (layout old).size) × (length u ≡ step_size (layout old))

-- the record due stands at the front of r, b is the block before, n the number and c what the block became
pub record Due (L : Layout) (p : Progress) (r b : List ℕ) (n : ℕ) (c : List ℕ) : Type 0 where
  pub number : n ≡ due_number L p b r
  pub block : n ≡ ACCEPTED → c ≡ due_block L p b r

-- the bytes r come to s: with so many of them taken it is t, to which the others come
pub record Taken (L : Layout) (s : Session) (r : List ℕ) (t : Session) (taken : ℕ) : Type 0 where
  pub some : 0 < taken
  pub within : taken ≤ length r
  pub same : fed L s r ≡ fed L t (drop taken r)

-- a byte is held by an open session without a fault, whose trace is not over, while the record due is not whole
pub record Takes (L : Layout) (p : Progress) : Type 0 where
  pub live : is_live p ≡ true
  pub going : is_over p ≡ false
  pub room : p.held < due_size L p

-- bytes were held, before which so many were: with the last of the head it is seen whether the record is the one due, with the
-- record's last whether it is right
abbrev pub head_seen : Layout → ℕ → Progress → List ℕ → ℕ
head_seen L before p u =
    if leb head_size before then ACCEPTED else
    if ltb p.held head_size then ACCEPTED else
    head_number (due_size L p) (due_kind L p) u

abbrev pub ended : Layout → Session → Session
ended L s = if s.progress.held is due_size L s.progress then judged L s s.unfinished else s

abbrev pub seen_from : Layout → ℕ → Session → Session
seen_from L before s = unless_faulty L (head_seen L before s.progress s.unfinished) s (ended L s)

-- the record due was judged: its fault, n, and the block that it leaves
abbrev pub concluded : Layout → ℕ → Progress → ℕ → List ℕ → Session
concluded L zero p count b = session (advancing L p count) b (nothing_held L)
concluded L (suc fault) p count b = session (refusing p (suc fault)) (no_block L) (nothing_held L)

-- the numbers behind k right Steps
abbrev pub stepped : Layout → ℕ → Progress → Progress
stepped L k p =
    record {
      stage = p.stage;
      count = p.count;
      steps = p.steps + k;
      place = (p.place + step_size L * k) % 2 ^ 32;
      held = p.held;
      fault = p.fault;
      closed = p.closed;
    }
