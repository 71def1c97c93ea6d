-- The session that is shipped is, byte for byte, one of the layout of the bytes that came, with zeros behind it: while fewer bytes than
-- a head have come, those of both layouts are the same; the head then tells the layout for good, and behind the Start the stage does;
-- behind the End, and once a fault is known, the layout makes no difference.
use Rattle.std.specs.Prelude.{if◌then◌else◌}
use mathlib.Core.Path.{◌≡◌, refl, sym, ap, ◌∙◌}
use mathlib.Core.Bool.{Bool, true, false, not, ◌&&◌}
use mathlib.Core.Logic.{◌⊎◌, inl, inr}
use mathlib.Core.List.{List, [], ◌∷◌, ◌++◌, append_assoc, append-nil}
use Prim.Native.Nat.{ℕ, ◌+◌, ◌<◌, ◌≤◌}
use native.Mathlib.Omega.{arith}
use lib.ListN.{length, take, drop, take-append-drop, length-append, length-replicate}
use lib.Seq.{sets, sets-eq, take_at, drop_at, take-append_seam, drop-append-le}
use lib.Dec.{leb, lit<}
use borrow.Author.Tests.{eq-eqb, eqb-false}
use Rattle.state.specs.Choice.{◌is◌}
use Rattle.records.specs.declared.report.Report.{Report}
use Rattle.records.specs.declared.session.Progress.{Progress}
use Rattle.records.specs.declared.session.Session.{Session}
use Rattle.records.specs.Layout.{Layout, layout, new_layout, is_old, layout_of, head_size, start_size, step_size}
use Rattle.records.specs.Report.{TRAILING}
use Rattle.records.specs.Either.{report_of}
use Rattle.records.specs.Session.{OVER, session, is_live, is_over, no_block, nothing_held, opened, holding, refusing, faulty}
use Rattle.records.specs.Session.{grown, fed, opened_session, comes_old, narrowed, widened, numbers_of, fed_session, fed_runs}
use Rattle.records.specs.Session.{feed_number, closing}
use Rattle.records.specs.Arrival.{joined, known_number, ArrivalOfBoth}
use Rattle.records.proofs.Faults.{below}
use Rattle.records.proofs.Lawfuls.{lawful}
use Rattle.records.proofs.Begun.{old_short, old_front}
use Rattle.records.proofs.Feeding.{dead, dead_closed, alive, few, fed_cut, fed_dead, fed_over, fed_nothing}
use Rattle.records.proofs.Arriving.{opened_ready, ends}
use Rattle.records.proofs.Standing.{Form, Stands, waiting, going, past, broken, stands}
use Rattle.records.proofs.Arrivals.{arrival_of, known_not_short}
use Rattle.records.proofs.Eithers as eithers

-- ---- a session that takes no byte

-- taken apart and put together it is the same
whole_again : (old : Bool) (s : Session) → widened old s (narrowed old s) ≡ s
whole_again old s =
    λ i. session s.progress (take-append-drop (layout old).size s.block i)
    (take-append-drop (step_size (layout old)) s.unfinished i)

-- no fault becomes known where it is as it was
not_newly : (n : ℕ) → (n is 0 && not (n is 0)) ≡ false
not_newly n = go (n is 0)
  where
    go : (t : Bool) → (t && not t) ≡ false
    go true = refl
    go false = refl

idle : (s : Session) (r : List ℕ) → ((old : Bool) → fed (layout old) (narrowed old s) r ≡ narrowed old s) → fed_session s r ≡ s
unfolding fed_session
idle s r h =
    let old = comes_old s.progress s.unfinished r in
    ap (λ (t : Session). if s.progress.fault is 0 && not (t.progress.fault is 0) then numbers_of t else widened old s t) (h old)
    ∙ ap (λ (u : Bool). if u then numbers_of (narrowed old s) else widened old s (narrowed old s)) (not_newly s.progress.fault)
    ∙ whole_again old s

pub idle_dead : (s : Session) (r : List ℕ) → is_live s.progress ≡ false → fed_session s r ≡ s
idle_dead s r d = idle s r (λ old. fed_dead (layout old) (narrowed old s) d r)

pub idle_empty : (s : Session) → fed_session s [] ≡ s
idle_empty s = idle s [] (λ old. fed_nothing (layout old) (narrowed old s))

-- ---- one whose trace is over: a byte more is a fault, in either layout

over_faults : (s : Session) (r : List ℕ) → s.progress.closed ≡ 0 → s.progress.fault ≡ 0 → is_over s.progress ≡ true → 0 < length r
    → fed_session s r ≡ session (refusing s.progress TRAILING) (no_block new_layout) (nothing_held new_layout)
unfolding fed_session
over_faults s r c f g l =
    let old = comes_old s.progress s.unfinished r in
    let p = s.progress in
    ap (λ (t : Session). if p.fault is 0 && not (t.progress.fault is 0) then numbers_of t else widened old s t)
    (fed_over (layout old) (narrowed old s) (alive p c f) g r l)
    ∙ ap (λ (u : Bool). if u && true then numbers_of (faulty (layout old) (narrowed old s) TRAILING) else
    widened old s (faulty (layout old) (narrowed old s) TRAILING)) (eq-eqb p.fault 0 f)

-- ---- a layout's session, with zeros behind it

abbrev pub in_layout : Bool → List ℕ → Session
in_layout old s = widened old opened_session (fed (layout old) (opened (layout old)) s)

zeros_block : (old : Bool) → no_block (layout old) ++ drop (layout old).size (no_block new_layout) ≡ no_block new_layout
zeros_block true = refl
zeros_block false = refl

zeros_record : (old : Bool) → nothing_held (layout old) ++ drop (step_size (layout old)) (nothing_held new_layout) ≡ nothing_held new_layout
zeros_record true = refl
zeros_record false = refl

-- in which nothing is held
cleared : (old : Bool) (t : Session) → t.block ≡ no_block (layout old) → t.unfinished ≡ nothing_held (layout old)
    → widened old opened_session t ≡ numbers_of t
cleared old t b u =
    λ i. session t.progress
    ((ap (λ l. l ++ drop (layout old).size (no_block new_layout)) b ∙ zeros_block old) i)
    ((ap (λ l. l ++ drop (step_size (layout old)) (nothing_held new_layout)) u ∙ zeros_record old) i)

-- bytes put into the front of a list
sets_first : (r l : List ℕ) → length r ≤ length l → sets l 0 r ≡ r ++ drop (length r) l
sets_first r l h =
    let e : 0 + length r ≡ length r = omega arith in
    sets-eq r l 0 (omega arith) ∙ ap (λ n. r ++ drop n l) e

sets_front : (r a b : List ℕ) → length r ≤ length a → sets (a ++ b) 0 r ≡ sets a 0 r ++ b
sets_front r a b h =
    sets_first r (a ++ b) (omega (arith, length-append a b))
    ∙ ap (λ l. r ++ l) (drop-append-le (length r) a b h)
    ∙ sym (append_assoc r (drop (length r) a) b)
    ∙ ap (λ l. l ++ b) (sym (sets_first r a h))

-- so many zeros have room for a head
room : (L : Layout) (s : List ℕ) → length s < head_size → length s ≤ length (nothing_held L)
room L s h = omega (arith, length-replicate {A = ℕ} (step_size L) 0)

-- fewer bytes than a head are held alike
alike : (old : Bool) (s : List ℕ) → length s < head_size → in_layout old s ≡ grown new_layout opened_session s
alike old s h =
    let L = layout old in
    let at = opened_ready L (lawful old) in
    let tail = drop (step_size L) (nothing_held new_layout) in
    ap (widened old opened_session) (few L (opened L) at.takes at.none at.room s h)
    ∙ (λ i. session (holding opened_session.progress (0 + length s)) (zeros_block old i)
    ((sym (sets_front s (nothing_held L) tail (room L s h)) ∙ ap (λ l. sets l 0 s) (zeros_record old)) i))

-- ---- the layout that is found

module _ (old : Bool) (s : List ℕ) where
  abbrev L : Layout
  L = layout old

  abbrev t : Session
  t = fed L (opened L) s

  stood : Stands L (lawful old) s t
  stood = stands L (lawful old) s

  -- apart again it is the layout's
  apart : narrowed old (in_layout old s) ≡ t
  apart =
      λ i. session t.progress
      (take_at t.block (drop L.size (no_block new_layout)) L.size stood.block_size i)
      (take_at t.unfinished (drop (step_size L) (nothing_held new_layout)) (step_size L) stood.record_size i)

  -- and zeros lie behind it
  behind : (u : Session) → widened old (in_layout old s) u ≡ widened old opened_session u
  behind u =
      λ i. session u.progress
      (u.block ++ drop_at t.block (drop L.size (no_block new_layout)) L.size stood.block_size i)
      (u.unfinished ++ drop_at t.unfinished (drop (step_size L) (nothing_held new_layout)) (step_size L) stood.record_size i)

-- where a fault is known nothing is held
fault_cleared : (old : Bool) (s : List ℕ) → ((fed (layout old) (opened (layout old)) s).progress.fault ≡ 0 → ⊥)
    → numbers_of (fed (layout old) (opened (layout old)) s) ≡ in_layout old s
fault_cleared old s n = go (stood old s).form
  where
    go : Form (layout old) (lawful old) s (t old s) → numbers_of (t old s) ≡ in_layout old s
    go (waiting l e) = absurd (n (ap (λ (u : Session). u.progress.fault) e))
    go (going h c f g) = absurd (n f)
    go (past h c f g) = absurd (n f)
    go (broken h z b u) = sym (cleared old (t old s) b u)

-- bytes that come in the layout in which the session is leave that of all
goes : (old : Bool) (s r : List ℕ) → comes_old (in_layout old s).progress (in_layout old s).unfinished r ≡ old
    → fed_session (in_layout old s) r ≡ in_layout old (s ++ r)
unfolding fed_session
goes old s r e =
    ap (λ (o : Bool). after o (fed (layout o) (narrowed o (in_layout old s)) r)) e
    ∙ ap (after old) (ap (λ (u : Session). fed (layout old) u r) (apart old s) ∙ sym (fed_cut (layout old) (opened (layout old)) s r))
    ∙ by ((in_layout old s).progress.fault is 0) (now.progress.fault is 0) refl
  where
    now : Session
    now = fed (layout old) (opened (layout old)) (s ++ r)

    after : Bool → Session → Session
    after o u =
        if (in_layout old s).progress.fault is 0 && not (u.progress.fault is 0) then numbers_of u else widened o (in_layout old s) u

    by : (a b : Bool) → (now.progress.fault is 0) ≡ b
        → (if a && not b then numbers_of now else widened old (in_layout old s) now) ≡ in_layout old (s ++ r)
    by false b f = behind old s now
    by true true f = behind old s now
    by true false f = fault_cleared old (s ++ r) (eqb-false _ _ f)

-- ---- the session to which these bytes have come

empty : (r : List ℕ) → length r ≤ 0 → r ≡ []
empty [] l = refl
empty (x ∷ r) l = absurd (omega arith)

abbrev pub arrived : List ℕ → Session
arrived s = in_layout (is_old s) s

-- the layout does not matter while no head has come
in_either : (old : Bool) (s : List ℕ) → length s < head_size → arrived s ≡ in_layout old s
in_either old s h = alike (is_old s) s h ∙ sym (alike old s h)

-- while the Start is due, all bytes that have come are held
held_all : (old : Bool) (s : List ℕ) → length s < start_size (layout old)
    → take (0 + length s) (sets (nothing_held (layout old)) 0 s ++ drop (step_size (layout old)) (nothing_held new_layout)) ≡ s
held_all old s l =
    let L = layout old in
    let tail = drop (step_size L) (nothing_held new_layout) in
    let rest = drop (length s) (nothing_held L) in
    let all : 0 + length s ≡ length s = omega arith in
    (λ i. take (all i) (sets_first s (nothing_held L) (omega (arith, length-replicate {A = ℕ} (step_size L) 0)) i ++ tail))
    ∙ ap (take (length s)) (append_assoc s rest tail)
    ∙ take-append_seam s (rest ++ tail)

module _ (s r : List ℕ) where
  -- once a head has come the layout stays
  settled : head_size ≤ length s → fed_session (arrived s) r ≡ in_layout (is_old s) (s ++ r) → fed_session (arrived s) r ≡ arrived (s ++ r)
  settled h e = e ∙ ap (λ (o : Bool). in_layout o (s ++ r)) (sym (old_front s r h))

  pub joins : fed_session (arrived s) r ≡ arrived (s ++ r)
  joins = go (stood (is_old s) s).form
    where
      at : Session
      at = t (is_old s) s

      go : Form (layout (is_old s)) (lawful (is_old s)) s at → fed_session (arrived s) r ≡ arrived (s ++ r)
      go (waiting l e) = by_head (below (length s) head_size)
        where
          -- the layout is that of the Start which the bytes go on with
          found : comes_old (arrived s).progress (arrived s).unfinished r ≡ is_old (s ++ r)
          found =
              ap (λ (u : Session).
              comes_old u.progress (u.unfinished ++ drop (step_size (layout (is_old s))) (nothing_held new_layout)) r) e
              ∙ ap (λ l. is_old (l ++ r)) (held_all (is_old s) s l)

          by_head : (length s < head_size) ⊎ (head_size ≤ length s) → fed_session (arrived s) r ≡ arrived (s ++ r)
          by_head (inl h) =
              let same = in_either (is_old (s ++ r)) s h in
              ap (λ (u : Session). fed_session u r) same
              ∙ goes (is_old (s ++ r)) s r (ap (λ (u : Session). comes_old u.progress u.unfinished r) (sym same) ∙ found)
          by_head (inr h) = settled h (goes (is_old s) s r (found ∙ old_front s r h))
      go (going h c f g) =
          settled h (goes (is_old s) s r (ap (λ n. comes_old (staged n) (arrived s).unfinished r) g ∙ tells (is_old s)))
        where
          staged : ℕ → Progress
          staged n =
              record {
                stage = n;
                count = at.progress.count;
                steps = at.progress.steps;
                place = at.progress.place;
                held = at.progress.held;
                fault = at.progress.fault;
                closed = at.progress.closed;
              }

          tells : (old : Bool) → comes_old (staged (layout old).next) (arrived s).unfinished r ≡ old
          tells true = refl
          tells false = refl
      go (past h c f g) = by_length (below 0 (length r))
        where
          over : is_over at.progress ≡ true
          over = ap (leb OVER) g

          by_length : (0 < length r) ⊎ (length r ≤ 0) → fed_session (arrived s) r ≡ arrived (s ++ r)
          by_length (inl l) =
              settled h
              (over_faults (arrived s) r c f over l
              ∙ sym (ap (widened (is_old s) opened_session)
              (fed_cut (layout (is_old s)) (opened (layout (is_old s))) s r
              ∙ fed_over (layout (is_old s)) at (alive at.progress c f) over r l)
              ∙ cleared (is_old s) (faulty (layout (is_old s)) at TRAILING) refl refl))
          by_length (inr l) =
              let none : r ≡ [] = empty r l in
              ap (fed_session (arrived s)) none ∙ idle_empty (arrived s) ∙ ap arrived (sym (append-nil s) ∙ ap (λ l. s ++ l) (sym none))
      go (broken h z b u) =
          settled h
          (idle_dead (arrived s) r (dead at.progress z)
          ∙ ap (widened (is_old s) opened_session)
          (sym (fed_cut (layout (is_old s)) (opened (layout (is_old s))) s r ∙ fed_dead (layout (is_old s)) at (dead at.progress z) r)))

-- ---- what is proved of a session of one layout is true of it

none_come : arrived [] ≡ opened_session
none_come =
    ap (λ (o : Bool). in_layout o []) (sym (old_short [] (lit< tt)))
    ∙ ap (widened true opened_session) (fed_nothing (layout true) (opened (layout true)))
    ∙ cleared true (opened (layout true)) refl refl

runs : (rs : List (List ℕ)) (s : List ℕ) → fed_runs (arrived s) rs ≡ arrived (s ++ joined rs)
unfolding fed_runs
runs [] s = ap arrived (sym (append-nil s))
runs (r ∷ rs) s =
    ap (λ (u : Session). fed_runs u rs) (joins s r) ∙ runs rs (s ++ r) ∙ ap arrived (append_assoc s r (joined rs))

-- all runs, and one
pub all_runs : (rs : List (List ℕ)) → fed_runs opened_session rs ≡ arrived (joined rs)
all_runs rs = ap (λ (u : Session). fed_runs u rs) (sym none_come) ∙ runs rs []

pub one_run : (s : List ℕ) → fed_session opened_session s ≡ arrived s
one_run s = ap (λ (u : Session). fed_session u s) (sym none_come) ∙ joins [] s

closes : (rs : List (List ℕ)) → closing (fed_runs opened_session rs).progress ≡ report_of (joined rs)
closes rs =
    let s = joined rs in
    ap (λ (u : Session). closing u.progress) (all_runs rs) ∙ (ends (layout_of s) (lawful (is_old s)) s).closes

answers : (s : List ℕ) → feed_number (fed_session opened_session s).progress ≡ known_number (report_of s).number
answers s = ap (λ (u : Session). feed_number u.progress) (one_run s) ∙ (arrival_of (is_old s)).answers s

-- of the front of a string, in the layout of the whole
front : (s : List ℕ) (j : ℕ)
    → feed_number (fed_session opened_session (take j s)).progress
    ≡ feed_number (fed (layout_of s) (opened (layout_of s)) (take j s)).progress
front s j =
    answers (take j s)
    ∙ ap (λ (v : Report). known_number v.number) (eithers.cut_same s j)
    ∙ sym ((arrival_of (is_old s)).answers (take j s))

pub arrival_of_both : ArrivalOfBoth
arrival_of_both =
    record {
      however_cut = λ rs. all_runs rs ∙ sym (one_run (joined rs));
      closes_with_the_report = closes;
      accepts_exactly = λ rs by.
          let exact = eithers.accepts_exactly (joined rs) by in
          let number = ap (λ (v : Report). v.number) (closes rs) in
          ((λ z. exact.0 (sym number ∙ z)), (λ p. number ∙ exact.1 p));
      answers = answers;
      known_exactly = λ s j h nz n8. front s j ∙ (arrival_of (is_old s)).known_exactly s j h nz n8;
      nothing_known = λ s j e. front s j ∙ (arrival_of (is_old s)).nothing_known s j e;
      never_short = λ s e. known_not_short (report_of s).number (sym (answers s) ∙ e);
      empty_run = idle_empty;
      fault_stays = λ s r h. idle_dead s r (dead s.progress h);
      closed_stays = λ s r h. idle_dead s r (dead_closed s.progress h);
    }
