-- Every string of bytes is a longest beginning of right records and a rest. The report is decided at the first record of
-- the rest: a Start that is wrong, a Step that is wrong, or the End.
use mathlib.Core.Path.{◌≡◌, refl, ap, ◌∙◌}
use mathlib.Core.Logic.{◌⊎◌, inl, inr, ⊎_elim}
use mathlib.Core.List.{List, [], ◌∷◌, ◌++◌, append_assoc}
use Prim.Native.Nat.{ℕ, zero, suc, ◌+◌, ◌-◌, ◌<◌, ◌≤◌}
use native.Mathlib.Omega.{arith}
use lib.ListN.{length, drop}
use Rattle.words.specs.Word.{spelt, Bytes}
use Rattle.words.proofs.Spell.{bytes_drop}
use Rattle.rules.specs.declared.event.Event.{Event}
use Rattle.rules.specs.Run.{run_by}
use Rattle.records.specs.Layout.{Layout, Lawful, step_size, most_steps, place_of, count_at}
use Rattle.records.specs.Published.{AreEvents, start_record, step_record, step_records, run}
use Rattle.records.specs.Report.{start_number, step_number, end_report, report_from, report, event_of}
use Rattle.records.proofs.Faults.{zero_or_not}
use Rattle.records.proofs.Records.{event_fits, start_count}
use Rattle.records.proofs.Judging.{from_wrong, from_end}
use Rattle.records.proofs.Accepts.{Started, start_is, step_is, report_begun}

module _ (L : Layout) (LL : Lawful L) where
  -- ---- the right Steps, of m that are due from the block b on

  pub record Came (m : ℕ) (b r : List ℕ) : Type 0 where
    pub events : List Event
    pub left : ℕ
    pub rest : List ℕ
    pub count : m ≡ length events + left
    pub words : AreEvents events
    pub bytes : Bytes rest
    pub is : r ≡ step_records L b events ++ rest
    pub stuck : (left ≡ 0) ⊎ (step_number L (run L b events) rest ≡ 0 → ⊥)

  pub come : (m : ℕ) (b r : List ℕ) → Bytes r → Came m b r
  unfolding step_records run_by
  come zero b r by =
      record { events = []; left = 0; rest = r; count = refl; words = tt; bytes = by; is = refl; stuck = inl refl }
  come (suc m) b r by =
      go (zero_or_not (step_number L b r))
      (come m (L.after b (event_of r)) (drop (step_size L) r) (bytes_drop (step_size L) r by))
    where
      go : (step_number L b r ≡ 0) ⊎ (step_number L b r ≡ 0 → ⊥)
          → Came m (L.after b (event_of r)) (drop (step_size L) r)
          → Came (suc m) b r
      go (inl z) more =
          record {
            events = event_of r ∷ more.events;
            left = more.left;
            rest = more.rest;
            count = omega (arith, more.count);
            words = (event_fits r by, more.words);
            bytes = more.bytes;
            is = step_is L LL b r z
                ∙ ap (λ (t : List ℕ). step_record L b (event_of r) ++ t) more.is
                ∙ simp append_assoc;
            stuck = more.stuck;
          }
      go (inr z) more =
          record {
            events = [];
            left = suc m;
            rest = r;
            count = omega arith;
            words = tt;
            bytes = by;
            is = refl;
            stuck = inr z;
          }

  -- ---- the whole string

  pub record Beginning (s : List ℕ) : Type 0 where
    pub count : ℕ
    pub start : List ℕ
    pub events : List Event
    pub rest : List ℕ
    pub few : count ≤ most_steps
    pub room : length events ≤ count
    pub size : length start ≡ L.size
    pub bytes : Bytes start
    pub words : AreEvents events
    pub rest_bytes : Bytes rest
    pub is : s ≡ start_record L count start ++ (step_records L start events ++ rest)

  -- its Steps, the place of the record due behind them, and the block before that record
  abbrev pub steps_of : {s : List ℕ} → Beginning s → ℕ
  steps_of p = length p.events

  abbrev pub due_at : {s : List ℕ} → Beginning s → ℕ
  due_at p = place_of L (steps_of p)

  abbrev pub block_of : {s : List ℕ} → Beginning s → List ℕ
  block_of p = run L p.start p.events

  pub data Outcome (s : List ℕ) : Type 0 where
    at_start : (start_number L s ≡ 0 → ⊥) → Outcome s
    at_step : (p : Beginning s) → length p.events < p.count
        → (step_number L (run L p.start p.events) p.rest ≡ 0 → ⊥) → Outcome s
    at_end : (p : Beginning s) → length p.events ≡ p.count → Outcome s

  pub outcome : (s : List ℕ) → Bytes s → Outcome s
  outcome s by = ⊎_elim (λ z. ended (start_is L LL s by z)) at_start (zero_or_not (start_number L s))
    where
      begun : (p : Started L LL s) → Came p.count p.block p.rest → Beginning s
      begun p q =
          record {
            count = p.count;
            start = p.block;
            events = q.events;
            rest = q.rest;
            few = p.few;
            room = omega (arith, q.count);
            size = p.size;
            bytes = p.bytes;
            words = q.words;
            rest_bytes = q.bytes;
            is = p.is ∙ ap (λ (t : List ℕ). start_record L p.count p.block ++ t) q.is;
          }

      decide : (p : Started L LL s) (q : Came p.count p.block p.rest) → (q.left ≡ 0) ⊎ (q.left ≡ 0 → ⊥)
          → (q.left ≡ 0) ⊎ (step_number L (run L p.block q.events) q.rest ≡ 0 → ⊥)
          → Outcome s
      decide p q (inl e) w = at_end (begun p q) (let c = q.count in omega arith)
      decide p q (inr n) (inl z) = absurd (n z)
      decide p q (inr n) (inr z) = at_step (begun p q) (let c = q.count in omega (arith, n)) z

      ended : (p : Started L LL s) → Outcome s
      ended p =
          let q = come p.count p.block p.rest p.rest_bytes in decide p q (zero_or_not q.left) q.stuck

  -- ---- what the report is then

  module _ (s : List ℕ) (p : Beginning s) where
    -- the Start counts as many Steps as it says
    pub counted : spelt s count_at ≡ p.count
    counted =
        ap (λ (l : List ℕ). spelt l count_at) p.is
        ∙ start_count L LL p.count p.start (step_records L p.start p.events ++ p.rest) p.size
        (omega (arith, p.few))

    pub report_onward : report L s
        ≡ report_from L (p.count - length p.events) (length p.events) (run L p.start p.events) p.rest
    report_onward =
        ap (report L) p.is
        ∙ report_begun L LL p.count p.start p.events p.rest p.room p.few p.size p.words

    pub report_at_step : length p.events < p.count
        → (step_number L (run L p.start p.events) p.rest ≡ 0 → ⊥)
        → report L s
        ≡ record {
          number = step_number L (run L p.start p.events) p.rest;
          place = place_of L
              (length p.events);
          steps = length p.events;
        }
    report_at_step l z =
        report_onward
        ∙ from_wrong L (p.count - length p.events) (length p.events) (run L p.start p.events) p.rest
        (omega arith) z

    pub report_at_end : length p.events ≡ p.count
        → report L s ≡ end_report (length p.events) (place_of L (length p.events)) p.rest
    report_at_end e =
        let m : p.count - length p.events ≡ 0 = omega arith in
        report_onward
        ∙ ap (λ (j : ℕ). report_from L j (length p.events) (run L p.start p.events) p.rest) m
        ∙ from_end L (length p.events) (run L p.start p.events) p.rest
