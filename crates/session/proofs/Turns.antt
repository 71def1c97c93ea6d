-- What a turn of a feeding takes of a run, and what it leaves of the session.
use Rattle.std.proofs.Common.{◌≡◌, ℕ, ◌+◌, ◌-◌, ◌*◌, ◌<◌, ◌≤◌, ◌^◌, min, true, false, List, length, take, sym, ap, ◌∙◌, arith, le-leb, Err}
use Rattle.std.proofs.lemmas.List.Edits.{sets}
use borrow.Author.Tests.{lt-leb}
use lib.ListN.{length-replicate}
use Rattle.state.specs.Refusal.{number, number_of}
use Rattle.state.specs.declared.refusal.Refusal.{Refusal}
use Rattle.records.specs.declared.run.Run.{Run}
use Rattle.records.specs.declared.session.Progress.{Progress}
use Rattle.records.specs.declared.session.Session.{Session}
use Rattle.records.specs.Layout.{Layout, step_size, most_steps}
use Rattle.records.specs.Report.{ACCEPTED, TRAILING}
use Rattle.records.specs.Session.{OVER, is_live, session, holding, due_size, nothing_held, faulty, judged}
use Rattle.records.specs.Judged.{in_numbers, Went}
use Rattle.records.specs.Fed.{Taken, Takes, seen_from, stepped}
use Rattle.records.proofs.Feeding.{fed_dead, fed_full, fed_over}
use Rattle.records.proofs.Taking.{all_taken, hold_taken, record_taken, taken_anew, judged_anew}
use Rattle.records.proofs.Taking.{Stepping, stepping_none, steps_taken, steps_refused}
use Rattle.session.proofs.Concluding.{numbered}

-- a session that is closed, faulty or none of ours stays as it is
module _ (L : Layout) (p : Progress) (b u r : List ℕ) (some : 0 < length r) where
  pub dead_stays : is_live p ≡ false → Taken L (session p b u) r (session p b u) (length r)
  dead_stays h = all_taken L (session p b u) _ r some (fed_dead L (session p b u) h r)

  module _ (live : is_live p ≡ true) where
    pub full_stays : p.stage < OVER → due_size L p ≤ p.held → Taken L (session p b u) r (session p b u) (length r)
    full_stays going full =
        all_taken L (session p b u) _ r some (fed_full L (session p b u) live (lt-leb _ _ going) full r)

    -- a byte behind the End is too many
    pub too_many : OVER ≤ p.stage → (t : Session) → t ≡ faulty L (session p b u) TRAILING → Taken L (session p b u) r t (length r)
    too_many over t e =
        all_taken L (session p b u) _ r some (fed_over L (session p b u) live (le-leb _ _ over) r some ∙ sym e)

module _ (L : Layout) (p : Progress) (b u r : List ℕ) (takes : Takes L p) (room : length u ≡ step_size L) where
  -- bytes are held, one at least, not more than there are, and not past the record's end
  pub held_taken : 0 < length r → (n : ℕ) → n ≡ min (due_size L p - p.held) (length r) → (v : List ℕ) → v ≡ sets u p.held (take n r)
      → (t : Session)
      → t ≡ seen_from L p.held (session (holding p (p.held + n)) b v)
      → Taken L (session p b u) r t n
  held_taken some n least v put t e =
      let below = takes.room in
      hold_taken L p b u r n takes (omega arith) (omega arith) (omega arith) (omega arith) t
      (e ∙ ap (λ (w : List ℕ). seen_from L p.held (session (holding p (p.held + n)) b w)) put)

  -- a record that is there whole is judged there, whatever was held before
  module _ (none : p.held ≡ 0) (whole : due_size L p ≤ length r) where
    pub whole_taken : (v : List ℕ) (t : Session) → t ≡ judged L (session p b v) r → Taken L (session p b u) r t (due_size L p)
    whole_taken v t e = record_taken L p b u r takes none (omega arith) whole t (e ∙ judged_anew L p b v u r)

    pub nothing_taken : (t : Session) (n : ℕ) → Taken L (session p b (nothing_held L)) r t n → Taken L (session p b u) r t n
    nothing_taken t n taken =
        let long = length-replicate {A = ℕ} (step_size L) 0 in
        taken_anew L p b (nothing_held L) u r takes none (omega arith) (omega arith) whole t n taken

-- Steps that are due lie whole in r, and so many of them are judged there
module _ (L : Layout) (p : Progress) (b u r : List ℕ)
    (lie : (step_size L ≤ length r) × Takes L p × (p.held ≡ 0) × (due_size L p ≡ step_size L) × (u ≡ nothing_held L)
    × (length b ≡ L.size))
    (word : p.place < 2 ^ 32) (count : ℕ)
    (due : (count ≤ most_steps) × (p.steps + count ≤ p.count) × (step_size L * count ≤ length r) × (step_size L ≤ length r → 0 < count))
    (run : Run) (c : List ℕ) (went : Went L r count b (in_numbers run) c) (q : Progress) (on : q ≡ stepped L run.right p) where
  begins : Stepping L (session p b (nothing_held L)) r p b 0 count
  begins = stepping_none L p b r count lie.1 lie.2 lie.3 (due.3 lie.0) (omega (arith, due.1)) due.2

  pub right_taken : number_of run.outcome ≡ ACCEPTED → (n : ℕ) → n ≡ step_size L * run.right
      → Taken L (session p b (nothing_held L)) r (session q c u) n
  right_taken z n e =
      rw (on, lie.4, e) (steps_taken L p b r count begins word (in_numbers run) c went (due.3 lie.0) z)

  pub wrong_taken : (fault : Refusal) → run.outcome ≡ Err fault → (t : Session) → t ≡ faulty L (session q c u) (number fault)
      → Taken L (session p b (nothing_held L)) r t (length r)
  wrong_taken fault is t e =
      let number' : number_of run.outcome ≡ number fault = ap number_of is in
      rw (e, on, ← number') (steps_refused L p b r count begins word (in_numbers run) c went (λ z. numbered fault (sym number' ∙ z)) u)
