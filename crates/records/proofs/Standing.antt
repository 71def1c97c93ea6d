-- What a session is to which these bytes have come, and no others: the Start's are held until it is whole; behind it the layout's stage
-- stands, and behind the End the last; once a fault is known nothing is kept. No fault is known, and no stage left, before a head has
-- come. Each byte keeps that.
use Rattle.std.specs.Prelude.{if◌then◌else◌}
use mathlib.Core.Path.{◌≡◌, refl, sym, ap, ◌∙◌, subst}
use mathlib.Core.Bool.{Bool, true, false}
use mathlib.Core.Logic.{◌⊎◌, inl, inr}
use mathlib.Core.List.{List, [], ◌∷◌, ◌++◌, append_assoc, append-nil}
use Prim.Native.Nat.{ℕ, zero, suc, ◌+◌, ◌<◌, ◌≤◌}
use native.Mathlib.Omega.{arith}
use lib.ListN.{length, length-append, length-replicate}
use lib.Seq.{length-sets}
use lib.Dec.{leb}
use borrow.Author.Tests.{eqb-true, eqb-false, lt-leb}
use Rattle.state.specs.Choice.{◌is◌}
use Rattle.records.specs.declared.session.Progress.{Progress}
use Rattle.records.specs.declared.session.Session.{Session}
use Rattle.records.specs.Layout.{Layout, Lawful, head_size, start_size, step_size}
use Rattle.records.specs.Report.{head_number, event_of, TRAILING}
use Rattle.records.specs.Claims.{start_of}
use Rattle.records.specs.Session.{AT_START, OVER, is_live, is_over, no_block, nothing_held, opened, due_size, due_kind, due_number}
use Rattle.records.specs.Session.{faulty, unless_faulty, advanced, judged, looked, grown, fed}
use Rattle.records.specs.Fed.{Takes}
use Rattle.records.proofs.Faults.{below}
use Rattle.records.proofs.Judging.{block_whole}
use Rattle.records.proofs.Feeding.{dead, alive, due_step, due_end, due_least, fed_dead, fed_over, fed_full}
use Rattle.records.proofs.Feeding.{grown_more, grown_none, byte_held}

module _ (L : Layout) (LL : Lawful L) where
  pub data Form (s : List ℕ) (t : Session) : Type 0 where
    waiting : length s < start_size L → t ≡ grown L (opened L) s → Form s t
    going : head_size ≤ length s → t.progress.closed ≡ 0 → t.progress.fault ≡ 0 → t.progress.stage ≡ L.next → Form s t
    past : head_size ≤ length s → t.progress.closed ≡ 0 → t.progress.fault ≡ 0 → t.progress.stage ≡ OVER → Form s t
    broken : head_size ≤ length s → (t.progress.fault ≡ 0 → ⊥) → t.block ≡ no_block L → t.unfinished ≡ nothing_held L → Form s t

  pub record Stands (s : List ℕ) (t : Session) : Type 0 where
    pub form : Form s t
    pub block_size : length t.block ≡ L.size
    pub record_size : length t.unfinished ≡ step_size L

  -- ---- what a look leaves: a fault, the session as it was, or the next record due

  module _ (P : Session → Type 0) (q : Session) where
    abbrev p : Progress
    p = q.progress

    abbrev headed : ℕ
    headed = head_number (due_size L p) (due_kind L p) q.unfinished

    abbrev number : ℕ
    number = due_number L p q.block q.unfinished

    unless_by : (n : ℕ) (next : Session) → (n ≡ 0 → P next) → ((n ≡ 0 → ⊥) → P (faulty L q n)) → P (unless_faulty L n q next)
    unless_by zero next a b = a refl
    unless_by (suc n) next a b = b (λ e. omega arith)

    looked_by : ((n : ℕ) → (n ≡ 0 → ⊥) → head_size ≤ p.held → P (faulty L q n))
        → ((p.held ≡ due_size L p → ⊥) → P q)
        → (p.held ≡ due_size L p → number ≡ 0 → P (advanced L q q.unfinished))
        → P (looked L q)
    unfolding looked judged
    looked_by bad still whole = go (p.held is head_size) refl (p.held is due_size L p) refl
      where
        go : (u : Bool) → (p.held is head_size) ≡ u → (v : Bool) → (p.held is due_size L p) ≡ v
            → P (if u then unless_faulty L headed q q else
            if v then unless_faulty L number q (advanced L q q.unfinished) else
            q)
        go true e v f =
            let four : p.held ≡ head_size = eqb-true _ _ e in
            unless_by headed q (λ z. still (λ y. omega (arith, four, due_least L p))) (λ n. bad headed n (omega (arith, four)))
        go false e true f =
            let all : p.held ≡ due_size L p = eqb-true _ _ f in
            unless_by number (advanced L q q.unfinished) (whole all) (λ n. bad number n (omega (arith, all, due_least L p)))
        go false e false f = still (eqb-false _ _ f)

  -- ---- a byte

  zeros_block : length (no_block L) ≡ L.size
  zeros_block = length-replicate {A = ℕ} L.size 0

  zeros_record : length (nothing_held L) ≡ step_size L
  zeros_record = length-replicate {A = ℕ} (step_size L) 0

  -- with a fault
  faults : (s : List ℕ) (t : Session) (n : ℕ) → head_size ≤ length s → (n ≡ 0 → ⊥) → Stands s (faulty L t n)
  faults s t n h z =
      record { form = broken h z refl refl; block_size = zeros_block; record_size = zeros_record }

  module _ (s : List ℕ) (x : ℕ) where
    abbrev s' : List ℕ
    s' = s ++ x ∷ []

    more : length s' ≡ length s + 1
    more = length-append s (x ∷ [])

    -- while the Start is due
    at_start : length s < start_size L → Stands s' (looked L (grown L (opened L) s'))
    at_start l =
        looked_by (Stands s') (grown L (opened L) s') (λ n z h. faults s' (grown L (opened L) s') n (omega arith) z)
        (λ e. record {
          form = waiting (omega (arith, more)) refl;
          block_size = zeros_block;
          record_size = length-sets (nothing_held L) 0 s' ∙ zeros_record;
        })
        (λ e z. record {
          form = going (omega (arith, e)) refl refl refl;
          block_size = block_whole L _ z;
          record_size = zeros_record;
        })

    -- behind it
    behind : (t : Session) → head_size ≤ length s → t.progress.closed ≡ 0 → t.progress.fault ≡ 0 → t.progress.stage ≡ L.next
        → length t.block ≡ L.size
        → length t.unfinished ≡ step_size L
        → Stands s' (looked L (grown L t (x ∷ [])))
    behind t h c f g b u =
        looked_by (Stands s') q (λ n z k. faults s' q n (omega (arith, more)) z)
        (λ e. record {
          form = going (omega (arith, more)) c f g;
          block_size = b;
          record_size = length-sets t.unfinished t.progress.held (x ∷ []) ∙ u;
        })
        (λ e z. go z (below q.progress.steps q.progress.count))
      where
        q : Session
        q = grown L t (x ∷ [])

        not_start : q.progress.stage ≡ AT_START → ⊥
        not_start e = LL.next_behind (sym g ∙ e)

        go : due_number L q.progress q.block q.unfinished ≡ 0
            → (q.progress.steps < q.progress.count) ⊎ (q.progress.count ≤ q.progress.steps)
            → Stands s' (advanced L q q.unfinished)
        go z (inl l) =
            record {
              form = going (omega (arith, more)) c f (due_step q.progress L.next q.progress.stage OVER not_start l ∙ g);
              block_size =
                  ap length (due_step q.progress (start_of L q.unfinished) _ q.block not_start l)
                  ∙ LL.length_after q.block (event_of q.unfinished) b;
              record_size = zeros_record;
            }
        go z (inr l) =
            record {
              form = past (omega (arith, more)) c f (due_end q.progress L.next q.progress.stage OVER not_start l);
              block_size = ap length (due_end q.progress (start_of L q.unfinished) _ q.block not_start l) ∙ b;
              record_size = zeros_record;
            }

    byte : (t : Session) → Stands s t → Stands s' (fed L t (x ∷ []))
    unfolding fed
    byte t a = go a.form
      where
        same : fed L t (x ∷ []) ≡ t → Form s' t → Stands s' (fed L t (x ∷ []))
        same e f =
            subst (Stands s') (sym e) (record { form = f; block_size = a.block_size; record_size = a.record_size })

        go : Form s t → Stands s' (fed L t (x ∷ []))
        go (broken h z b u) =
            same (fed_dead L t (dead t.progress z) (x ∷ [])) (broken (omega (arith, more)) z b u)
        go (past h c f g) =
            subst (Stands s') (sym (fed_over L t (alive t.progress c f) (ap (λ n. leb OVER n) g) (x ∷ []) (omega arith)))
            (faults s' t TRAILING (omega (arith, more)) (λ e. omega arith))
        go (waiting l e) =
            let held = grown L (opened L) s in
            let takes : Takes L held.progress = record { live = refl; going = refl; room = omega arith } in
            subst (Stands s')
            (sym (ap (λ (u : Session). fed L u (x ∷ [])) e ∙ byte_held L held x takes ∙ ap (looked L) (grown_more L (opened L) s (x ∷ []))))
            (at_start l)
        go (going h c f g) = by_room (below t.progress.held (due_size L t.progress))
          where
            live : is_live t.progress ≡ true
            live = alive t.progress c f

            not_over : is_over t.progress ≡ false
            not_over = ap (leb OVER) g ∙ lt-leb OVER L.next LL.next_going

            by_room : (t.progress.held < due_size L t.progress) ⊎ (due_size L t.progress ≤ t.progress.held)
                → Stands s' (fed L t (x ∷ []))
            by_room (inl r) =
                subst (Stands s') (sym (byte_held L t x (record { live = live; going = not_over; room = r })))
                (behind t h c f g a.block_size a.record_size)
            by_room (inr r) =
                same (fed_full L t live not_over r (x ∷ [])) (going (omega (arith, more)) c f g)

  -- ---- any bytes

  run : (r s : List ℕ) (t : Session) → Stands s t → Stands (s ++ r) (fed L t r)
  unfolding fed
  run [] s t a = subst (λ (l : List ℕ). Stands l t) (sym (append-nil s)) a
  run (x ∷ r) s t a =
      subst (λ (l : List ℕ). Stands l (fed L t (x ∷ r))) (append_assoc s (x ∷ []) r) (run r (s ++ x ∷ []) _ (byte s x t a))

  pub stands : (s : List ℕ) → Stands s (fed L (opened L) s)
  stands s =
      run s [] (opened L)
      (record {
        form = waiting (omega arith) (sym (grown_none L (opened L)));
        block_size = zeros_block;
        record_size = zeros_record;
      })
