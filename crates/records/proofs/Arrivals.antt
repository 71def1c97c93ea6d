-- What is proved of a trace that is judged as it arrives, for any lawful layout and for both.
use Rattle.std.specs.Prelude.{if◌then◌else◌}
use mathlib.Core.Path.{◌≡◌, refl, sym, ap, ◌∙◌}
use mathlib.Core.Bool.{Bool, true, false}
use mathlib.Core.Logic.{◌⊎◌, inl, inr, ◌↔◌}
use mathlib.Core.List.{List, [], ◌∷◌}
use Prim.Native.Nat.{ℕ}
use native.Mathlib.Omega.{arith}
use lib.ListN.{take, drop, take-append-drop}
use borrow.Author.Tests.{eq-eqb, ne_eqb}
use Rattle.words.specs.Word.{Bytes}
use Rattle.state.specs.Choice.{◌is◌}
use Rattle.records.specs.declared.report.Report.{Report}
use Rattle.records.specs.declared.session.Progress.{Progress}
use Rattle.records.specs.declared.session.Session.{Session}
use Rattle.records.specs.Layout.{Layout, Lawful, layout}
use Rattle.records.specs.Published.{Published}
use Rattle.records.specs.Report.{report, ACCEPTED, SHORT}
use Rattle.records.specs.Session.{feed_number, closing, opened, fed, fed_all}
use Rattle.records.specs.Arrival.{joined, known_number, Arrival}
use Rattle.records.proofs.Lawfuls.{lawful}
use Rattle.records.proofs.Faults.{differ, zero_or_not}
use Rattle.records.proofs.Refusals as refusals
use Rattle.records.proofs.Feeding.{dead, dead_closed, fed_cut, fed_dead}
use Rattle.records.proofs.Arriving.{ends}
use Rattle.records.proofs.Knowing as knowing

-- what a feeding answers is never SHORT
pub known_not_short : (n : ℕ) → known_number n ≡ SHORT → ⊥
known_not_short n = go (n is SHORT) refl
  where
    go : (t : Bool) → (n is SHORT) ≡ t → (if t then 0 else n) ≡ SHORT → ⊥
    go true e f = omega arith
    go false e f = let x : (n is SHORT) ≡ true = eq-eqb n SHORT f in differ (sym e ∙ x)

module _ (L : Layout) (LL : Lawful L) where
  -- an open session answers the fault that it knows
  answered : (p : Progress) → p.closed ≡ 0 → feed_number p ≡ p.fault
  answered p h = simp (eq-eqb p.closed 0 h)

  -- run after run is all of them at once
  cut_anyhow : (s : Session) (rs : List (List ℕ)) → fed_all L s rs ≡ fed L s (joined rs)
  unfolding fed fed_all
  cut_anyhow s [] = refl
  cut_anyhow s (r ∷ rs) = cut_anyhow (fed L s r) rs ∙ sym (fed_cut L s r (joined rs))

  closes : (rs : List (List ℕ)) → closing (fed_all L (opened L) rs).progress ≡ report L (joined rs)
  closes rs = ap (λ (s : Session). closing s.progress) (cut_anyhow (opened L) rs) ∙ (ends L LL (joined rs)).closes

  answers : (s : List ℕ) → feed_number (fed L (opened L) s).progress ≡ known_number (report L s).number
  answers s = let e = ends L LL s in answered (fed L (opened L) s).progress e.still ∙ e.fault

  accepts : (rs : List (List ℕ)) → Bytes (joined rs)
      → ((closing (fed_all L (opened L) rs).progress).number ≡ ACCEPTED) ↔ Published L (joined rs)
  accepts rs by =
      let exact = refusals.accepts_exactly L LL (joined rs) by in
      let number = ap (λ (v : Report). v.number) (closes rs) in
      ((λ z. exact.0 (sym number ∙ z)), (λ q. number ∙ exact.1 q))

  -- a fault that a prefix shows stays
  nothing_known : (s : List ℕ) (j : ℕ) → known_number (report L s).number ≡ 0
      → feed_number (fed L (opened L) (take j s)).progress ≡ 0
  nothing_known s j e = answered at.progress (ends L LL (take j s)).still ∙ go (zero_or_not at.progress.fault)
    where
      at : Session
      at = fed L (opened L) (take j s)

      stays : (at.progress.fault ≡ 0 → ⊥) → fed L (opened L) s ≡ at
      stays h =
          ap (fed L (opened L)) (sym (take-append-drop j s))
          ∙ fed_cut L (opened L) (take j s) (drop j s)
          ∙ fed_dead L at (dead at.progress h) (drop j s)

      go : (at.progress.fault ≡ 0) ⊎ (at.progress.fault ≡ 0 → ⊥) → at.progress.fault ≡ 0
      go (inl z) = z
      go (inr h) = sym (ap (λ (t : Session). t.progress.fault) (stays h)) ∙ (ends L LL s).fault ∙ e

  pub arrival : Arrival L
  unfolding fed
  arrival =
      record {
        however_cut = cut_anyhow (opened L);
        closes_with_the_report = closes;
        accepts_exactly = accepts;
        answers = answers;
        known_exactly = λ s j h nz n8.
            answered (fed L (opened L) (take j s)).progress (ends L LL (take j s)).still
            ∙ knowing.known_exactly L LL s j h nz n8;
        nothing_known = nothing_known;
        never_short = λ s e. known_not_short (report L s).number (sym (answers s) ∙ e);
        empty_run = λ s. refl;
        fault_stays = λ s r h. fed_dead L s (dead s.progress h) r;
        closed_stays = λ s r h. fed_dead L s (dead_closed s.progress h) r;
        closed_answers = λ p h. simp (ne_eqb p.closed 0 h);
        closes_again = λ p. refl;
        shut_again = λ s. refl;
      }

pub arrival_of : (old : Bool) → Arrival (layout old)
arrival_of old = arrival (layout old) (lawful old)
