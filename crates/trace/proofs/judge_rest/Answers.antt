-- A wrong Step is reported at its own place; behind right ones stands the End.
use mathlib.Core.List.{List}
use mathlib.Core.Path.{◌≡◌, sym, ap, ◌∙◌}
use Prim.Native.Nat.{ℕ, ◌-◌, ◌*◌}
use native.Mathlib.Omega.{arith}
use lib.ListN.{length, take, drop}
use lib.Seq.{drop-drop}
use Rattle.records.proofs.Judging.{went_wrong, went_all, rest_is}
use Rattle.records.specs.declared.report.Report.{Report}
use Rattle.records.specs.Layout.{Layout, start_size, step_size, place_of}
use Rattle.records.specs.Judged.{Run, Went}
use Rattle.records.specs.Report.{end_report, report_from}
use Rattle.records.specs.Which.{its}
use Rattle.trace.proofs.judge_rest.Goals as goal

-- the Steps were judged behind the Start, from this place on
module _ (L : Layout) (trace : List ℕ) (n : ℕ) (b d : List ℕ) (v : Run) (from : ℕ) (e : from ≡ start_size L)
    (judged : Went L (take (length trace - from) (drop from trace)) n b v d) where
  abbrev rest : List ℕ
  rest = drop (start_size L) trace

  went : Went L rest n b v d
  went = rw (rest_is trace from ∙ ap (λ k. drop k trace) e) at judged

  module _ (place : ℕ) (p : place ≡ place_of L v.right) where
    told_wrong : (v.fault ≡ 0 → ⊥)
        → ◌≡◌ {A = Report} (record { number = v.fault; place = place; steps = v.right }) (report_from L n 0 b rest)
    told_wrong z =
        ap (λ at. record { number = v.fault; place = at; steps = v.right }) p ∙ went_wrong L b rest n v d went z

    told_right : v.fault ≡ 0 → end_report n place (take (length trace - place) (drop place trace)) ≡ report_from L n 0 b rest
    told_right z =
        let end_is : take (length trace - place) (drop place trace) ≡ drop (step_size L * v.right) rest =
        rest_is trace place ∙ ap (λ k. drop k trace) p ∙ sym (drop-drop (step_size L * v.right) (start_size L) trace) in
        (λ i. end_report n (p i) (end_is i)) ∙ went_all L b rest n v d went z

pub returns-then-is_err : goal.returns-then-is_err
returns-then-is_err c =
    let x = c.args in
    c.report_of.ensures
    ∙ told_wrong (its x.layout) x.trace.now x.steps _ _ _ _ c.start_size.ensures c.judge_steps-run.ensures _ c.place_of-place.ensures
    (grind arith)

pub returns : goal.returns
returns c =
    let x = c.args in
    c.finish.ensures
    ∙ told_right (its x.layout) x.trace.now x.steps _ _ _ _ c.start_size.ensures c.judge_steps-run.ensures _ c.place_of-place.ensures
    (grind arith)
