-- What was recorded is accepted: the recorder's contract, put beside the checker's.
use mathlib.Core.Path.{refl, ap, ◌∙◌}
use mathlib.Core.Bool.{false}
use lib.ListN.{length}
use borrow.Author.Tests.{eq-eqb}
use Rattle.records.specs.declared.report.Report.{Report}
use Rattle.records.proofs.Eithers.{by_layout}
use Rattle.records.proofs.Heads.{accepted_tells}
use Rattle.recorder.proofs.Theorems.{theorems_new}
use Rattle.console.specs.Check.{report_size, report_bytes, check_returns, check_leaves}
use Rattle.console.specs.Reference.{recorded_in, ReferenceTheorems}

pub theorems : ReferenceTheorems
unfolding check_returns check_leaves
theorems =
    record {
      accepted = λ b es s offset s' buffer r words h.
          let told = (theorems_new.of_recording b es s offset 0 s' r).accepted refl words in
          let trace = recorded_in es offset s' in
          let said = by_layout false trace (accepted_tells false trace (ap (λ (v : Report). v.number) told)) ∙ told in
          let sized = eq-eqb (length buffer) report_size h in
          (simp sized (ap (λ (v : Report). v.number) said), simp sized (ap report_bytes said));
    }
