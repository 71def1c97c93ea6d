-- The string is judged in the layout of its Start.
use mathlib.Core.Path.{ap, ◌∙◌}
use Rattle.records.proofs.Eithers.{exact}
use Rattle.records.specs.Layout.{layout}
use Rattle.records.specs.Report.{report}
use Rattle.trace.proofs.check.Goals as goal

pub returns-clause-exact : goal.returns-clause-exact
returns-clause-exact c =
    let s = c.args.trace.now in
    let judged = c.check_in.ensures ∙ ap (λ old. report (layout old) s) c.of.ensures in
    (exact s (λ i. (c.type_inv.trace i).fits) _ judged).1
