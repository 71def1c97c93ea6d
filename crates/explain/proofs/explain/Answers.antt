-- The report is the checker's.
use Rattle.records.specs.Layout.{layout_of}
use Rattle.explain.proofs.Explaining.{by_report}
use Rattle.explain.proofs.explain.Goals as goal

pub returns-in-Some : goal.returns-in-Some
returns-in-Some c = by_report (layout_of c.args.trace.now) c.args.trace.now _ c.check-report.ensures.report _ c.in-Some.ensures

pub returns-in-None : goal.returns-in-None
returns-in-None c = by_report (layout_of c.args.trace.now) c.args.trace.now _ c.check-report.ensures.report _ c.in-None.ensures
