-- Each turn counts the next Step.
use mathlib.Core.Path.{ap, ◌∙◌}
use native.Mathlib.Omega.{arith}
use lib.ListN.{length, drop, length-drop}
use Rattle.records.proofs.Judging.{rest_is}
use Rattle.records.specs.Which.{its}
use Rattle.counts.proofs.Tallying.{passed_none, passed_tally, passed_whole, passed_next, passed_all}
use Rattle.counts.proofs.tally.count_steps.Goals as goal

pub loop-k-init : goal.loop-k-init
loop-k-init c = passed_none (its c.args.layout) _ _ _ c.requires.2

pub slice_bounds-count_step-start : goal.slice_bounds-count_step-start
slice_bounds-count_step-start c =
    omega (arith, c.place_of.ensures, passed_whole (its c.args.layout) _ _ _ c.loop-k-test.true c.requires.1)

pub count_step-requires : goal.count_step-requires
count_step-requires c =
    let own = its c.args.layout in
    let s = c.args.trace.now in
    let at = c.place_of.result in (
      omega (
        arith,
        ap length (rest_is s at),
        length-drop at s,
        c.place_of.ensures,
        passed_whole own _ _ _ c.loop-k-test.true c.requires.1,
      ),
      passed_tally own _ _ _ _ c.loop-k.invariant c.requires.0,
    )

pub loop-k-preserved : goal.loop-k-preserved
loop-k-preserved c =
    let s = c.args.trace.now in
    let counted = rw (rest_is s c.place_of.result ∙ ap (λ n. drop n s) c.place_of.ensures) at c.count_step.ensures in
    passed_next (its c.args.layout) _ _ _ _ c.loop-k.invariant c.loop-k-test.true _ counted

pub returns : goal.returns
returns c = passed_all (its c.args.layout) _ _ _ _ c.loop-k.invariant c.loop-k-test.false
