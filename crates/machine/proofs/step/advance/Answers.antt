-- The event as a direct step sees it.
use mathlib.Core.Path.{ap, ◌∙◌}
use Rattle.rules.specs.Step.{answer, after}
use Rattle.machine.proofs.step.advance.Goals as goal

pub returns : goal.returns
returns c =
    let seen = c.direct_code.ensures c.args.e.b in
    record {
      answers = c.answer_in.ensures.answers ∙ ap (answer c.args.block.now) seen;
      leaves = c.answer_in.ensures.leaves ∙ ap (after c.args.block.now) seen;
    }
