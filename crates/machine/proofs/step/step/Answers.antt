-- The event, as a direct step sees it.
use mathlib.Core.Path.{ap, ◌∙◌}
use Rattle.rules.specs.declared.event.Event.{Event}
use Rattle.rules.specs.Step.{number_returned, block_left, answer_left}
use Rattle.machine.proofs.step.step.Goals as goal

pub returns : goal.returns
returns c =
    let x = c.args in
    let seen = c.direct_code.ensures x.b in
    record {
      number = c.step_over.ensures.number ∙ ap (λ (e : Event). number_returned x.block.now e x.buffer.now) seen;
      leaves = c.step_over.ensures.leaves ∙ ap (λ (e : Event). block_left x.block.now e x.buffer.now) seen;
      answers = c.step_over.ensures.answers ∙ ap (λ (e : Event). answer_left x.block.now e x.buffer.now) seen;
    }
