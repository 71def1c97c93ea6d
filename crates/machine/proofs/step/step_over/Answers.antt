-- A wrong size leaves both buffers. Else the event is carried out.
use mathlib.Core.Path.{◌∙◌}
use Rattle.rules.proofs.Deciding.{event}
use Rattle.machine.proofs.Stepping.{wrong_block, wrong_buffer, performed, right_sizes, on_slice}
use Rattle.machine.proofs.step.step_over.Goals as goal

pub returns-in_default : goal.returns-in_default
returns-in_default g c =
    let e = event c.args.code c.args.operands.a c.args.operands.b in
    let p = wrong_block _ e _ c.in_default.ensures.cases in
    record {
      number = c.number.ensures.value ∙ p.0;
      leaves = p.1.0;
      answers = p.1.1;
      fits = λ s z. absurd (c.in_default.ensures.cases s);
    }

pub returns-in_default-as_mut_array : goal.returns-in_default-as_mut_array
returns-in_default-as_mut_array g c =
    let e = event c.args.code c.args.operands.a c.args.operands.b in
    let whole = c.in-Some.ensures.cases in
    let p = wrong_buffer _ e _ whole.long c.in_default-as_mut_array.ensures.cases in
    record {
      number = c.number-in_default-as_mut_array.ensures.value ∙ p.0;
      leaves = whole.same ∙ p.1.0;
      answers = p.1.1;
      fits = λ s z. absurd (c.in_default-as_mut_array.ensures.cases z);
    }

pub returns : goal.returns
returns g c =
    let e = event c.args.code c.args.operands.a c.args.operands.b in
    let whole = c.in-Some.ensures.cases in
    let k = performed c.args.block.now e (on_slice e whole.same c.dispatch.ensures) in
    let p = right_sizes c.args.block.now e _ whole.long c.in-Some-as_mut_array.ensures.cases.long k in
    record { number = p.0; leaves = p.1.0; answers = p.1.1; fits = λ s z. k.1.1.1 }
