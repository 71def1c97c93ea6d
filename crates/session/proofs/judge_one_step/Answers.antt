-- It is judged as a run of one.
use Rattle.records.proofs.Feeding.{went_once}
use Rattle.session.proofs.judge_one_step.Goals as goal

pub returns : goal.returns
returns c = went_once _ _ _ _ _ c.judge_steps.ensures
