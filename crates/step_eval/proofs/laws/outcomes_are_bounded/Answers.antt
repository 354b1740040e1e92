use Rattle.step_eval.proofs.Bounded.{outcome_is_bounded}
use Rattle.step_eval.proofs.laws.outcomes_are_bounded.Goals as goal

pub returns : goal.returns
returns c = outcome_is_bounded
