use Rattle.step_eval.proofs.Leaves.{next_bean}
use Rattle.step_eval.proofs.laws.a_new_bean_has_the_next_number.Goals as goal

pub returns : goal.returns
returns c = next_bean
