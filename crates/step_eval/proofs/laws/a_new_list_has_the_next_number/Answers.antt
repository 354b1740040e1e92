use Rattle.step_eval.proofs.Leaves.{next_list}
use Rattle.step_eval.proofs.laws.a_new_list_has_the_next_number.Goals as goal

pub returns : goal.returns
returns c = next_list
