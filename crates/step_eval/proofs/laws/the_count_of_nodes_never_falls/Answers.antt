use Rattle.step_eval.proofs.SteadyStatements.{nodes_rise}
use Rattle.step_eval.proofs.laws.the_count_of_nodes_never_falls.Goals as goal

pub returns : goal.returns
returns c = nodes_rise
