use Rattle.std.proofs.Common.{subst}
use Rattle.step_state.specs.declared.state.State.{State}
use Rattle.step_state.specs.Evaluation.{Checked}
use Rattle.step_eval.proofs.Leaves.{Leaves}
use Rattle.step_eval.proofs.SteadyStatements.{Ends, block_ends}
use Rattle.step_eval.proofs.laws.a_block_leaves_no_name.Goals as goal

pub returns : goal.returns
returns c = λ cx ds s t e. (subst (λ (o : Checked (Unit {0} × State)). Leaves (λ u t. Ends s t) o) e (block_ends cx ds s)).same_scope
