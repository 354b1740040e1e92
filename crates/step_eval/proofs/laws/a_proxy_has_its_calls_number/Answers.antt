use Rattle.step_eval.proofs.Recorded.{next_call}
use Rattle.step_eval.proofs.laws.a_proxy_has_its_calls_number.Goals as goal

pub returns : goal.returns
returns c = next_call
