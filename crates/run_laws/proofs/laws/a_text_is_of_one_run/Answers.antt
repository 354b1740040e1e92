use Rattle.run_laws.proofs.Walks.{one_run}
use Rattle.run_laws.proofs.laws.a_text_is_of_one_run.Goals as goal

pub returns : goal.returns
returns c = one_run
