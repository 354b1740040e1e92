use Rattle.build_history.proofs.CallerLemmas.{run_init}
use Rattle.run_laws.proofs.laws.a_beginning_is_a_run.Goals as goal

pub returns : goal.returns
returns c = run_init
