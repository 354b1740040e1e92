use Rattle.build_history.proofs.CallerLemmas.{run_nil}
use Rattle.build_history.proofs.laws.nothing_is_a_run.Goals as goal

pub returns : goal.returns
returns c = run_nil
