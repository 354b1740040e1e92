use Rattle.build_history.proofs.CallerLemmas.{goes_on}
use Rattle.build_history.proofs.laws.a_run_goes_on.Goals as goal

pub returns : goal.returns
returns c = goes_on
