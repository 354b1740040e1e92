use Rattle.run_laws.proofs.Once.{one_least_first}
use Rattle.run_laws.proofs.laws.one_least_first.Goals as goal

pub returns : goal.returns
returns c = one_least_first
