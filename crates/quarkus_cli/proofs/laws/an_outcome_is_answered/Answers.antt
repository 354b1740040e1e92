use Rattle.quarkus_cli.proofs.Causes.{answered}
use Rattle.quarkus_cli.proofs.laws.an_outcome_is_answered.Goals as goal

pub returns : goal.returns
returns c = answered
