use Rattle.quarkus_cli.proofs.Complete.{accepted_built}
use Rattle.quarkus_cli.proofs.laws.an_accepted_project_is_built.Goals as goal

pub returns : goal.returns
returns c = accepted_built c.no_fault_is_accepted.ensures
