use Rattle.quarkus_cli.proofs.Complete.{accepted_planned}
use Rattle.quarkus_cli.proofs.laws.an_accepted_project_is_planned.Goals as goal

pub returns : goal.returns
returns c = accepted_planned c.no_fault_is_accepted.ensures
