use Rattle.quarkus_cli.specs.Builds.{OfBuild}
use Rattle.quarkus_cli.proofs.OneOutcome.{one_build, same_outcome}
use Rattle.quarkus_cli.proofs.laws.one_worker_has_one_outcome.Goals as goal

pub returns : goal.returns
returns c =
    λ file out m. same_outcome c.no_fault_is_accepted.ensures c.fault_is_the_only_one.ensures (OfBuild out 1) (one_build c.one_least_first.ensures out) (m file)
