use Rattle.quarkus_cli.specs.Outcomes.{OfPlan}
use Rattle.quarkus_cli.proofs.OneOutcome.{one_plan, same_outcome}
use Rattle.quarkus_cli.proofs.laws.plan_has_one_outcome.Goals as goal

pub returns : goal.returns
returns c = λ file m. same_outcome c.no_fault_is_accepted.ensures c.fault_is_the_only_one.ensures OfPlan (one_plan c.a_plan_has_one_text.ensures) (m file)
