use Rattle.quarkus_cli.proofs.OneOutcome.{printed_history, told_history}
use Rattle.quarkus_cli.proofs.laws.a_build_tells_its_history.Goals as goal

pub returns : goal.returns
returns c = record { printed = printed_history c.steps_are_named.ensures; outcome = told_history c.steps_are_named.ensures c.a_text_is_of_one_run.ensures }
