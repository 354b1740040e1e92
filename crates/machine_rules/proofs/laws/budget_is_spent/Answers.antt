use Rattle.machine_rules.proofs.Budget.{budget_is_spent}
use Rattle.machine_rules.proofs.laws.budget_is_spent.Goals as goal

pub returns : goal.returns
returns c = budget_is_spent
