use Rattle.machine_rules.proofs.Budget.{enough_is_enough}
use Rattle.machine_rules.proofs.laws.enough_is_enough.Goals as goal

pub returns : goal.returns
returns c = enough_is_enough
