use Rattle.machine_rules.proofs.Told.{spelled_startup_is_same}
use Rattle.machine_rules.proofs.laws.spelled_startup_is_same.Goals as goal

pub returns : goal.returns
returns c = spelled_startup_is_same
