use Rattle.world_rules.proofs.Moving.{moved_alike}
use Rattle.world_rules.proofs.laws.a_view_knows_no_age.Goals as goal

pub returns : goal.returns
returns c = moved_alike
