use Rattle.world_rules.proofs.Moving.{alike_self, alike_back, alike_on}
use Rattle.world_rules.proofs.laws.one_view_is_an_equivalence.Goals as goal

pub returns : goal.returns
returns c = record { reflexive = alike_self; symmetric = alike_back; transitive = alike_on }
