use Rattle.world_rules.proofs.Existing.{graph_there}
use Rattle.world_rules.proofs.Moving.{view_there, view_is_one}
use Rattle.world_rules.proofs.laws.each_world_has_one_view.Goals as goal

pub returns : goal.returns
returns c = record { there = view_there; one = view_is_one }
