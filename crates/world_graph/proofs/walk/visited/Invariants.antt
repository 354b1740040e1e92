use Rattle.std.proofs.Common.{◌+◌, map, length}
use Rattle.startup_rules.specs.Visits.{refs_of}
use Rattle.startup_rules.specs.Worlds.{parts}
use Rattle.world_graph.proofs.Numbering.{At, pend, nows, weigh, unseen}
use Rattle.world_graph.proofs.walk.visited.Given as goal

abbrev pub invariant-loop-slots : goal.invariant-loop-slots
invariant-loop-slots l = At (map parts l.objects) (refs_of (length l.objects) l.roots) l.seen.items l.order.items (pend (length (map parts l.objects)) (nows l.rest_of.items))

abbrev pub decreases-loop-slots : goal.decreases-loop-slots
decreases-loop-slots l = unseen (map parts l.objects) l.seen.items + weigh (nows l.rest_of.items)
