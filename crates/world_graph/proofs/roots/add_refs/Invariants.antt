use Rattle.std.proofs.Common.{◌≡◌, ◌++◌, ℕ, drop}
use Rattle.startup_rules.specs.Visits.{refs_of}
use Rattle.world_graph.proofs.roots.add_refs.Given as goal

abbrev pub invariant-loop-slot : goal.invariant-loop-slot
invariant-loop-slot l = (n : ℕ) → refs_of n l.initial.out ++ refs_of n l.slots ≡ refs_of n l.out ++ refs_of n (drop l.slot-index l.slots)
