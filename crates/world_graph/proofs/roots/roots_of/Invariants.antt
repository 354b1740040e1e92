use Rattle.std.proofs.Common.{◌≡◌, ◌++◌, drop, map, length, List, ℕ}
use Rattle.startup_rules.specs.declared.slot.Slot.{Slot}
use Rattle.startup_rules.specs.Visits.{refs_of}
use Rattle.startup_rules.specs.Views.{static_refs, roots}
use Rattle.world_graph.proofs.roots.roots_of.Given as goal

abbrev pub invariant-loop-row : goal.invariant-loop-row
invariant-loop-row l = static_refs (length l.world.objects) l.world.statics ≡ refs_of (length l.world.objects) l.out ++ static_refs (length l.world.objects) (drop l.row-index l.row-items)

abbrev pub invariant-loop-pair : goal.invariant-loop-pair
invariant-loop-pair l = roots l.world ≡ refs_of (length l.world.objects) l.out ++ refs_of (length l.world.objects) (map (λ (p : List ℕ × Slot). p.1) (drop l.pair-index l.pair-items))
