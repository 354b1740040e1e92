use Rattle.std.proofs.Common.{◌≡◌, drop}
use Rattle.startup_rules.specs.Worlds.{kept}
use Rattle.startup_world.proofs.world.World.context_get.Given as goal

abbrev pub invariant-loop-pair : goal.invariant-loop-pair
invariant-loop-pair l = kept l.self.context l.key ≡ kept (drop l.pair-index l.pair-items) l.key
