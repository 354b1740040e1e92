use Rattle.std.proofs.Common.{◌≡◌, map, take}
use Rattle.startup_rules.specs.Worlds.{opening_statics}
use Rattle.startup_world.proofs.making.opening_statics.Given as goal

abbrev pub invariant-loop-decl : goal.invariant-loop-decl
invariant-loop-decl l = l.statics ≡ map opening_statics (take l.decl-index l.recorders)
