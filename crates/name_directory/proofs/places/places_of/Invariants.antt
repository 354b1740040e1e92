use Rattle.std.proofs.Common.{map, take}
use Rattle.name_directory.specs.Numbers.{HasPlaces}
use Rattle.name_directory.proofs.places.places_of.Given as goal

-- the map has the names so far
abbrev pub invariant-loop-index : goal.invariant-loop-index
invariant-loop-index g l = HasPlaces l.places (map g.M.Named.named (take l.index l.things))
