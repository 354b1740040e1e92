use Rattle.std.proofs.Common.{take}
use Rattle.name_directory.specs.Numbers.{AreMethods}
use Rattle.name_directory.proofs.register.places_of_methods.Given as goal

-- the maps are of the recorders so far
abbrev pub invariant-loop-recorder : goal.invariant-loop-recorder
invariant-loop-recorder l = AreMethods l.found (take l.recorder-index l.recorders)
