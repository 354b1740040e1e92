use Rattle.std.proofs.Common.{◌≡◌, ◌++◌, drop}
use Rattle.std.specs.List.{flat_map}
use Rattle.ext_parser.specs.Declarations.{steps_of}
use Rattle.ext_parser.proofs.build.all_steps.Given as goal

-- the steps found so far, and those of the extensions that are left
abbrev pub invariant-loop-extension : goal.invariant-loop-extension
invariant-loop-extension l = l.found ++ flat_map (steps_of l.items l.on) (drop l.extension-index l.extensions) ≡ flat_map (steps_of l.items l.on) l.extensions
