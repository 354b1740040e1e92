use Rattle.std.proofs.Common.{◌≡◌, [], drop, map}
use Rattle.project_fit.specs.Fits.{none_twice}
use Rattle.project_fit.proofs.fitting.none_twice.Given as goal

-- what is left comes after the names so far
abbrev pub invariant-loop-thing : goal.invariant-loop-thing
invariant-loop-thing g l = none_twice [] (map g.M.Named.named l.things) ≡ none_twice l.before (map g.M.Named.named (drop l.thing-index l.things))
