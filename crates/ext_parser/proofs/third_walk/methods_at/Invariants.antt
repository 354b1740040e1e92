use Rattle.std.proofs.Common.{◌≡◌, drop}
use Rattle.ext_parser.specs.ThirdWalk.{methods_at}
use Rattle.ext_parser.proofs.Trees.{after}
use Rattle.ext_parser.proofs.third_walk.methods_at.Given as goal

-- what is left comes after the methods found so far
abbrev pub invariant-loop-index : goal.invariant-loop-index
invariant-loop-index l = methods_at l.names l.recorder l.path 0 l.methods ≡ after l.found (methods_at l.names l.recorder l.path l.index (drop l.index l.methods))
