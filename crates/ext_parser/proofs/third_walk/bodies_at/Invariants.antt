use Rattle.std.proofs.Common.{◌≡◌, drop}
use Rattle.ext_parser.specs.ThirdWalk.{bodies_at}
use Rattle.ext_parser.proofs.Trees.{after}
use Rattle.ext_parser.proofs.third_walk.bodies_at.Given as goal

-- what is left comes after the bodies found so far
abbrev pub invariant-loop-index : goal.invariant-loop-index
invariant-loop-index l =
    bodies_at l.reading.names.now l.reading.items.now l.reading.on.now l.extension l.path 0 l.steps
    ≡ after l.found (bodies_at l.reading.names.now l.reading.items.now l.reading.on.now l.extension l.path l.index (drop l.index l.steps))
