use Rattle.std.proofs.Common.{◌≡◌, ◌++◌, drop, map, Ok}
use Rattle.ext_parser.specs.SecondWalk.{row, then}
use Rattle.ext_parser.proofs.second_walk.row.Given as goal

-- what is left comes after the names so far
abbrev pub invariant-loop-index : goal.invariant-loop-index
invariant-loop-index g l =
    then (row g.D.Named.named (g.D.Declared.inner l.known) l.path 0 l.initial.before l.things) (λ _. Ok (l.initial.before ++ map g.D.Named.named l.things))
    ≡ then (row g.D.Named.named (g.D.Declared.inner l.known) l.path l.index l.before (drop l.index l.things)) (λ _. Ok (l.before ++ map g.D.Named.named (drop l.index l.things)))
