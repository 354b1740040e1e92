use Rattle.std.proofs.Common.{◌≡◌, ◌+◌, drop, length}
use Rattle.ext_parser.specs.ThirdWalk.{lists_at}
use Rattle.ext_parser.proofs.Trees.{after}
use Rattle.ext_parser.proofs.third_walk.lists_at.Given as goal

-- what is left comes after the lists found so far
abbrev pub invariant-loop-index : goal.invariant-loop-index
invariant-loop-index l = record {
  rest : lists_at l.names l.first l.path 0 l.recorders ≡ after l.found (lists_at l.names (l.first + l.index) l.path l.index (drop l.index l.recorders));
  many : length l.found ≡ l.index;
}
