use Rattle.std.proofs.Common.{◌≡◌, drop}
use Rattle.ext_parser.specs.SecondWalk.{extensions_right, nothing_before}
use Rattle.ext_parser.proofs.second_walk.extensions_right.Given as goal

-- what is left comes after the names so far
abbrev pub invariant-loop-index : goal.invariant-loop-index
invariant-loop-index l =
    extensions_right l.known 0 nothing_before l.extensions ≡ extensions_right l.known l.index l.before (drop l.index l.extensions)
