use Rattle.std.proofs.Common.{◌≡◌, [], drop}
use Rattle.ext_parser.specs.SecondWalk.{all_fresh}
use Rattle.ext_parser.proofs.lists.all_fresh.Given as goal

-- what is left comes after the texts so far
abbrev pub invariant-loop-index : goal.invariant-loop-index
invariant-loop-index l = all_fresh l.path 0 [] l.texts ≡ all_fresh l.path l.index l.before (drop l.index l.texts)
