use Rattle.std.proofs.Common.{◌≡◌, [], drop, map}
use Rattle.ext_parser.specs.SecondWalk.{all_known}
use Rattle.ext_parser.proofs.lists.all_known.Given as goal

-- what is left comes after the entries so far
abbrev pub invariant-loop-index : goal.invariant-loop-index
invariant-loop-index g l =
    all_known l.all l.path 0 [] (map g.M.Named.named l.entries) ≡ all_known l.all l.path l.index l.before (map g.M.Named.named (drop l.index l.entries))
