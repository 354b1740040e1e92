use Rattle.std.proofs.Common.{◌≡◌, ◌++◌, take}
use Rattle.ext_parser.proofs.build.with_copies.Given as goal

abbrev pub invariant-loop-one : goal.invariant-loop-one
invariant-loop-one g l = l.found ≡ l.initial.found ++ take l.one-index l.more
