use Rattle.std.proofs.Common.{◌≡◌, ◌++◌, drop, map}
use Rattle.ext_parser.specs.Declarations.{recorder_of}
use Rattle.ext_parser.proofs.build.with_recorders.Given as goal

abbrev pub invariant-loop-recorder : goal.invariant-loop-recorder
invariant-loop-recorder l = l.found ++ map recorder_of (drop l.recorder-index l.recorders) ≡ l.initial.found ++ map recorder_of l.recorders
