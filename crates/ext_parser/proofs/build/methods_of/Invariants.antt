use Rattle.std.proofs.Common.{◌≡◌, ◌++◌, drop, map}
use Rattle.ext_parser.specs.Declarations.{method_of}
use Rattle.ext_parser.proofs.build.methods_of.Given as goal

abbrev pub invariant-loop-method : goal.invariant-loop-method
invariant-loop-method l = l.found ++ map method_of (drop l.method-index l.methods) ≡ map method_of l.methods
