use Rattle.std.proofs.Common.{◌≡◌, ◌++◌, drop}
use Rattle.ext_parser.specs.Declarations.{recorders_of}
use Rattle.ext_parser.proofs.build.all_recorders.Given as goal

-- the recorders found so far, and those of the extensions that are left
abbrev pub invariant-loop-extension : goal.invariant-loop-extension
invariant-loop-extension l = l.found ++ recorders_of (drop l.extension-index l.extensions) ≡ recorders_of l.extensions
