use Rattle.std.proofs.Common.{◌≡◌, ◌++◌, drop}
use Rattle.ext_parser.specs.Declarations.{beans_of}
use Rattle.ext_parser.proofs.build.all_beans.Given as goal

-- the beans found so far, and those of the extensions that are left
abbrev pub invariant-loop-extension : goal.invariant-loop-extension
invariant-loop-extension l = l.found ++ beans_of (drop l.extension-index l.extensions) ≡ beans_of l.extensions
