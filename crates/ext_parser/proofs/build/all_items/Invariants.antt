use Rattle.std.proofs.Common.{◌≡◌, ◌++◌, drop}
use Rattle.ext_parser.specs.SecondWalk.{items_of}
use Rattle.ext_parser.proofs.build.all_items.Given as goal

-- the items found so far, and those of the extensions that are left
abbrev pub invariant-loop-extension : goal.invariant-loop-extension
invariant-loop-extension l = l.found ++ items_of (drop l.extension-index l.extensions) ≡ items_of l.extensions
