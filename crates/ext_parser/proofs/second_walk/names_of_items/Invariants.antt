use Rattle.std.proofs.Common.{◌≡◌, ◌++◌, drop}
use Rattle.ext_parser.specs.SecondWalk.{item_names, items_of}
use Rattle.ext_parser.proofs.second_walk.names_of_items.Given as goal

-- the names so far, and those of the extensions that are left
abbrev pub invariant-loop-extension : goal.invariant-loop-extension
invariant-loop-extension l = l.names ++ item_names (items_of (drop l.extension-index l.extensions)) ≡ item_names (items_of l.extensions)
