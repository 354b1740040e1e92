use Rattle.std.proofs.Common.{◌≡◌, ◌++◌, drop}
use Rattle.ext_parser.specs.SecondWalk.{item_names}
use Rattle.ext_parser.proofs.second_walk.with_items.Given as goal

-- the names so far, and those that are left
abbrev pub invariant-loop-item : goal.invariant-loop-item
invariant-loop-item l = l.names ++ item_names (drop l.item-index l.items) ≡ l.initial.names ++ item_names l.items
