use Rattle.std.proofs.Common.{◌≡◌, ◌++◌, string_bytes}
use Rattle.project_generator.specs.Generated.{below, item_line}
use Rattle.project_generator.proofs.text.push_items.Given as goal

-- the lines of the numbers before this one are appended
abbrev pub invariant-loop-item : goal.invariant-loop-item
invariant-loop-item l = string_bytes l.out ≡ string_bytes l.initial.out ++ below item_line l.item
