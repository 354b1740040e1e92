use Rattle.std.proofs.Common.{◌≡◌, take}
use Rattle.syntax_tree.proofs.copy.+copy_expr.Given as goal

abbrev pub invariant-copy_exprs-loop-x : goal.invariant-copy_exprs-loop-x
invariant-copy_exprs-loop-x l = l.copies ≡ take l.x-index l.xs

abbrev pub invariant-copy_fields-loop-x : goal.invariant-copy_fields-loop-x
invariant-copy_fields-loop-x l = l.copies ≡ take l.x-index l.xs
