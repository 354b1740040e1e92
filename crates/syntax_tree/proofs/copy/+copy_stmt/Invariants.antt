use Rattle.std.proofs.Common.{◌≡◌, take}
use Rattle.syntax_tree.proofs.copy.+copy_stmt.Given as goal

abbrev pub invariant-copy_block-loop-stmt : goal.invariant-copy_block-loop-stmt
invariant-copy_block-loop-stmt l = l.copies ≡ take l.stmt-index l.x
