use Rattle.std.proofs.Common.{◌≡◌, length, take}
use Rattle.syntax_tree.proofs.same.+same_stmt.Given as goal

abbrev pub invariant-same_block-loop-i : goal.invariant-same_block-loop-i
invariant-same_block-loop-i l = (length l.xs ≡ length l.ys) × (take l.i l.xs ≡ take l.i l.ys)
