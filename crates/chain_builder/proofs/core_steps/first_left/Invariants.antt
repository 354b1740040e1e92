use Rattle.std.proofs.Common.{ℕ, ◌<◌, length, get_or, Contains}
use Rattle.chain_builder.proofs.core_steps.first_left.Given as goal

abbrev pub invariant-loop-place : goal.invariant-loop-place
invariant-loop-place l = (j : ℕ) → j < l.place → j < length l.row → Contains l.removed.items (get_or l.row j 0)
