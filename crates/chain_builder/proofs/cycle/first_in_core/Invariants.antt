use Rattle.std.proofs.Common.{ℕ, ◌<◌, Contains}
use Rattle.chain_builder.proofs.cycle.first_in_core.Given as goal

abbrev pub invariant-loop-s : goal.invariant-loop-s
invariant-loop-s l = (k : ℕ) → k < l.s → Contains l.removed.items k
