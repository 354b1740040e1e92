use Rattle.std.proofs.Common.{ℕ, take, Contains}
use Rattle.chain_builder.proofs.faults.any_needed.Given as goal

abbrev pub invariant-loop-s : goal.invariant-loop-s
invariant-loop-s l = (s : ℕ) → Contains (take l.s-index l.row) s → Contains l.needed.items s → ⊥
