use Rattle.std.proofs.Common.{ℕ, ◌<◌}
use Rattle.chain_builder.specs.ChainFaults.{HasTwoProducers}
use Rattle.chain_builder.proofs.faults.find_duplicate.Given as goal

abbrev pub invariant-loop-t : goal.invariant-loop-t
invariant-loop-t l = (u : ℕ) → u < l.t → HasTwoProducers l.steps l.items u → ⊥
