use Rattle.chain_builder.specs.ChainFaults.{NoFinalBefore}
use Rattle.chain_builder.proofs.faults.missing_final.Given as goal

abbrev pub invariant-loop-t : goal.invariant-loop-t
invariant-loop-t l = NoFinalBefore l.steps l.items l.finals l.t-index
