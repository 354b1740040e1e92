use Rattle.chain_builder.specs.Missing.{NoLackBefore}
use Rattle.chain_builder.proofs.faults.first_lacking.Given as goal

abbrev pub invariant-loop-c : goal.invariant-loop-c
invariant-loop-c l = NoLackBefore l.consumes l.lacking l.c-index
