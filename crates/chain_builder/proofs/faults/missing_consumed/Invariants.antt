use Rattle.chain_builder.specs.Missing.{NoWantBefore}
use Rattle.chain_builder.proofs.faults.missing_consumed.Given as goal

abbrev pub invariant-loop-s : goal.invariant-loop-s
invariant-loop-s l = NoWantBefore l.steps l.items l.finals l.s
