use Rattle.chain_builder.proofs.UniqueLemmas.{same_fault}
use Rattle.chain_builder.proofs.laws.fault_is_the_only_one.Goals as goal

pub returns : goal.returns
returns c = same_fault
