use Rattle.chain_builder.proofs.LawLemmas.{named}
use Rattle.chain_builder.proofs.laws.fault_is_named.Goals as goal

pub returns : goal.returns
returns c = named
