use Rattle.chain_builder.proofs.LawLemmas.{refused}
use Rattle.chain_builder.proofs.laws.no_fault_is_accepted.Goals as goal

pub returns : goal.returns
returns c = refused
