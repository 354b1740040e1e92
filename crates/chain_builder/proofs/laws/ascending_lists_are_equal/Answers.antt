use Rattle.chain_builder.proofs.LawLemmas.{same_rising}
use Rattle.chain_builder.proofs.laws.ascending_lists_are_equal.Goals as goal

pub returns : goal.returns
returns c = same_rising
