use Rattle.chain_builder.proofs.LawLemmas.{round_some, round_next, round_back}
use Rattle.chain_builder.proofs.laws.cycle_goes_round.Goals as goal

pub returns-clause-some : goal.returns-clause-some
returns-clause-some c = round_some

pub returns-clause-next : goal.returns-clause-next
returns-clause-next c = round_next

pub returns-clause-back : goal.returns-clause-back
returns-clause-back c = round_back
