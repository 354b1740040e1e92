use Rattle.command_words.proofs.Asked.{asked}
use Rattle.command_words.proofs.words.name_of_two.Goals as goal

pub returns-clause-workers : goal.returns-clause-workers
returns-clause-workers c = asked c.args.values.now c.in_ok-workers.workers c.in_ok-workers.ensures
