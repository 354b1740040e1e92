use Rattle.build_history.proofs.CallerLemmas.{told_next}
use Rattle.build_history.proofs.laws.the_next_event_is_told.Goals as goal

pub returns : goal.returns
returns c = told_next
