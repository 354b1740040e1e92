use Rattle.build_history.proofs.CallerLemmas.{what_follows}
use Rattle.build_history.proofs.laws.what_is_next_may_follow.Goals as goal

pub returns : goal.returns
returns c = what_follows
