use Rattle.class_pool.proofs.Shows.{shown_is, resolved_shows}
use Rattle.class_pool.proofs.law.entry_resolves.Goals as goal

pub returns : goal.returns
returns c = λ es e what. (resolved_shows es e what, shown_is es what e)
