use Rattle.class_pool.proofs.Entering.{done, few_more, gaps_more, short_more}
use Rattle.class_pool.proofs.law.entering_keeps.Goals as goal

pub returns-clause-holds : goal.returns-clause-holds
returns-clause-holds c = λ what es fs i b e. (done what es fs i b e).0

pub returns-clause-stays : goal.returns-clause-stays
returns-clause-stays c = λ what es fs i b e. let g = (done what es fs i b e).1 in (g.stays.0, g.stays.1)

pub returns-clause-few : goal.returns-clause-few
returns-clause-few c = few_more

pub returns-clause-references : goal.returns-clause-references
returns-clause-references c = λ what es fs i b e. (done what es fs i b e).1.refer

pub returns-clause-gaps : goal.returns-clause-gaps
returns-clause-gaps c = gaps_more

pub returns-clause-texts : goal.returns-clause-texts
returns-clause-texts c = short_more
