use Rattle.lang_grammar.proofs.Texts.{either, not_both, one_tree, one_fault}
use Rattle.lang_grammar.proofs.law.one_reading.Goals as goal

pub returns-clause-one_or_other : goal.returns-clause-one_or_other
returns-clause-one_or_other c = either

pub returns-clause-never_both : goal.returns-clause-never_both
returns-clause-never_both c = not_both

pub returns-clause-one_tree : goal.returns-clause-one_tree
returns-clause-one_tree c = one_tree

pub returns-clause-one_fault : goal.returns-clause-one_fault
returns-clause-one_fault c = one_fault
