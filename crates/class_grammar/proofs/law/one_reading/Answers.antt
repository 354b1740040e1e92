use Rattle.class_grammar.proofs.Files as law
use Rattle.class_grammar.proofs.law.one_reading.Goals as goal

pub returns-clause-one_or_other : goal.returns-clause-one_or_other
returns-clause-one_or_other c = law.one_or_other

pub returns-clause-never_both : goal.returns-clause-never_both
returns-clause-never_both c = law.never_both

pub returns-clause-one_class : goal.returns-clause-one_class
returns-clause-one_class c = law.one_class

pub returns-clause-one_place : goal.returns-clause-one_place
returns-clause-one_place c = law.one_place
