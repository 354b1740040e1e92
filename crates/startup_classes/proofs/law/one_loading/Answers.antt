use Rattle.startup_classes.proofs.OneFault as law
use Rattle.startup_classes.proofs.law.one_loading.Goals as goal

pub returns-clause-one_list : goal.returns-clause-one_list
returns-clause-one_list c = law.one_list (record { never_both = c.one_reading.ensures.never_both; one_class = c.one_reading.ensures.one_class; one_place = c.one_reading.ensures.one_place })

pub returns-clause-never_both : goal.returns-clause-never_both
returns-clause-never_both c = law.never_both (record { never_both = c.one_reading.ensures.never_both; one_class = c.one_reading.ensures.one_class; one_place = c.one_reading.ensures.one_place })

pub returns-clause-one_fault : goal.returns-clause-one_fault
returns-clause-one_fault c = law.one_fault (record { never_both = c.one_reading.ensures.never_both; one_class = c.one_reading.ensures.one_class; one_place = c.one_reading.ensures.one_place })
