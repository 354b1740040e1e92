use Rattle.dep_counter.proofs.counts.Counts.ended_uncounted.Given as goal

abbrev pub ghosts-ended_on : goal.ghosts-ended_on
ghosts-ended_on a = record { name = a.ledger.name; parts = a.ledger.parts }
