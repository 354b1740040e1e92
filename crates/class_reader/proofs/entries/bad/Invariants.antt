use Rattle.std.proofs.Common.{◌≡◌, ◌+◌, drop}
use Rattle.class_pool.specs.Entries.{bad, bad_from}
use Rattle.class_reader.proofs.entries.bad.Given as goal

abbrev pub invariant-loop-entry : goal.invariant-loop-entry
invariant-loop-entry l = (bad_from l.pool l.index (drop l.entry-index l.pool) ≡ bad l.pool) × (l.index ≡ l.entry-index + 1)
