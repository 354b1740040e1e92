use Rattle.std.proofs.Common.{◌≡◌, ◌+◌, drop}
use Rattle.class_pool.specs.Showing.{least, shows, first_from}
use Rattle.class_pool.proofs.pool.scan.Given as goal

abbrev pub invariant-loop-entry : goal.invariant-loop-entry
invariant-loop-entry l = (first_from (shows l.pool l.what) l.index (drop l.entry-index l.pool) ≡ least l.what l.pool) × (l.index ≡ l.entry-index + 1)
