use Rattle.std.proofs.Common.{◌≡◌, ◌+◌, ◌++◌, drop, string_bytes}
use Rattle.class_dump.specs.Dump.{pool_lines}
use Rattle.class_dump.proofs.entry.push_pool.Given as goal

abbrev pub invariant-loop-entry : goal.invariant-loop-entry
invariant-loop-entry l = (string_bytes l.out ++ pool_lines l.index (drop l.entry-index l.pool) ≡ string_bytes l.initial.out ++ pool_lines 1 l.pool) × (l.index ≡ l.entry-index + 1)
