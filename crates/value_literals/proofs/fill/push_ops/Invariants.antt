use Rattle.std.proofs.Common.{◌≡◌, drop}
use Rattle.value_literals.specs.Emitted.{code_bytes, front}
use Rattle.value_literals.proofs.fill.push_ops.Given as goal

abbrev pub invariant-loop-op : goal.invariant-loop-op
invariant-loop-op l = front l.code (code_bytes (drop l.op-index l.ops) l.pool) ≡ front l.initial.code (code_bytes l.ops l.initial.pool)
