use Rattle.std.proofs.Common.{◌≡◌, drop}
use Rattle.value_literals.specs.Emitted.{field_members, front}
use Rattle.value_literals.proofs.member.field_members.Given as goal

abbrev pub invariant-loop-one : goal.invariant-loop-one
invariant-loop-one l = front l.out (field_members l.names l.number (drop l.one-index l.used) l.pool) ≡ front l.initial.out (field_members l.names 0 l.used l.initial.pool)
