use Rattle.std.proofs.Common.{◌≡◌, ◌-◌}
use Rattle.value_literals.specs.Emitted.{part_members, front}
use Rattle.value_literals.proofs.member.part_members.Given as goal

abbrev pub invariant-loop-j : goal.invariant-loop-j
invariant-loop-j l = front l.out (part_members l.names l.class l.units l.j (l.count - l.j) l.pool) ≡ front l.initial.out (part_members l.names l.class l.units 0 l.count l.initial.pool)
