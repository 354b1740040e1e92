use Rattle.std.proofs.Common.{◌≤◌, ◌≡◌}
use Rattle.aug_base.proofs.std_sink.put_some.Given as goal

-- only faults were counted
abbrev pub invariant-loop : goal.invariant-loop
invariant-loop g l =
    let first = g.S.Stream.state l.initial.stream in
    let now = g.S.Stream.state l.stream in
    record { later : first.faults ≤ now.faults; bytes : now.bytes ≡ first.bytes }
