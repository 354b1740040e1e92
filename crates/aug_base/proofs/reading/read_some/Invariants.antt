use Rattle.std.proofs.Common.{◌≤◌, ◌≡◌}
use Rattle.aug_base.proofs.reading.read_some.Given as goal

-- only faults were counted
abbrev pub invariant-loop : goal.invariant-loop
invariant-loop g l =
    let first = g.S.System.state l.initial.system in
    let now = g.S.System.state l.system in
    record { later : first.faults ≤ now.faults; files : now.files ≡ first.files; left : now.left ≡ first.left }
