use Rattle.std.proofs.Common.{◌<◌, ◌≤◌, ◌≡◌, ◌-◌, ◌^◌}
use Rattle.aug_base.specs.Causes.{Rose}
use Rattle.aug_base.proofs.writing.new_part.Given as goal

-- each name that was tried is held by another, and was counted
abbrev pub invariant-loop-number : goal.invariant-loop-number
invariant-loop-number g l =
    let first = g.S.System.state l.initial.system in
    let now = g.S.System.state l.system in
    record { later : first.faults ≤ now.faults; files : now.files ≡ first.files; counted : 0 < l.number → Rose first.faults now.faults }

abbrev pub decreases-loop-number : goal.decreases-loop-number
decreases-loop-number g l = 2 ^ 64 - l.number
