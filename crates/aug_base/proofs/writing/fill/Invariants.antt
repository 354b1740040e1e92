use Rattle.std.proofs.Common.{◌≤◌, ◌≡◌, ◌-◌, length, take, option_map}
use Rattle.aug_base.specs.Systems.{with_more}
use Rattle.aug_base.proofs.writing.fill.Given as goal

-- the bytes before `done` are at the end of the part
abbrev pub invariant-loop-done : goal.invariant-loop-done
invariant-loop-done g l =
    let first = g.S.System.state l.initial.system in
    let now = g.S.System.state l.system in
    record {
      within : l.done ≤ length l.bytes;
      later : first.faults ≤ now.faults;
      files : now.files ≡ option_map (with_more l.part (take l.done l.bytes)) first.files;
    }

abbrev pub decreases-loop-done : goal.decreases-loop-done
decreases-loop-done g l = length l.bytes - l.done
