use Rattle.std.proofs.Common.{length, ◌-◌, ◌≡◌, ◌≤◌, take}
use Rattle.aug_base.specs.Sinks.{Grows}
use Rattle.aug_base.proofs.sink.write_all.Given as goal

-- the bytes before `done` are appended, and nothing has failed
abbrev pub invariant-loop-done : goal.invariant-loop-done
invariant-loop-done g l =
    let first = g.K.Sink.state l.initial.sink in
    let now = g.K.Sink.state l.sink in
    (l.done ≤ length l.bytes) × (now.faults ≡ first.faults) × Grows (take l.done l.bytes) first.bytes now.bytes

abbrev pub decreases-loop-done : goal.decreases-loop-done
decreases-loop-done g l = length l.bytes - l.done
