use Rattle.std.proofs.Common.{◌≡◌, ◌++◌, take}
use Rattle.std.specs.List.{flat_map}
use Rattle.build_history.specs.Recordings.{recorded}
use Rattle.build_history.proofs.recorded.push_recorded.Given as goal

abbrev pub invariant-loop-event : goal.invariant-loop-event
invariant-loop-event l = l.all ≡ l.initial.all ++ flat_map (recorded l.job l.phase) (take l.event-index l.events)
