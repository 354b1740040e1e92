use Rattle.std.proofs.Common.{◌≡◌, drop, ◌++◌, []}
use Rattle.recording_units.specs.Units.{calls_units}
use Rattle.recording_units.specs.Listing.{left_parts}
use Rattle.recording_units.proofs.walk.units_of.Given as goal

abbrev pub invariant-loop-call : goal.invariant-loop-call
invariant-loop-call l = left_parts (calls_units l.recording.step l.j (drop l.call-index l.recording.calls) l.used) l.out ≡ calls_units l.recording.step 0 l.recording.calls []
