use Rattle.std.proofs.Common.{◌≡◌, drop}
use Rattle.recording_units.specs.Units.{place}
use Rattle.recording_units.proofs.walk.number.Given as goal

abbrev pub invariant-loop-i : goal.invariant-loop-i
invariant-loop-i l = place l.i l.key (drop l.i l.used) ≡ place 0 l.key l.used
