use Rattle.std.proofs.Common.{◌≡◌, drop, map, ◌++◌}
use Rattle.recording_units.specs.Units.{units, units_all}
use Rattle.recording_units.specs.Listing.{left_all}
use Rattle.recording_units.proofs.walk.list_args.Given as goal

abbrev pub invariant-loop-arg : goal.invariant-loop-arg
invariant-loop-arg l =
    let rest = left_all (units_all (map units (drop l.arg-index l.args)) l.used) l.out in
    left_all (units_all (map units l.args) l.initial.used) l.initial.out ≡ (rest.0, rest.1, l.values ++ rest.2)
