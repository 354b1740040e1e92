use Rattle.std.specs.Prelude.{[]}
use Rattle.recording_units.specs.Units.{calls_units}
use Rattle.value_literals.proofs.Sizing.{part_small, calls_total}
use Rattle.value_literals.proofs.law.part_law.Goals as goal

pub returns : goal.returns
returns c names class r j h = part_small names class (calls_units r.step 0 r.calls []).1 j (calls_total r.step 0 r.calls [] h).small
