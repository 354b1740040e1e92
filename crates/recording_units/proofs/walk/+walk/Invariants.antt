use Rattle.std.proofs.Common.{◌≡◌, drop, map}
use Rattle.recording_units.specs.Units.{units, elements, fields}
use Rattle.recording_units.specs.Listing.{left_parts}
use Rattle.recording_units.proofs.walk.+walk.Given as goal

abbrev pub invariant-list_elements-loop-part : goal.invariant-list_elements-loop-part
invariant-list_elements-loop-part l =
    left_parts (elements (map units (drop l.part-index l.parts)) l.n l.used) l.out ≡ left_parts (elements (map units l.parts) l.n l.initial.used) l.initial.out

abbrev pub invariant-list_fields-loop-part : goal.invariant-list_fields-loop-part
invariant-list_fields-loop-part l =
    left_parts (fields (map units (drop l.part-index l.parts)) l.n l.bean l.field l.used) l.out ≡ left_parts (fields (map units l.parts) l.n l.bean 0 l.initial.used) l.initial.out
