use Rattle.std.proofs.Common.{◌≡◌, ◌++◌, drop, string_bytes}
use Rattle.std.specs.List.{flat_map}
use Rattle.class_dump.specs.Dump as spec
use Rattle.class_dump.proofs.text.push_fields.Given as goal

abbrev pub invariant-loop-field : goal.invariant-loop-field
invariant-loop-field l = string_bytes l.out ++ flat_map (spec.field_line l.pool) (drop l.field-index l.fields) ≡ string_bytes l.initial.out ++ flat_map (spec.field_line l.pool) l.fields
