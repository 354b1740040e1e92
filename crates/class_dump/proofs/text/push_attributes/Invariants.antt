use Rattle.std.proofs.Common.{◌≡◌, ◌++◌, drop, string_bytes}
use Rattle.std.specs.List.{flat_map}
use Rattle.class_dump.specs.Dump as spec
use Rattle.class_dump.proofs.text.push_attributes.Given as goal

abbrev pub invariant-loop-attribute : goal.invariant-loop-attribute
invariant-loop-attribute l = string_bytes l.out ++ flat_map (spec.attribute_line l.pool) (drop l.attribute-index l.attributes) ≡ string_bytes l.initial.out ++ flat_map (spec.attribute_line l.pool) l.attributes
