use Rattle.std.proofs.Common.{◌≡◌, ◌++◌, drop, string_bytes}
use Rattle.std.specs.List.{flat_map}
use Rattle.class_dump.specs.Dump as spec
use Rattle.class_dump.proofs.text.push_methods.Given as goal

abbrev pub invariant-loop-method : goal.invariant-loop-method
invariant-loop-method l = string_bytes l.out ++ flat_map (spec.method_lines l.pool) (drop l.method-index l.methods) ≡ string_bytes l.initial.out ++ flat_map (spec.method_lines l.pool) l.methods
