use Rattle.std.proofs.Common.{◌≡◌, ◌++◌, drop, string_bytes}
use Rattle.std.specs.List.{flat_map}
use Rattle.class_dump.specs.Dump as spec
use Rattle.class_dump.proofs.text.push_interfaces.Given as goal

abbrev pub invariant-loop-interface : goal.invariant-loop-interface
invariant-loop-interface l = string_bytes l.out ++ flat_map (spec.interface_line l.pool) (drop l.interface-index l.interfaces) ≡ string_bytes l.initial.out ++ flat_map (spec.interface_line l.pool) l.interfaces
