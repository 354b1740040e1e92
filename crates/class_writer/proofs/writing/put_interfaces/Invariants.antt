use Rattle.std.proofs.Common.{◌≡◌, ◌++◌, length, drop}
use Rattle.std.specs.List.{flat_map}
use Rattle.class_grammar.specs.Bytes.{u2}
use Rattle.class_writer.proofs.writing.put_interfaces.Given as goal

abbrev pub invariant-loop-interface : goal.invariant-loop-interface
invariant-loop-interface l = l.out.items ++ flat_map u2 (drop l.interface-index l.interfaces) ≡ l.fn.out.items ++ (u2 (length l.interfaces) ++ flat_map u2 l.interfaces)
