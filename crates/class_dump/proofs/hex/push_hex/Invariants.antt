use Rattle.std.proofs.Common.{◌≡◌, ◌++◌, drop, string_bytes}
use Rattle.class_dump.specs.Names.{hex}
use Rattle.class_dump.proofs.hex.push_hex.Given as goal

abbrev pub invariant-loop-byte : goal.invariant-loop-byte
invariant-loop-byte l = string_bytes l.out ++ hex (drop l.byte-index l.bytes) ≡ string_bytes l.initial.out ++ hex l.bytes
