use Rattle.std.proofs.Common.{◌≡◌, ◌+◌, ◌++◌, length, string_bytes}
use Rattle.class_dump.specs.Dump.{code_lines}
use Rattle.class_dump.proofs.code.push_code.Given as goal

abbrev pub invariant-loop-rest : goal.invariant-loop-rest
invariant-loop-rest l = (string_bytes l.out ++ code_lines 0 l.pc l.rest ≡ string_bytes l.initial.out ++ code_lines 0 0 l.code) × (l.pc + length l.rest ≡ length l.code)

abbrev pub decreases-loop-rest : goal.decreases-loop-rest
decreases-loop-rest l = length l.rest
