use Rattle.std.proofs.Common.{◌≡◌, map, drop, string_bytes}
use Rattle.command_words.specs.Arguments.{and_then, operands}
use Rattle.command_words.proofs.arguments.with_operands.Given as goal

abbrev pub invariant-loop-word : goal.invariant-loop-word
invariant-loop-word l = and_then l.read (operands (map string_bytes (drop l.word-index l.words))) ≡ and_then l.initial.read (operands (map string_bytes l.words))
