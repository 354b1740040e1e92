use Rattle.std.proofs.Common.{◌≡◌, map, drop, string_bytes, option_map, false}
use Rattle.command_words.specs.Arguments.{and_then, arguments}
use Rattle.command_words.proofs.arguments.read_arguments.Given as goal

-- the words before this one are read
abbrev pub invariant-loop-at : goal.invariant-loop-at
invariant-loop-at l = arguments false (map string_bytes l.words) ≡ option_map (and_then l.read) (arguments l.is_value (map string_bytes (drop l.at l.words)))
