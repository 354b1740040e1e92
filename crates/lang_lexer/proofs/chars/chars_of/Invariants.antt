use Rattle.std.proofs.Common.{◌≡◌}
use Rattle.lang_lexer.proofs.chars.chars_of.Given as goal

abbrev pub invariant-loop-c : goal.invariant-loop-c
invariant-loop-c l = l.found ≡ l.yielded
