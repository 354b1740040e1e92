use Rattle.std.proofs.Common.{◌≡◌, ◌+◌, ◌≤◌, drop}
use Rattle.lang_lexer.specs.Words as spec
use Rattle.lang_lexer.proofs.word.run_len.Given as goal

abbrev pub invariant-loop-c : goal.invariant-loop-c
invariant-loop-c l = record { same : spec.run_len l.chars ≡ l.count + spec.run_len (drop l.c-index l.chars); within : l.count ≤ l.c-index }
