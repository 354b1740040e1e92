use Rattle.std.proofs.Common.{◌≡◌, ◌≤◌, length}
use Rattle.lang_lexer.specs.Tokens as spec
use Rattle.lang_lexer.proofs.lexer.skip.Given as goal

abbrev pub invariant-loop-rest : goal.invariant-loop-rest
invariant-loop-rest l = record { same : spec.skip l.rest ≡ spec.skip l.chars; shorter : length l.rest ≤ length l.chars }

abbrev pub decreases-loop-rest : goal.decreases-loop-rest
decreases-loop-rest l = length l.rest
