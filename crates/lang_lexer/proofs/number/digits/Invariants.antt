use Rattle.std.proofs.Common.{◌≡◌, ◌<◌, ◌≤◌, length}
use Rattle.lang_lexer.specs.Numbers as spec
use Rattle.lang_lexer.proofs.number.digits.Given as goal

abbrev pub invariant-loop-rest : goal.invariant-loop-rest
invariant-loop-rest l = record { same : spec.digits l.value l.limit l.rest ≡ spec.digits l.first l.limit l.chars; small : l.value < l.limit; shorter : length l.rest ≤ length l.chars }

abbrev pub decreases-loop-rest : goal.decreases-loop-rest
decreases-loop-rest l = length l.rest
