use Rattle.std.proofs.Common.{◌≡◌, ◌+◌, ◌-◌, ◌*◌}
use Rattle.lang_grammar.specs.Table.{begins_stmt}
use Rattle.lang_grammar.specs.Rules as spec
use Rattle.lang_reader.proofs.block.+blocks.Given as goal

abbrev pub decreases-block : goal.decreases-block
decreases-block l = l.left * 10 + 1

abbrev pub decreases-for_form : goal.decreases-for_form
decreases-for_form l = l.left * 10 + 3

abbrev pub decreases-if_form : goal.decreases-if_form
decreases-if_form l = l.left * 10 + 3

abbrev pub decreases-other : goal.decreases-other
decreases-other l = l.left * 10 + 2

abbrev pub decreases-stmt : goal.decreases-stmt
decreases-stmt l = l.left * 10 + 4

abbrev pub decreases-stmts : goal.decreases-stmts
decreases-stmts l = l.left * 10 + 5

abbrev pub invariant-stmts-loop-turn : goal.invariant-stmts-loop-turn
invariant-stmts-loop-turn l =
    spec.stmts l.lang.step l.lang.names.now l.left (spec.block l.lang.step l.lang.names.now l.left) l.fn.tokens
    ≡ spec.many_from (begins_stmt l.lang.step l.lang.names.now) l.left (spec.stmt l.lang.step l.lang.names.now l.left (spec.block l.lang.step l.lang.names.now l.left)) (l.turns - l._turn) l.found l.tokens
