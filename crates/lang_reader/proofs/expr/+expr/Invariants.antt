use Rattle.std.proofs.Common.{[], ◌∷◌, ◌≡◌, ◌+◌, ◌-◌, ◌*◌}
use Rattle.lang_lexer.specs.declared.token.Mark.TheVariants as mark
use Rattle.syntax_tree.specs.declared.tree.Expr.TheVariants as expr
use Rattle.lang_grammar.specs.Place.{is}
use Rattle.lang_grammar.specs.Rules as spec
use Rattle.lang_reader.proofs.expr.+expr.Given as goal

abbrev pub decreases-paren : goal.decreases-paren
decreases-paren l = l.left * 20 + 1

abbrev pub decreases-listed : goal.decreases-listed
decreases-listed l = l.left * 20 + 1

abbrev pub decreases-fields : goal.decreases-fields
decreases-fields l = l.left * 20 + 1

abbrev pub decreases-made : goal.decreases-made
decreases-made l = l.left * 20 + 2

abbrev pub decreases-primary : goal.decreases-primary
decreases-primary l = l.left * 20 + 3

abbrev pub decreases-postfix : goal.decreases-postfix
decreases-postfix l = l.left * 20 + 4

abbrev pub decreases-unary : goal.decreases-unary
decreases-unary l = l.left * 20 + 5

abbrev pub decreases-sum_behind : goal.decreases-sum_behind
decreases-sum_behind l = l.left * 20 + 6

abbrev pub decreases-sum : goal.decreases-sum
decreases-sum l = l.left * 20 + 7

abbrev pub decreases-equal_behind : goal.decreases-equal_behind
decreases-equal_behind l = l.left * 20 + 8

abbrev pub decreases-less_behind : goal.decreases-less_behind
decreases-less_behind l = l.left * 20 + 8

abbrev pub decreases-compared : goal.decreases-compared
decreases-compared l = l.left * 20 + 9

abbrev pub decreases-comparison : goal.decreases-comparison
decreases-comparison l = l.left * 20 + 10

abbrev pub decreases-both_behind : goal.decreases-both_behind
decreases-both_behind l = l.left * 20 + 11

abbrev pub decreases-expr : goal.decreases-expr
decreases-expr l = l.left * 20 + 12

abbrev pub decreases-field : goal.decreases-field
decreases-field l = l.left * 20 + 13

abbrev pub decreases-more_exprs : goal.decreases-more_exprs
decreases-more_exprs l = l.left * 20 + 13

abbrev pub decreases-exprs : goal.decreases-exprs
decreases-exprs l = l.left * 20 + 14

abbrev pub decreases-more_fields : goal.decreases-more_fields
decreases-more_fields l = l.left * 20 + 14

abbrev pub decreases-field_list : goal.decreases-field_list
decreases-field_list l = l.left * 20 + 15

abbrev pub invariant-sum_behind-loop-turn : goal.invariant-sum_behind-loop-turn
invariant-sum_behind-loop-turn l = spec.chain_behind l.left mark.Plus expr.Sum (spec.unary l.lang.step l.lang.names.now l.left) l.fn.first l.fn.tokens ≡ spec.chain_from l.left mark.Plus expr.Sum (spec.unary l.lang.step l.lang.names.now l.left) (l.turns - l._turn) l.parts l.signs l.tokens

abbrev pub invariant-both_behind-loop-turn : goal.invariant-both_behind-loop-turn
invariant-both_behind-loop-turn l = spec.chain_behind l.left mark.And expr.Both (spec.comparison l.lang.step l.lang.names.now l.left (spec.sum l.lang.step l.lang.names.now l.left (spec.unary l.lang.step l.lang.names.now l.left))) l.fn.first l.fn.tokens ≡ spec.chain_from l.left mark.And expr.Both (spec.comparison l.lang.step l.lang.names.now l.left (spec.sum l.lang.step l.lang.names.now l.left (spec.unary l.lang.step l.lang.names.now l.left))) (l.turns - l._turn) l.parts l.signs l.tokens

abbrev pub invariant-more_exprs-loop-turn : goal.invariant-more_exprs-loop-turn
invariant-more_exprs-loop-turn l = spec.more (is mark.Comma) l.left (spec.next_part l.left (spec.expr l.lang.step l.lang.names.now l.left)) (l.fn.first ∷ []) l.fn.tokens ≡ spec.many_from (is mark.Comma) l.left (spec.next_part l.left (spec.expr l.lang.step l.lang.names.now l.left)) (l.turns - l._turn) l.found l.tokens

abbrev pub invariant-more_fields-loop-turn : goal.invariant-more_fields-loop-turn
invariant-more_fields-loop-turn l = spec.more (is mark.Comma) l.left (spec.next_part l.left (spec.field l.lang.step l.lang.names.now l.left (spec.expr l.lang.step l.lang.names.now l.left))) (l.fn.first ∷ []) l.fn.tokens ≡ spec.many_from (is mark.Comma) l.left (spec.next_part l.left (spec.field l.lang.step l.lang.names.now l.left (spec.expr l.lang.step l.lang.names.now l.left))) (l.turns - l._turn) l.found l.tokens
