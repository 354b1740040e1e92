use Rattle.std.proofs.Common.{rules, arith}
use Rattle.std.proofs.lemmas.Grind.{common_steps}
use Rattle.lang_lexer.specs.declared.token.Mark.TheVariants as mark
use Rattle.syntax_tree.specs.declared.tree.Expr.TheVariants as expr
use Rattle.lang_grammar.specs.Place.{is}
use Rattle.lang_grammar.specs.Rules as spec
use Rattle.lang_grammar.specs.Rules.{many_from, chain_from}
use Rattle.lang_reader.proofs.Turns.{one_more}
use Rattle.lang_reader.proofs.expr.+expr.Goals as goal

pub sum_behind-loop-turn-preserved : goal.sum_behind-loop-turn-preserved
unfolding chain_from
sum_behind-loop-turn-preserved t c =
    let e = one_more (λ n. chain_from c.args.left mark.Plus expr.Sum (spec.unary c.args.lang.now.step c.args.lang.now.names.now c.args.left) n c.loop-turn.parts c.loop-turn.signs c.loop-turn.tokens) _ c.loop-turn._turn c.loop-turn-test.true c.loop-turn.invariant in
    first_of (search rules, grind (arith, common_steps))

pub both_behind-loop-turn-preserved : goal.both_behind-loop-turn-preserved
unfolding chain_from
both_behind-loop-turn-preserved t c =
    let e = one_more (λ n. chain_from c.args.left mark.And expr.Both (spec.comparison c.args.lang.now.step c.args.lang.now.names.now c.args.left (spec.sum c.args.lang.now.step c.args.lang.now.names.now c.args.left (spec.unary c.args.lang.now.step c.args.lang.now.names.now c.args.left))) n c.loop-turn.parts c.loop-turn.signs c.loop-turn.tokens) _ c.loop-turn._turn c.loop-turn-test.true c.loop-turn.invariant in
    first_of (search rules, grind (arith, common_steps))

pub more_exprs-loop-turn-preserved : goal.more_exprs-loop-turn-preserved
unfolding many_from
more_exprs-loop-turn-preserved t c =
    let e = one_more (λ n. many_from (is mark.Comma) c.args.left (spec.next_part c.args.left (spec.expr c.args.lang.now.step c.args.lang.now.names.now c.args.left)) n c.loop-turn.found c.loop-turn.tokens) _ c.loop-turn._turn c.loop-turn-test.true c.loop-turn.invariant in
    first_of (search rules, grind (arith, common_steps))

pub more_fields-loop-turn-preserved : goal.more_fields-loop-turn-preserved
unfolding many_from
more_fields-loop-turn-preserved t c =
    let e = one_more (λ n. many_from (is mark.Comma) c.args.left (spec.next_part c.args.left (spec.field c.args.lang.now.step c.args.lang.now.names.now c.args.left (spec.expr c.args.lang.now.step c.args.lang.now.names.now c.args.left))) n c.loop-turn.found c.loop-turn.tokens) _ c.loop-turn._turn c.loop-turn-test.true c.loop-turn.invariant in
    first_of (search rules, grind (arith, common_steps))
