use Rattle.std.proofs.Common.{rules, arith}
use Rattle.std.proofs.lemmas.Grind.{common_steps}
use Rattle.lang_lexer.specs.declared.token.Mark.TheVariants as mark
use Rattle.lang_grammar.specs.Place.{is}
use Rattle.lang_grammar.specs.Rules.{many_from, link}
use Rattle.lang_reader.proofs.Turns.{one_more}
use Rattle.lang_reader.proofs.expr.links.Goals as goal

pub loop-turn-preserved : goal.loop-turn-preserved
unfolding many_from
loop-turn-preserved c =
    let e = one_more (λ n. many_from (is mark.Dot) c.args.left (link c.args.lang.now.step c.args.lang.now.names.now c.args.left) n c.loop-turn.found c.loop-turn.tokens) _ c.loop-turn._turn c.loop-turn-test.true c.loop-turn.invariant in
    first_of (search rules, grind (arith, common_steps))
