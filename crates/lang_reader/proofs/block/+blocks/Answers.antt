use Rattle.std.proofs.Common.{rules, arith}
use Rattle.std.proofs.lemmas.Grind.{common_steps}
use Rattle.lang_grammar.specs.Table.{begins_stmt}
use Rattle.lang_grammar.specs.Rules as spec
use Rattle.lang_grammar.specs.Rules.{many_from}
use Rattle.lang_reader.proofs.Turns.{one_more}
use Rattle.lang_reader.proofs.block.+blocks.Goals as goal

pub stmts-loop-turn-preserved : goal.stmts-loop-turn-preserved
unfolding many_from
stmts-loop-turn-preserved t c =
    let e = one_more (λ n. many_from (begins_stmt c.args.lang.now.step c.args.lang.now.names.now) c.args.left (spec.stmt c.args.lang.now.step c.args.lang.now.names.now c.args.left (spec.block c.args.lang.now.step c.args.lang.now.names.now c.args.left)) n c.loop-turn.found c.loop-turn.tokens) _ c.loop-turn._turn c.loop-turn-test.true c.loop-turn.invariant in
    first_of (search rules, grind (arith, common_steps))
