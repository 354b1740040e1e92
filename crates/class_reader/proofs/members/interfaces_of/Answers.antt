use Rattle.std.proofs.lemmas.Result.{err_from_is_err_and}
use Rattle.class_grammar.specs.Grammar as spec
use Rattle.class_reader.proofs.Loops.{goes_on, stops, is_done}
use Rattle.class_reader.proofs.members.interfaces_of.Goals as goal

pub returns-in_err-interface : goal.returns-in_err-interface
returns-in_err-interface c =
    let p = err_from_is_err_and c.from_residual.result c.from_residual.ensures.1 in
    rw (p.1, p.2) (stops (λ found. spec.interface c.args.es.now) c.args.count c.loop-turn._turn _ _ _ c.in_err-interface.field-0.0 c.loop-turn-test.true c.loop-turn.invariant c.in_err-interface.ensures)

pub loop-turn-preserved : goal.loop-turn-preserved
loop-turn-preserved c = rw c.in_ok-push.ensures.ok (goes_on (λ found. spec.interface c.args.es.now) c.args.count c.loop-turn._turn _ _ _ _ _ c.loop-turn-test.true c.loop-turn.invariant c.in_ok-interface.ensures)

pub returns : goal.returns
returns c = is_done (λ found. spec.interface c.args.es.now) c.args.count c.loop-turn._turn _ _ _ c.loop-turn-test.false c.loop-turn.invariant
