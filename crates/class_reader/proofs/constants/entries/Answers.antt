use Rattle.std.proofs.lemmas.Result.{err_from_is_err_and}
use Rattle.class_grammar.specs.Grammar as spec
use Rattle.class_reader.proofs.Loops.{goes_on, stops, is_done}
use Rattle.class_reader.proofs.constants.entries.Goals as goal

pub returns-in_err-next_entry-clause-reads : goal.returns-in_err-next_entry-clause-reads
returns-in_err-next_entry-clause-reads c =
    let p = err_from_is_err_and c.from_residual.result c.from_residual.ensures.1 in
    rw (p.1, p.2) (stops (spec.next_entry c.args.count) c.args.count c.loop-turn._turn _ _ _ c.in_err-next_entry.field-0.0 c.loop-turn-test.true c.loop-turn.invariant.0 c.in_err-next_entry.ensures.reads)

pub loop-turn-preserved : goal.loop-turn-preserved
loop-turn-preserved c =
    let g = c.in_ok-next_entry.ensures.reads in
    (rw g.2 (goes_on (spec.next_entry c.args.count) c.args.count c.loop-turn._turn _ _ _ _ _ c.loop-turn-test.true c.loop-turn.invariant.0 g.1), c.in_ok-next_entry.ensures.small)

pub returns-clause-reads : goal.returns-clause-reads
returns-clause-reads c = is_done (spec.next_entry c.args.count) c.args.count c.loop-turn._turn _ _ _ c.loop-turn-test.false c.loop-turn.invariant.0
