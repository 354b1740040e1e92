use Rattle.std.proofs.Common.{◌+◌, ◌-◌, length, get_or, sym, ap, ◌∙◌, arith}
use Rattle.operators.proofs.CallerLemmas.{newest_next, newest_there}
use Rattle.step_state.specs.Bound.{bound}
use Rattle.step_state.proofs.Borrowed.{length_bound, entry_bound}
use Rattle.step_state.proofs.scope.newest.Goals as goal

pub returns-then-eq : goal.returns-then-eq
returns-then-eq g c =
    let e = c.index-entries-count.result in
    newest_there (bound c.args.entries.now) c.args.name.now (length c.args.entries.now - c.loop-i.i) (length c.args.entries.now - c.loop-i.i - 1) (e.0.now, e.1)
    (rw (length_bound c.args.entries.now) (omega arith)) (omega arith) (entry_bound c.args.entries.now _ e (omega arith) c.index-entries-count.is) (sym c.if-eq.ensures) c.loop-i.invariant

pub loop-i-preserved : goal.loop-i-preserved
loop-i-preserved g c =
    let e = c.index-entries-count.result in
    newest_next (bound c.args.entries.now) c.args.name.now (length c.args.entries.now - c.loop-i.i) (length c.args.entries.now - (c.loop-i.i + 1)) (e.0.now, e.1)
    (rw (length_bound c.args.entries.now) (omega arith)) (omega arith)
    (entry_bound c.args.entries.now (length c.args.entries.now - (c.loop-i.i + 1)) e (omega arith) (c.index-entries-count.is ∙ ap (λ k. get_or c.args.entries.now k e) (omega arith))) (sym c.if-eq.ensures) c.loop-i.invariant
