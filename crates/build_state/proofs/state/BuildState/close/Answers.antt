use Rattle.std.proofs.Common.{◌≡◌, ◌<◌, length, subst, sym, rules}
use Rattle.build_history.specs.Jobs.{JobView}
use Rattle.build_state.specs.declared.mark.Mark.TheVariants.{Failing}
use Rattle.build_state.specs.Built.{mark_at}
use Rattle.build_state.proofs.Going.{Closes, goes_trans, fail_goes, end_goes}
use Rattle.build_state.proofs.state.BuildState.close.Goals as goal

pub returns-then-eq-clause-goes : goal.returns-then-eq-clause-goes
returns-then-eq-clause-goes c =
    let failing : mark_at c.args.self.now c.args.step ≡ Failing = search rules in
    let r : Closes c.args.step c.args.self.now c.fail.new.self = fail_goes c.args.step c.args.self.now c.fail.new.self c.stands.ensures.state c.requires.range failing c.fail.ensures in
    r.goes

pub returns-then-eq-clause-ok : goal.returns-then-eq-clause-ok
returns-then-eq-clause-ok c =
    let failing : mark_at c.args.self.now c.args.step ≡ Failing = search rules in
    let r : Closes c.args.step c.args.self.now c.fail.new.self = fail_goes c.args.step c.args.self.now c.fail.new.self c.stands.ensures.state c.requires.range failing c.fail.ensures in
    r.closed

pub returns-clause-goes : goal.returns-clause-goes
returns-clause-goes c =
    let J : JobView → Type 0 = λ j. c.args.step < length j.plan.steps in
    let range : c.args.step < length c.put_all.new.self.job.plan.steps = subst J (sym c.put_all.ensures.goes.job) c.requires.range in
    let r : Closes c.args.step c.put_all.new.self c.end.new.self = end_goes c.args.step c.put_all.new.self c.end.new.self _ c.in_ok-end.ensures.ok c.stands-2.ensures.state c.stands-3.ensures.state range in
    goes_trans c.args.step c.args.self.now c.put_all.new.self c.end.new.self c.put_all.ensures.goes r.goes
