use Rattle.std.proofs.Common.{◌≡◌, ◌<◌, length, subst, sym, rules}
use Rattle.build_history.specs.Jobs.{JobView}
use Rattle.build_state.specs.declared.mark.Mark.TheVariants.{Taking}
use Rattle.build_state.specs.Built.{mark_at}
use Rattle.build_state.proofs.Going.{goes_trans, take_goes, take_going, take_started, take_less, within}
use Rattle.build_state.proofs.state.BuildState.take_all.Goals as goal

pub loop-alloc-preserved : goal.loop-alloc-preserved
loop-alloc-preserved c =
    let here : c.args.step < length c.loop-alloc.self.slots = within c.args.step c.args.self.now c.loop-alloc.self c.stands.ensures.state c.loop-alloc.invariant.goes c.requires.range in
    record {
      state = c.stands-in-loop-alloc.ensures.state;
      goes = goes_trans c.args.step c.args.self.now c.loop-alloc.self c.take.new.self c.loop-alloc.invariant.goes (take_goes c.args.step c.loop-alloc.self c.take.new.self c.in_ok-take.ensures.ok);
      going = take_going c.args.step c.loop-alloc.self c.take.new.self c.in_ok-take.ensures.ok c.loop-alloc.invariant.going;
      started = take_started c.args.step c.loop-alloc.self c.take.new.self here c.in_ok-take.ensures.ok;
    }

pub loop-alloc-smaller : goal.loop-alloc-smaller
loop-alloc-smaller c =
    let J : JobView → Type 0 = λ j. c.args.step < length j.plan.steps in
    let taking : mark_at c.loop-alloc.self c.args.step ≡ Taking = search rules in
    take_less c.args.step c.loop-alloc.self c.take.new.self c.loop-alloc.invariant.state (subst J (sym c.loop-alloc.invariant.goes.job) c.requires.range) taking c.in_ok-take.ensures.ok
