use Rattle.std.proofs.Common.{subst, List, ℕ, arith, ◌≡◌, ◌==◌}
use Rattle.std.specs.Prelude.{slice_index_or}
use Rattle.std.specs.List.{filter}
use Rattle.std.proofs.lemmas.List.{take_all}
use Rattle.dep_counter.proofs.Lowering.{lowered_turn, told_turn}
use Rattle.dep_counter.proofs.counts.lower.Goals as goal

pub loop-step-preserved : goal.loop-step-preserved
loop-step-preserved g c = record {
  lowered = lowered_turn c.args.dependents.now c.loop-step.step-index c.args.counts.now.items c.loop-step.counts.items c.lower_one.new.counts.items c.requires.rising c.loop-step-test.true c.loop-step.invariant.lowered c.lower_one.ensures.lowered;
  told = told_turn c.args.dependents.now c.loop-step.step-index c.args.counts.now.items c.loop-step.counts.items c.loop-step.told.items c.lower_one.new.told.items c.requires.rising c.loop-step-test.true c.loop-step.invariant.lowered c.loop-step.invariant.told c.lower_one.ensures.told;
  cost = omega (arith, c.take.ensures, c.loop-step.invariant.cost);
  few = omega (arith, c.lower_one.ensures.few, c.loop-step.invariant.few);
  room = omega (arith, c.lower_one.ensures.room, c.loop-step.invariant.room);
}

pub returns-clause-told : goal.returns-clause-told
returns-clause-told g c =
    subst (λ (l : List ℕ). c.loop-step.told.items ≡ filter (λ s. slice_index_or c.args.counts.now.items s 0 == 1) l) (take_all c.loop-step.step-index c.args.dependents.now (omega (arith, c.loop-step-test.false))) c.loop-step.invariant.told
