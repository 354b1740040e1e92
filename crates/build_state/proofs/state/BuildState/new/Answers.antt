use Rattle.std.proofs.Common.{◌≡◌, ◌<◌, ◌^◌, ◌∙◌, [], length, ap, subst, arith}
use Rattle.build_history.specs.Room.{Kept}
use Rattle.chain_builder.specs.PlanView.{PlanView}
use Rattle.dep_counter.specs.Counting.{AreCounts}
use Rattle.build_state.specs.Sound.{IsReleasedSet}
use Rattle.build_state.proofs.Sound.{open_sound}
use Rattle.build_state.proofs.state.BuildState.new.Goals as goal

pub released_of-requires : goal.released_of-requires
released_of-requires c =
    let few : length c.plan.result.now.steps < 2 ^ 32 = c.accepted.ensures.numbered.few_steps in
    let same : length c.plan.result.now.steps ≡ length c.args.job.now.plan.steps = ap (λ (z : PlanView). length z.steps) c.plan.ensures.value in
    let many : length c.in_ok-slots.slots.items ≡ length c.args.job.now.plan.steps = c.in_ok-slots.ensures.many in
    let lent : length c.as_slice.result.now ≡ length c.in_ok-slots.slots.items = ap length c.as_slice.ensures.value in
    omega (arith, few, same, many, lent)

pub invariant_of-result : goal.invariant_of-result
invariant_of-result c =
    let counts = subst (λ (z : PlanView). AreCounts z [] c.in_ok-new-2.field-0) c.plan-2.ensures.value c.in_ok-new-2.ensures in
    let released = subst (IsReleasedSet c.in_ok-released.released) c.as_slice.ensures.value c.in_ok-released.ensures.exact in
    let roomy = c.in_ok-released.ensures.room ∙ ap length c.as_slice.ensures.value in
    open_sound _ _ _ _ _ _ c.in_ok-slots.ensures (ap (λ (h : Kept). h.events) c.new.ensures) (c.in_ok-new.ensures.names ∙ c.names.ensures) c.in_ok-new.ensures.empty counts roomy released
