use Rattle.std.proofs.Common.{◌↔◌, ℕ, subst, refl, arith, Contains}
use Rattle.chain_builder.specs.Edge.{HasEdge}
use Rattle.chain_builder.specs.Needed.{IsNeeded}
use Rattle.chain_builder.specs.PlanView.{PlanView}
use Rattle.build_state.proofs.Opening.{none_into, some_into}
use Rattle.build_state.proofs.parts.first_mark.Goals as goal

pub returns-then-len-eq0 : goal.returns-then-len-eq0
returns-then-len-eq0 c = (
  subst (λ (v : PlanView). IsNeeded v.steps v.finals c.args.step) c.plan.ensures.value (c.if-not-needed.ensures.0 refl),
  none_into c.args.job.now c.args.step c.edges_into.result.now (subst (λ (v : PlanView). (p : ℕ) → Contains c.edges_into.result.now p ↔ HasEdge v.steps v.finals p c.args.step) c.plan-2.ensures.value c.edges_into.ensures.edges) (omega (arith, c.if-len-eq0.true, c.len.ensures)),
)

pub returns : goal.returns
returns c = (
  subst (λ (v : PlanView). IsNeeded v.steps v.finals c.args.step) c.plan.ensures.value (c.if-not-needed.ensures.0 refl),
  some_into c.args.job.now c.args.step c.edges_into.result.now (subst (λ (v : PlanView). (p : ℕ) → Contains c.edges_into.result.now p ↔ HasEdge v.steps v.finals p c.args.step) c.plan-2.ensures.value c.edges_into.ensures.edges) (λ z. absurd (omega (arith, z, c.if-len-eq0.false, c.len.ensures))),
)
