use Rattle.std.proofs.Common.{◌↔◌, ℕ, List, length, arith, ap, subst, Contains}
use Rattle.std.specs.List.Sorted.{IsStrictlyIncreasing}
use Rattle.chain_builder.specs.PlanView.{PlanView}
use Rattle.chain_builder.specs.Edge.{HasEdge}
use Rattle.chain_builder.proofs.RowLemmas.{row_lent}
use Rattle.chain_builder.proofs.plan.Plan.dependents.Goals as goal

pub returns-clause-edges : goal.returns-clause-edges
returns-clause-edges c p = subst (λ (v : PlanView). Contains c.index-as_slice-step.result p ↔ HasEdge v.steps v.finals c.args.step p) c.self.view_is (subst (λ (xs : List ℕ). Contains xs p ↔ HasEdge c.self.inside.steps c.self.inside.finals c.args.step p) (row_lent c.self.inside.tables.dependents c.as_slice.result.now c.args.step c.index-as_slice-step.result c.as_slice.ensures (omega (arith, c.self.invariant.0.dependents_count, ap (λ (v : PlanView). length v.steps) c.self.view_is)) c.index-as_slice-step.is) (c.self.invariant.0.dependents c.args.step p))

pub returns-clause-ascending : goal.returns-clause-ascending
returns-clause-ascending c = subst IsStrictlyIncreasing (row_lent c.self.inside.tables.dependents c.as_slice.result.now c.args.step c.index-as_slice-step.result c.as_slice.ensures (omega (arith, c.self.invariant.0.dependents_count, ap (λ (v : PlanView). length v.steps) c.self.view_is)) c.index-as_slice-step.is) (c.self.invariant.0.dependents_rise c.args.step)
