use Rattle.std.proofs.Common.{ℕ, List, length, Contains, ◌↔◌, ap, sym, subst, arith}
use Rattle.std.specs.List.Sorted.{IsStrictlyIncreasing}
use Rattle.chain_builder.specs.Edge.{HasEdge}
use Rattle.dep_board.proofs.PlanRows.{rows_next, rows_ordered, rows_edges}
use Rattle.dep_board.proofs.rows.rows_of.Goals as goal

pub loop-step-preserved : goal.loop-step-preserved
loop-step-preserved c =
    let plan = c.args.plan.now in let same = sym c.in_ok-row.ensures in
    let rises = subst IsStrictlyIncreasing same c.dependents.ensures.ascending in
    let has = subst (λ (l : List ℕ). (s : ℕ) → Contains l s ↔ HasEdge plan.steps plan.finals c.loop-step.step s) same c.dependents.ensures.edges in
    rows_next plan.steps plan.finals c.loop-step.rows c.push.new.self c.in_ok-row.row c.loop-step.step c.loop-step.invariant c.in_ok-push.ensures.ok rises has

pub returns-clause-ordered : goal.returns-clause-ordered
returns-clause-ordered c =
    let plan = c.args.plan.now in
    rows_ordered plan.steps plan.finals c.loop-step.rows c.loop-step.step c.loop-step.invariant (omega (arith, c.loop-step-test.false, c.loop-step.auto.step-end, c.len-step-end.ensures, ap length c.steps.ensures)) c.accepted.ensures.numbered.few_steps

pub returns-clause-edges : goal.returns-clause-edges
returns-clause-edges c =
    let plan = c.args.plan.now in
    rows_edges plan.steps plan.finals c.loop-step.rows c.loop-step.step c.loop-step.invariant (omega (arith, c.loop-step-test.false, c.loop-step.auto.step-end, c.len-step-end.ensures, ap length c.steps.ensures))
