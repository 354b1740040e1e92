use Rattle.std.proofs.Common.{◌↔◌, ◌≡◌, List, ℕ, subst, true, Contains}
use Rattle.chain_builder.specs.PlanView.{PlanView}
use Rattle.chain_builder.specs.Rows.{row}
use Rattle.chain_builder.specs.EffectiveProducer.{IsEffectiveProducer}
use Rattle.chain_builder.proofs.plan.Plan.effective.Goals as goal

pub returns : goal.returns
returns c = subst (λ (v : PlanView). (c.row_has.result ≡ true) ↔ IsEffectiveProducer v.steps c.args.step c.args.item) c.self.view_is (
    let has : (c.row_has.result ≡ true) ↔ Contains (row c.self.inside.tables.effective c.args.step) c.args.item = subst (λ (xs : List (List ℕ)). (c.row_has.result ≡ true) ↔ Contains (row xs c.args.step) c.args.item) c.as_slice.ensures c.row_has.ensures in (
      λ h. (c.self.invariant.0.effective c.args.step c.args.item).0 (has.0 h),
      λ n. has.1 ((c.self.invariant.0.effective c.args.step c.args.item).1 n),
    ))
