use Rattle.std.proofs.Common.{◌↔◌, subst, ◌≡◌, true}
use Rattle.chain_builder.specs.PlanView.{PlanView}
use Rattle.chain_builder.specs.Needed.{IsNeeded}
use Rattle.chain_builder.proofs.plan.Plan.needed.Goals as goal

pub returns : goal.returns
returns c = subst (λ (v : PlanView). (c.contains.result ≡ true) ↔ IsNeeded v.steps v.finals c.args.step) c.self.view_is (λ h. (c.self.invariant.0.needed c.args.step).0 (c.contains.ensures.0 h), λ n. c.contains.ensures.1 ((c.self.invariant.0.needed c.args.step).1 n))
