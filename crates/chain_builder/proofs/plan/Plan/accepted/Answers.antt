use Rattle.std.proofs.Common.{subst}
use Rattle.item_types.specs.Numbered.{IsNumbered}
use Rattle.chain_builder.specs.PlanView.{PlanView}
use Rattle.chain_builder.specs.Accepted.{IsAccepted}
use Rattle.chain_builder.specs.Rank.{HasRank}
use Rattle.chain_builder.proofs.plan.Plan.accepted.Goals as goal

pub returns-clause-accepted : goal.returns-clause-accepted
returns-clause-accepted c = subst (λ (v : PlanView). IsAccepted v.steps v.items v.finals) c.self.view_is c.self.invariant.1

pub returns-clause-ranked : goal.returns-clause-ranked
returns-clause-ranked c = subst (λ (v : PlanView). HasRank v.steps v.finals) c.self.view_is c.self.invariant.2

pub returns-clause-numbered : goal.returns-clause-numbered
returns-clause-numbered c = subst (λ (v : PlanView). IsNumbered v.steps v.items v.finals) c.self.view_is c.self.invariant.3
