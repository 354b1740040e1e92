use Rattle.std.proofs.Common.{ℕ, ◌<◌, length, subst, Contains}
use Rattle.chain_builder.specs.FaultText.{IsNamed}
use Rattle.chain_builder.proofs.text.push_fault.Goals as goal

pub push_steps-requires : goal.push_steps-requires
push_steps-requires c =
    let r : (s : ℕ) → Contains c.in-Cycle.cycle s → s < length c.args.steps.now = subst (λ f. IsNamed c.args.steps.now c.args.items.now f) c.in-Cycle.is c.requires in
    rw c.as_slice.ensures r
