-- What a step consumes, as it is declared. This project's own.
use Rattle.std.specs.Prelude.{◌≡◌, ℕ, List, Contains}
use Rattle.item_types.specs.declared.step.Consume.{Consume}
use Rattle.item_types.specs.declared.step.StepDecl.{StepDecl}
use Rattle.chain_builder.specs.Lists.{list_at}

-- what step s consumes, in declared order; nothing for a number that is no step's
abbrev pub consumptions : List StepDecl → ℕ → List Consume
consumptions steps s = list_at (λ d. d.consumes) steps s

-- step s consumes item t, optionally or not
abbrev pub Consumes : List StepDecl → ℕ → ℕ → Type 0
Consumes steps s t = (c : Consume) × Contains (consumptions steps s) c × (c.item ≡ t)
