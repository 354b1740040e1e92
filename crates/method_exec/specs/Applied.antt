-- What an operation stands in that is made alone. This project's own.
use Rattle.std.specs.Prelude.{ℕ}
use Rattle.item_types.specs.declared.decl.Names.{Names}
use Rattle.startup_rules.specs.Operations.{Within}

abbrev pub within : Names → ℕ → ℕ → Within
within names recorder turns = record { names = names; recorder = recorder; turns = turns }
