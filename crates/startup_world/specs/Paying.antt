-- What is spent against the limits of a startup. This project's own.
use Rattle.std.specs.Prelude.{◌≡◌, Result, Ok, Err}
use Rattle.startup_rules.specs.Worlds.{World}
use Rattle.startup_rules.specs.declared.fault.MethodFault.{MethodFault}
use Rattle.startup_rules.specs.Operations.{Checked}

-- it is paid, or the limit would be passed and the world is as before
abbrev pub Pays : Checked World → Result (Unit {0}) MethodFault → World → World → Type 0
Pays outcome (Ok u) old new = outcome ≡ Ok new
Pays outcome (Err f) old new = (outcome ≡ Err f) × (new ≡ old)
