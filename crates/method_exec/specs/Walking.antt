-- What a walk ensures. This project's own.
use Rattle.std.specs.Prelude.{◌≡◌, ℕ, List, ◌++◌, Result, Ok, Err}
use Rattle.startup_rules.specs.Worlds.{World}
use Rattle.startup_rules.specs.declared.fault.Invoked.{Invoked}
use Rattle.startup_rules.specs.declared.fault.Invoked.TheVariants.{Failed}
use Rattle.startup_rules.specs.declared.fault.MethodFault.{MethodFault}
use Rattle.startup_rules.specs.Operations.{Checked}
use Rattle.startup_rules.specs.Acting.{Ends}
use Rattle.startup_rules.specs.declared.slot.Slot.{Slot}
use Rattle.startup_rules.specs.Methods.{Env}
use Rattle.method_exec.specs.declared.stop.Stop.{Stop}
use Rattle.method_exec.specs.declared.stop.Stop.TheVariants as stop

-- the value and the world, on an early end too, unless memory is wanting
abbrev pub Does : {A : Type 0} → Ends A → Result A Stop → World → Type 0
Does outcome (Ok a) new = outcome ≡ (Ok a, new)
Does outcome (Err e) new = (x : Invoked) → e ≡ stop.Ends x → outcome ≡ (Err x, new)

-- the same where the names in scope may change
abbrev pub DoesIn : Ends Env → Result (Unit {0}) Stop → Env → World → Type 0
DoesIn outcome (Ok u) env new = outcome ≡ (Ok env, new)
DoesIn outcome (Err e) env new = (x : Invoked) → e ≡ stop.Ends x → outcome ≡ (Err x, new)

-- a test, or a value that the world is only read for
abbrev pub Gives : {A : Type 0} → Checked A → Result A Stop → Type 0
Gives outcome (Ok a) = outcome ≡ Ok a
Gives outcome (Err e) = (x : Invoked) → e ≡ stop.Ends x → (f : MethodFault) × (x ≡ Failed f) × (outcome ≡ Err f)

-- a value and a world, or the world is as before
abbrev pub Makes : Checked (Slot × World) → Result Slot Stop → World → World → Type 0
Makes outcome (Ok v) old new = outcome ≡ Ok (v, new)
Makes outcome (Err e) old new = (x : Invoked) → e ≡ stop.Ends x → (f : MethodFault) × (x ≡ Failed f) × (outcome ≡ Err f) × (new ≡ old)

-- with these values before
abbrev pub after : {A : Type 0} → List A → Ends (List A) → Ends (List A)
after out (Ok vs, w) = (Ok (out ++ vs), w)
after out (Err x, w) = (Err x, w)
