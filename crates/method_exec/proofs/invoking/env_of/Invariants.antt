use Rattle.std.proofs.Common.{◌≡◌, ◌++◌, drop}
use Rattle.startup_rules.specs.Methods.{paired}
use Rattle.method_exec.proofs.invoking.env_of.Given as goal

abbrev pub invariant-loop-i : goal.invariant-loop-i
invariant-loop-i l = paired l.params l.args ≡ l.env ++ paired (drop l.i l.params) (drop l.i l.args)
