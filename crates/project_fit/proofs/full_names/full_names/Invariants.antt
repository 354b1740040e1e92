use Rattle.std.proofs.Common.{◌≡◌, ◌++◌, drop, map}
use Rattle.project_fit.specs.Fits.{full_name}
use Rattle.project_fit.proofs.full_names.full_names.Given as goal

-- the names so far, and those that are left
abbrev pub invariant-loop-step : goal.invariant-loop-step
invariant-loop-step l = l.names ++ map full_name (drop l.step-index l.steps) ≡ map full_name l.steps
