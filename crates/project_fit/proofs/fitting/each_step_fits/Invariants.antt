use Rattle.std.proofs.Common.{◌≡◌, drop}
use Rattle.std.specs.List.{list_all}
use Rattle.project_fit.specs.Fits.{step_fits}
use Rattle.project_fit.proofs.fitting.each_step_fits.Given as goal

-- those so far fit
abbrev pub invariant-loop-step : goal.invariant-loop-step
invariant-loop-step l = list_all (step_fits l.size) l.steps ≡ list_all (step_fits l.size) (drop l.step-index l.steps)
