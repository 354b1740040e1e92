use Rattle.std.proofs.Common.{◌≡◌, drop}
use Rattle.std.specs.List.{list_all}
use Rattle.project_fit.specs.Fits.{method_fits}
use Rattle.project_fit.proofs.fitting.each_method_fits.Given as goal

-- those so far fit
abbrev pub invariant-loop-method : goal.invariant-loop-method
invariant-loop-method l = list_all method_fits l.methods ≡ list_all method_fits (drop l.method-index l.methods)
