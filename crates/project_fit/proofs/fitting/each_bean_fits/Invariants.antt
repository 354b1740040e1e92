use Rattle.std.proofs.Common.{◌≡◌, drop}
use Rattle.std.specs.List.{list_all}
use Rattle.project_fit.specs.Fits.{bean_fits}
use Rattle.project_fit.proofs.fitting.each_bean_fits.Given as goal

-- those so far fit
abbrev pub invariant-loop-bean : goal.invariant-loop-bean
invariant-loop-bean l = list_all bean_fits l.beans ≡ list_all bean_fits (drop l.bean-index l.beans)
