use Rattle.std.proofs.Common.{◌≡◌, drop}
use Rattle.std.specs.List.{list_all}
use Rattle.project_fit.specs.Fits.{recorder_fits}
use Rattle.project_fit.proofs.fitting.each_recorder_fits.Given as goal

-- those so far fit
abbrev pub invariant-loop-recorder : goal.invariant-loop-recorder
invariant-loop-recorder l = list_all recorder_fits l.recorders ≡ list_all recorder_fits (drop l.recorder-index l.recorders)
