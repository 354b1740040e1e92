use Rattle.std.proofs.Common.{◌≡◌, ◌+◌, ◌≤◌, drop}
use Rattle.project_fit.specs.Fits.{method_total}
use Rattle.project_fit.proofs.fitting.few_methods.Given as goal

-- as many are left as the recorders so far don't take
abbrev pub invariant-loop-recorder : goal.invariant-loop-recorder
invariant-loop-recorder l = record {
  taken : l.left + method_total l.recorders ≡ 1024 + method_total (drop l.recorder-index l.recorders);
  few : l.left ≤ 1024;
}
