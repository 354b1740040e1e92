use Rattle.std.proofs.Common.{◌≡◌, ◌+◌, drop}
use Rattle.ext_draft.specs.Declarations.{method_count}
use Rattle.ext_draft.proofs.recorder.with_methods.Given as goal

-- those found so far, and those that are left
abbrev pub invariant-loop-recorder : goal.invariant-loop-recorder
invariant-loop-recorder l = l.methods + method_count (drop l.recorder-index l.recorders) ≡ l.before + method_count l.recorders
