use Rattle.std.proofs.Common.{◌≡◌, ◌++◌, drop, map}
use Rattle.ext_parser.specs.Declarations.{step_of}
use Rattle.ext_parser.proofs.build.with_steps.Given as goal

-- the steps found so far, and those that are left
abbrev pub invariant-loop-step : goal.invariant-loop-step
invariant-loop-step l =
    l.found ++ map (step_of l.items l.on l.extension) (drop l.step-index l.steps) ≡ l.initial.found ++ map (step_of l.items l.on l.extension) l.steps
