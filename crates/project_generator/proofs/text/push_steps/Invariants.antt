use Rattle.std.proofs.Common.{◌≡◌, ◌++◌, string_bytes}
use Rattle.project_generator.specs.Generated.{below, step_line}
use Rattle.project_generator.proofs.text.push_steps.Given as goal

-- the lines of the numbers before this one are appended
abbrev pub invariant-loop-step : goal.invariant-loop-step
invariant-loop-step l = string_bytes l.out ≡ string_bytes l.initial.out ++ below step_line l.step
