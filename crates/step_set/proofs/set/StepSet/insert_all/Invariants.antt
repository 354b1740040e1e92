use Rattle.std.proofs.Common.{◌≡◌, length, take}
use Rattle.step_set.specs.Members.{IsWithAll}
use Rattle.step_set.proofs.set.StepSet.insert_all.Given as goal

abbrev pub invariant-loop-step : goal.invariant-loop-step
invariant-loop-step l = record {
  room : length l.self ≡ length l.initial.self;
  with : IsWithAll l.initial.self (take l.step-index l.steps) l.self;
}
