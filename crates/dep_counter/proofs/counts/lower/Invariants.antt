use Rattle.std.proofs.Common.{◌≡◌, ◌≤◌, ◌+◌, ◌==◌, take, length}
use Rattle.std.specs.Prelude.{slice_index_or, vec_capacity, vec_len}
use Rattle.std.specs.List.{filter}
use Rattle.dep_counter.specs.Counting.{AreLowered}
use Rattle.dep_counter.proofs.counts.lower.Given as goal

abbrev pub invariant-loop-step : goal.invariant-loop-step
invariant-loop-step g l = record {
  lowered : AreLowered (take l.step-index l.dependents) l.initial.counts.items l.counts.items;
  told : l.told.items ≡ filter (λ s. slice_index_or l.initial.counts.items s 0 == 1) (take l.step-index l.dependents);
  cost : l.steps ≡ l.initial.steps + l.step-index;
  few : vec_len l.told ≤ l.step-index;
  room : length l.dependents ≤ vec_capacity l.told;
}
