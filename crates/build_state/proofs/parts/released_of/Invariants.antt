use Rattle.std.proofs.Common.{◌≡◌, ℕ, ◌<◌, ◌↔◌, length}
use Rattle.step_set.specs.Members.{Has}
use Rattle.build_state.specs.declared.mark.Mark.TheVariants.{Released}
use Rattle.build_state.specs.Marks.{slot_at}
use Rattle.build_state.proofs.parts.released_of.Given as goal

abbrev pub invariant-loop-step : goal.invariant-loop-step
invariant-loop-step l = record {
  room : length l.set ≡ length l.slots;
  exact : (i : ℕ) → Has l.set i ↔ ((i < l.step) × ((slot_at l.slots i).mark ≡ Released));
}
