use Rattle.std.proofs.Common.{◌≡◌, false, length}
use Rattle.build_state.specs.declared.mark.Mark.TheVariants.{Putting}
use Rattle.build_state.specs.Built.{mark_at, is_halted}
use Rattle.build_state.specs.Marks.{slot_at}
use Rattle.build_state.specs.Going.{GoesOn}
use Rattle.build_state.proofs.state.BuildState.put_all.Given as goal

abbrev pub invariant-loop-self : goal.invariant-loop-self
invariant-loop-self l = record {
  goes : GoesOn l.step l.fn.self l.self;
  going : is_halted l.self ≡ false;
  putting : mark_at l.self l.step ≡ Putting;
}

abbrev pub decreases-loop-self : goal.decreases-loop-self
decreases-loop-self l = length (slot_at l.self.slots l.step).left
