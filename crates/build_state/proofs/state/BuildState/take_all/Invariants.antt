use Rattle.std.proofs.Common.{◌≡◌, true, false}
use Rattle.build_state.specs.Built.{mark_at, is_halted}
use Rattle.build_state.specs.Busy.{is_started}
use Rattle.build_state.specs.Marks.{IsState}
use Rattle.build_state.specs.Going.{GoesOn}
use Rattle.build_state.proofs.Going.{takes_left}
use Rattle.build_state.proofs.state.BuildState.take_all.Given as goal

abbrev pub invariant-loop-alloc : goal.invariant-loop-alloc
invariant-loop-alloc l = record {
  state : IsState l.self.job l.self.history l.self.slots;
  goes : GoesOn l.step l.fn.self l.self;
  going : is_halted l.self ≡ false;
  started : is_started (mark_at l.self l.step) ≡ true;
}

abbrev pub decreases-loop-alloc : goal.decreases-loop-alloc
decreases-loop-alloc l = takes_left l.step l.self
