use Rattle.std.proofs.Common.{◌≡◌, take}
use Rattle.step_state.proofs.same.copy_lists.Given as goal

abbrev pub invariant-loop-list : goal.invariant-loop-list
invariant-loop-list l = l.copies ≡ take l.list-index l.lists
