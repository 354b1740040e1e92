use Rattle.std.proofs.Common.{◌≡◌, ◌≤◌}
use Rattle.std.specs.Vec.{vec_len, vec_capacity}
use Rattle.dep_board.proofs.Downs.{At}
use Rattle.dep_board.proofs.inner.InnerBoard.count_down.Given as goal

abbrev pub invariant-loop-dependent : goal.invariant-loop-dependent
invariant-loop-dependent l =
    (l.seat.table_id ≡ l.initial.seat.table_id) × (l.seat.me.1 ≡ l.initial.seat.me.1)
    × At l.step l.row l.initial.seat.me.0 l.seat.me.0 l.told.items l.dependent-index
    × (vec_len l.told ≤ l.dependent-index) × (vec_capacity l.told ≡ vec_capacity l.initial.told)
