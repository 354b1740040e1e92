-- What a board and a pass show of what is in them. This project's own.
use Rattle.std.specs.Prelude.{length}
use Rattle.dep_board.specs.declared.board.Board.TheInside as board
use Rattle.dep_board.specs.declared.board.Pass.TheInside as pass
use Rattle.dep_board.specs.Edges.{edges_of}
use Rattle.dep_board.specs.Views.{BoardView, PassView}

abbrev pub board_view : board.Inside → BoardView
board_view b = record { id = b.inner.table.shared.table_id; steps = length b.inner.rows; edges = edges_of b.inner.rows }

abbrev pub pass_view : pass.Inside → PassView
pass_view p = record {
  of = record { id = p.inner.seat.table_id; steps = p.inner.seat.me.0.steps; edges = p.inner.seat.me.0.edges };
  parts = p.inner.parts;
  ended = p.inner.seat.me.0.ended;
  told = p.inner.seat.me.0.told;
  late = p.inner.seat.me.0.late;
}
