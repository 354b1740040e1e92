use Rattle.std.proofs.Common.{ℕ, List, Contains, ◌↔◌, sym, subst}
use Rattle.chain_builder.specs.Edge.{HasEdge}
use Rattle.dep_board.specs.Edges.{edges_of}
use Rattle.dep_board.proofs.EdgeLemmas.{edge_across, row_rises}
use Rattle.dep_board.proofs.board.Board.new.Goals as goal

pub returns-clause-edges : goal.returns-clause-edges
returns-clause-edges c =
    let plan = c.args.plan.now in let rows = c.in_ok-rows.rows in
    subst (λ (l : List (List ℕ)). (p s : ℕ) → Contains (edges_of l) (p, s) ↔ HasEdge plan.steps plan.finals p s) (sym c.in_ok-board.ensures.rows)
    (λ p s. let there = edge_across p s (edges_of rows) in let leads = c.in_ok-rows.ensures.edges p s in ((λ e. leads.0 (there.0 e)), λ e. there.1 (leads.1 e)))

pub returns-clause-ascending : goal.returns-clause-ascending
returns-clause-ascending c = row_rises c.in_ok-board.board.rows c.in_ok-board.board.ordered
