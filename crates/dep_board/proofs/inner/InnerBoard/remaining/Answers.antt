use Rattle.std.proofs.Common.{rules, refl, ap, sym, ◌∙◌, subst, ◌≤◌, ◌≡◌, arith, length}
use Rattle.dep_board.specs.Edges.{producers}
use Rattle.dep_board.specs.Passes.{open_edges}
use Rattle.dep_board.proofs.EdgeLemmas.{few_from}
use Rattle.dep_board.proofs.Keeps.{looks}
use Rattle.dep_board.proofs.Passing.{open_most, open_all}
use Rattle.dep_board.proofs.inner.InnerBoard.remaining.Goals as goal

pub load-requires : goal.load-requires
load-requires c = (search rules, search rules, looks _ _ _ _ _ _ (search rules) (search rules))

pub overflow_cast-result : goal.overflow_cast-result
overflow_cast-result c =
    let board = c.args.self.now in let seen = c.load.ensures.2.2 c.args.step (search rules) refl in
    omega (arith, seen.0, ap (λ es. length (producers c.args.step es)) c.requires.fits.2, few_from board.rows c.args.step 0 board.ordered.ascending, board.ordered.few)

pub returns-clause-most : goal.returns-clause-most
returns-clause-most c =
    let seen = c.load.ensures.2.2 c.args.step (search rules) refl in let v = c.args.pass.now.seat.me.0 in
    subst (λ es. c.load.result ≤ open_edges c.args.step es v.ended) c.requires.fits.2 (open_most v c.args.step c.load.result c.args.pass.now.settled seen)

pub returns-clause-whole : goal.returns-clause-whole
returns-clause-whole c =
    let seen = c.load.ensures.2.2 c.args.step (search rules) refl in let v = c.args.pass.now.seat.me.0 in
    λ whole. subst (λ es. c.load.result ≡ open_edges c.args.step es v.ended) c.requires.fits.2 (open_all v c.args.step c.load.result c.args.pass.now.settled seen (sym c.args.pass.now.counted ∙ whole))
