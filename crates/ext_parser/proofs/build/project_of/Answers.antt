use Rattle.std.proofs.Common.{inr}
use Rattle.ext_parser.proofs.Whole.{whole}
use Rattle.ext_parser.proofs.build.project_of.Goals as goal

pub returns : goal.returns
returns c =
    inr (whole c.args.draft.now c.in_ok-items.items c.in_ok-on.on c.in_ok-app.app c.in_ok-names.names c.in_ok-texts.texts c.in_ok-steps.steps c.in_ok-finals.finals
    (rw c.as_slice.ensures at c.in_ok-items.ensures)
    (rw c.as_slice-2.ensures at c.in_ok-on.ensures)
    c.in_ok-app.ensures
    (rw c.as_slice-3.ensures at c.in_ok-names.ensures)
    c.in_ok-texts.ensures
    (rw c.as_slice-4.ensures at c.in_ok-steps.ensures)
    (rw c.as_slice-5.ensures at c.in_ok-finals.ensures))
