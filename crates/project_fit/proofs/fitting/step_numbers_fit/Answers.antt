use Rattle.project_fit.specs.Fits.{step_numbers_fit}
use Rattle.project_fit.proofs.Apart.{and-second}
use Rattle.project_fit.proofs.fitting.step_numbers_fit.Goals as goal

pub returns-then-consumed : goal.returns-then-consumed
unfolding step_numbers_fit
returns-then-consumed c =
    and-second _ _ c.numbers_fit-consumed.result c.numbers_fit-produced.result c.if-consumed.true
    (rw c.as_slice.ensures at c.numbers_fit-consumed.ensures)
    (rw c.as_slice-2.ensures at c.numbers_fit-produced.ensures)
