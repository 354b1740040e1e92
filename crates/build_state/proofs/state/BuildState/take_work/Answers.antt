use Rattle.std.proofs.Common.{◌∙◌, ap, sym, ℕ}
use Rattle.build_history.specs.Jobs.{meaning_at}
use Rattle.build_state.specs.Marks.{slot_at}
use Rattle.build_state.proofs.Moves.{fits_meant}
use Rattle.build_state.proofs.state.BuildState.take_work.Goals as goal

pub keep_outcome-requires-clause-meant : goal.keep_outcome-requires-clause-meant
keep_outcome-requires-clause-meant c =
    c.into_parts-inputs.ensures.outcome ∙ fits_meant c.args.self.now c.args.work c.into_parts-inputs.ensures.meant c.requires.fits
    ∙ ap (λ (n : ℕ). meaning_at c.args.self.now.job n (slot_at c.args.self.now.slots n).inputs.lists) (sym c.step-step.ensures.value)
