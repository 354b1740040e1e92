-- Where a step stands on which a worker may go on. This project's own.
use Rattle.std.specs.Prelude.{◌≡◌, ℕ, ◌<◌, false, length}
use Rattle.build_state.specs.Built.{Built, mark_at, is_halted}
use Rattle.build_state.specs.declared.mark.Mark.{Mark}

-- the step is one of the job's, nothing has halted, and it stands there
abbrev pub StandsAt : Built → ℕ → Mark → Type 0
StandsAt b s m = (s < length b.job.plan.steps) × (is_halted b ≡ false) × (m ≡ mark_at b s)
