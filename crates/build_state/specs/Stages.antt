-- The stage that a step is told to stand at. This project's own.
use Rattle.std.specs.Prelude.{◌≡◌, ℕ, Bool, true, false, length, Option, Some, None}
use Rattle.dep_counter.specs.Counting.{HowMany, IsOpen}
use Rattle.build_history.specs.Events.{ended, has_failed}
use Rattle.build_state.specs.declared.mark.Halt.{Halt}
use Rattle.build_state.specs.declared.mark.Halt.TheVariants as halt
use Rattle.build_state.specs.declared.mark.Mark.{Mark}
use Rattle.build_state.specs.declared.mark.Mark.TheVariants as mark
use Rattle.build_state.specs.declared.mark.Stage.{Stage}
use Rattle.build_state.specs.declared.mark.Stage.TheVariants as stage
use Rattle.build_state.specs.Built.{Built}
use Rattle.build_state.specs.Marks.{slot_at}

-- the stage shows the mark, with its numbers
abbrev pub Shows : Built → ℕ → Mark → Stage → Type 0
Shows b s mark.Unneeded r = r ≡ stage.Unneeded
Shows b s mark.Waiting r = (n : ℕ) × (r ≡ stage.Waiting n) × HowMany (IsOpen b.job.plan (ended b.history) s) n
Shows b s mark.Released r = r ≡ stage.Released
Shows b s mark.Taking r = r ≡ stage.Taking (length (slot_at b.slots s).inputs.lists)
Shows b s mark.Ready r = r ≡ stage.Ready
Shows b s mark.Putting r = r ≡ stage.Putting (slot_at b.slots s).made
Shows b s mark.Failing r = r ≡ stage.Failing
Shows b s mark.Ended r = r ≡ stage.Ended
Shows b s mark.Failed r = r ≡ stage.Failed

abbrev pub halt_when : Bool → Bool → Option Halt
halt_when true no_memory = Some halt.Failed
halt_when false true = Some halt.Memory
halt_when false false = None

-- Failed where the history has a failure; Memory where memory was wanting
abbrev pub halt_of : Built → Option Halt
halt_of b = halt_when (has_failed b.history) b.no_memory
