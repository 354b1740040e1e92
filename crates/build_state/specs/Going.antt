-- How a state goes on. This project's own.
use Rattle.std.specs.Prelude.{◌≡◌, ◌≢◌, ℕ, ◌⊎◌, false, List, ◌++◌, length}
use Rattle.std.specs.List.{All}
use mathlib.Core.List.{IsPrefix}
use Rattle.build_history.specs.declared.event.Event.{Event}
use Rattle.build_history.specs.declared.event.Event.TheVariants.{Start}
use Rattle.build_history.specs.Events.{step_of}
use Rattle.build_state.specs.declared.mark.Mark.TheVariants.{Waiting, Released}
use Rattle.build_state.specs.Built.{Built, mark_at}
use Rattle.build_state.specs.Turns.{GoesInTurn}

-- an event of the step that isn't its start
pub record IsLaterOf (s : ℕ) (e : Event) : Type 0 where
  pub of : step_of e ≡ s
  pub no_start : (r : ℕ) → e ≢ Start r

-- the step's mark stays, or turns from Waiting to Released
abbrev pub StaysOrReleases : Built → Built → ℕ → Type 0
StaysOrReleases b n i = (mark_at n i ≡ mark_at b i) ⊎ ((mark_at b i ≡ Waiting) × (mark_at n i ≡ Released))

-- nothing but later events of the step have come, and other steps were released at most
pub record GoesOn (s : ℕ) (b n : Built) : Type 0 where
  pub job : n.job ≡ b.job
  pub no_memory : n.no_memory ≡ b.no_memory
  pub many : length n.slots ≡ length b.slots
  pub new : List Event
  pub history : n.history ≡ b.history ++ new
  pub later : All (IsLaterOf s) new
  pub others : (i : ℕ) → i ≢ s → StaysOrReleases b n i

-- only events have come, each of the step whose turn it was, and no want of memory is noted
pub record Drains (b n : Built) : Type 0 where
  pub job : n.job ≡ b.job
  pub no_memory : n.no_memory ≡ false
  pub history : IsPrefix b.history n.history
  pub turns : GoesInTurn b.job b.history n.history
