-- Kinds of runs. This project's own.
use Rattle.std.specs.Prelude.{◌≡◌, ◌≢◌, ℕ, ◌<◌, ◌⊎◌, List, [], ◌∷◌, ◌++◌, Contains}
use Rattle.step_state.specs.declared.outcome.Reason.{Reason}
use Rattle.build_history.specs.declared.event.Event.{Event}
use Rattle.build_history.specs.declared.event.Event.TheVariants.{Start, Fail}
use Rattle.build_history.specs.Events.{step_of, events_of, ended}
use Rattle.build_history.specs.Jobs.{JobView, Needs, Precedes}
use Rattle.build_history.specs.Runs.{IsOneThreadRun}

-- each needed step has ended
abbrev pub IsComplete : JobView → List Event → Type 0
IsComplete job h = (s : ℕ) → Needs job s → Contains (ended h) s

-- the last event is a failure
abbrev pub IsFailed : List Event → Type 0
IsFailed h = (g : List Event) × (s : ℕ) × (r : Reason) × (h ≡ g ++ Fail s r ∷ [])

-- a one-thread run that is complete or failed
pub record IsFinished (job : JobView) (h : List Event) : Type 0 where
  pub run : IsOneThreadRun job h
  pub done : IsComplete job h ⊎ IsFailed h

-- the step is needed, has no event yet, and all its edge producers have ended
pub record MayStart (job : JobView) (h : List Event) (s : ℕ) : Type 0 where
  pub needed : Needs job s
  pub fresh : events_of s h ≡ []
  pub released : (p : ℕ) → Precedes job p s → Contains (ended h) p

-- at each event every other step that has an event before has ended before, and each start is that of the least step that may start
pub record IsLeastFirst (job : JobView) (h : List Event) : Type 0 where
  pub alone : (g k : List Event) (e : Event) (s : ℕ) → h ≡ g ++ e ∷ k → s ≢ step_of e → events_of s g ≢ [] → Contains (ended g) s
  pub least : (g k : List Event) (s p : ℕ) → h ≡ g ++ Start s ∷ k → p < s → MayStart job g p → ⊥
