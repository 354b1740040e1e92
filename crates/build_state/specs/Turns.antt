-- Whose turn it is, and histories that go on in turn. This project's own.
use Rattle.std.specs.Prelude.{◌≡◌, ◌≢◌, ℕ, ◌<◌, ◌⊎◌, List, [], ◌∷◌, ◌++◌, Contains}
use Rattle.build_history.specs.declared.event.Event.{Event}
use Rattle.build_history.specs.Events.{step_of, events_of, ended}
use Rattle.build_history.specs.Jobs.{JobView}
use Rattle.build_history.specs.Kinds.{MayStart}

-- if the step has an event, it has ended
abbrev pub IsOver : List Event → ℕ → Type 0
IsOver h s = events_of s h ≢ [] → Contains (ended h) s

-- it has started, and each lesser step that has started has ended; or all that have started have ended, and it is the least that may start
abbrev pub IsTurn : JobView → List Event → ℕ → Type 0
IsTurn job h s = ((events_of s h ≢ []) × ((i : ℕ) → i < s → IsOver h i)) ⊎ (((i : ℕ) → IsOver h i) × MayStart job h s × ((p : ℕ) → p < s → MayStart job h p → ⊥))

-- each event that follows the old ones is of the step whose turn it is
abbrev pub GoesInTurn : JobView → List Event → List Event → Type 0
GoesInTurn job old new = (g k : List Event) (e : Event) → new ≡ old ++ g ++ e ∷ k → IsTurn job (old ++ g) (step_of e)
