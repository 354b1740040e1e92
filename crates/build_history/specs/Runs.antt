-- One-thread runs: the histories that a job may have. This project's own.
use Rattle.std.specs.Prelude.{◌≡◌, ℕ, List, [], ◌∷◌, ◌++◌, Contains}
use mathlib.Core.List.{IsPrefix}
use Rattle.item_types.specs.declared.value.Value.{Value}
use Rattle.step_state.specs.declared.outcome.Reason.{Reason}
use Rattle.value_order.specs.Found.{found, kind_of}
use Rattle.build_history.specs.declared.event.Event.{Event}
use Rattle.build_history.specs.declared.event.Event.TheVariants.{Start, Take, Fail}
use Rattle.build_history.specs.Events.{step_of, events_of, taken, put_in, ended}
use Rattle.build_history.specs.Jobs.{JobView, Needs, Precedes}
use Rattle.build_history.specs.Scripts.{script}

-- what a consumer finds of an item in a history
abbrev pub found_in : JobView → ℕ → List Event → List Value
found_in job item h = found job.names (kind_of job.names item) (put_in item h)

-- each event is of a needed step, whose events begin its script; a take carries what is found in the history before it; before a start stand the ends of all edge producers; nothing follows a failure
pub record IsOneThreadRun (job : JobView) (h : List Event) : Type 0 where
  pub needed : (g k : List Event) (e : Event) → h ≡ g ++ e ∷ k → Needs job (step_of e)
  pub scripts : (s : ℕ) → IsPrefix (events_of s h) (script job s (taken (events_of s h)))
  pub takes : (g k : List Event) (s item : ℕ) (vs : List Value) → h ≡ g ++ Take s item vs ∷ k → vs ≡ found_in job item g
  pub starts : (g k : List Event) (s p : ℕ) → h ≡ g ++ Start s ∷ k → Precedes job p s → Contains (ended g) p
  pub failures : (g k : List Event) (s : ℕ) (r : Reason) → h ≡ g ++ Fail s r ∷ k → k ≡ []
