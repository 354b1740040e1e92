-- The event that may follow a history. This project's own.
use Rattle.std.specs.Prelude.{◌≡◌, ℕ, false, List, [], ◌∷◌, ◌++◌, Contains}
use mathlib.Core.List.{IsPrefix}
use Rattle.build_history.specs.declared.event.Event.{Event}
use Rattle.build_history.specs.declared.event.Event.TheVariants.{Start, Take, Put, End, Fail}
use Rattle.build_history.specs.Events.{step_of, events_of, taken, taken_of, ended, has_failed}
use Rattle.build_history.specs.Jobs.{JobView, Needs, Precedes}
use Rattle.build_history.specs.Scripts.{script}
use Rattle.build_history.specs.Runs.{found_in}

-- what an event owes to the history before it: to a start the ends of all edge producers, to a take that it carries what is found
abbrev pub Owes : JobView → List Event → Event → Type 0
Owes job h (Start s) = (p : ℕ) → Precedes job p s → Contains (ended h) p
Owes job h (Take s item vs) = vs ≡ found_in job item h
Owes job h (Put s item v) = Unit {0}
Owes job h (End s calls) = Unit {0}
Owes job h (Fail s r) = Unit {0}

-- nothing has failed, the step is needed, the event is the next of its script, and it owes nothing
pub record MayFollow (job : JobView) (h : List Event) (e : Event) : Type 0 where
  pub open_yet : has_failed h ≡ false
  pub of_needed : Needs job (step_of e)
  pub scripted : IsPrefix (events_of (step_of e) h ++ e ∷ []) (script job (step_of e) (taken (events_of (step_of e) h) ++ taken_of e))
  pub owes : Owes job h e
