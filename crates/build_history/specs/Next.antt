-- The event that a step adds next to a history, if it adds one. This project's own.
use Rattle.std.specs.Prelude.{◌≡◌, ℕ, ◌-◌, nat_lt, Bool, false, cond, List, [], ◌∷◌, length, Contains, slice_index_or, slice_get, Option, Some}
use Rattle.item_types.specs.declared.step.Consume.{Consume}
use Rattle.item_types.specs.declared.value.Value.{Value}
use Rattle.build_history.specs.declared.event.Event.{Event}
use Rattle.build_history.specs.declared.event.Event.TheVariants.{Start, Take}
use Rattle.build_history.specs.Events.{step_of, events_of, taken, ended, has_failed}
use Rattle.build_history.specs.Jobs.{JobView, Needs, Precedes, consumes_at, meaning_at}
use Rattle.build_history.specs.Runs.{found_in}
use Rattle.build_history.specs.Scripts.{rest_of}

abbrev pub no_consume : Consume
no_consume = record { item = 0; optional = false }

-- the item of the step's consumption at that place
abbrev pub item_at : JobView → ℕ → ℕ → ℕ
item_at job s k = (slice_index_or (consumes_at job s) k no_consume).item

-- after the start, v being the lists taken and n the number of the step's events but the start
abbrev pub next_at : JobView → ℕ → List Event → List (List Value) → ℕ → Option Event
next_at job s h v n =
    cond (nat_lt (length v) (length (consumes_at job s)))
    (Some (Take s (item_at job s (length v)) (found_in job (item_at job s (length v)) h)))
    (slice_get (rest_of job s (meaning_at job s v)) (n - length (consumes_at job s)))

-- es being the step's events in h
abbrev pub next_of : JobView → ℕ → List Event → List Event → Option Event
next_of job s [] h = Some (Start s)
next_of job s (e ∷ es) h = next_at job s h (taken (e ∷ es)) (length es)

-- nothing has failed, and the event is the one that a needed step adds next, all of whose edge producers have ended where it starts
pub record IsNext (job : JobView) (h : List Event) (e : Event) : Type 0 where
  pub open_yet : has_failed h ≡ false
  pub of_needed : Needs job (step_of e)
  pub next : next_of job (step_of e) (events_of (step_of e) h) h ≡ Some e
  pub waited : (p : ℕ) → e ≡ Start (step_of e) → Precedes job p (step_of e) → Contains (ended h) p
