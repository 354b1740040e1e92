-- Where each step stands, and what stands in the history by then. This project's own.
use Rattle.std.specs.Prelude.{◌≡◌, ℕ, ◌<◌, ◌≤◌, List, [], ◌∷◌, ◌++◌, length, take, drop, slice_index_or, Some, None, Contains}
use Rattle.item_types.specs.declared.value.Value.{Value}
use Rattle.recorder_proxy.specs.declared.call.Call.{Call}
use Rattle.step_state.specs.declared.outcome.Outcome.TheVariants.{Done, Fails}
use Rattle.step_state.specs.declared.outcome.Reason.{Reason}
use Rattle.build_history.specs.declared.event.Event.{Event}
use Rattle.build_history.specs.declared.event.Event.TheVariants.{End, Fail}
use Rattle.build_history.specs.Events.{events_of, ended}
use Rattle.build_history.specs.Jobs.{JobView, Needs, Precedes, consumes_at, meaning_at}
use Rattle.build_history.specs.Scripts.{puts_of, kept, opening}
use Rattle.build_history.specs.Runs.{IsOneThreadRun}
use Rattle.build_state.specs.declared.mark.Mark.{Mark}
use Rattle.build_state.specs.declared.mark.Mark.TheVariants.{Unneeded, Waiting, Released, Taking, Ready, Putting, Failing, Ended, Failed}
use Rattle.build_state.specs.declared.slot.Slot.{Slot}

abbrev pub no_slot : Slot
no_slot = record { mark = Unneeded; inputs = record { lists = [] }; made = 0; left = []; calls = []; reason = None }

abbrev pub slot_at : List Slot → ℕ → Slot
slot_at slots s = slice_index_or slots s no_slot

-- all edge producers of the step have ended
abbrev pub HasWaited : JobView → ℕ → List Event → Type 0
HasWaited job s h = (p : ℕ) → Precedes job p s → Contains (ended h) p

-- the step is needed and has no event, took nothing and has nothing to put
pub record IsFresh (job : JobView) (s : ℕ) (t : Slot) (h : List Event) : Type 0 where
  pub needed : Needs job s
  pub events : events_of s h ≡ []
  pub inputs : t.inputs.lists ≡ []
  pub left : t.left ≡ []

-- the step is needed, its edge producers have ended, and its events are these
pub record HasBegun (job : JobView) (s : ℕ) (h : List Event) (events : List Event) : Type 0 where
  pub needed : Needs job s
  pub waited : HasWaited job s h
  pub are : events_of s h ≡ events

-- all its takes are done, and its body came to its end with these puts and calls
pub record IsDone (job : JobView) (s : ℕ) (t : Slot) (puts : List (ℕ × Value)) (calls : List Call) : Type 0 where
  pub full : length t.inputs.lists ≡ length (consumes_at job s)
  pub gave : meaning_at job s t.inputs.lists ≡ Done puts calls

-- all its takes are done, and its body failed for this reason
pub record IsLost (job : JobView) (s : ℕ) (t : Slot) (r : Reason) : Type 0 where
  pub full : length t.inputs.lists ≡ length (consumes_at job s)
  pub gave : meaning_at job s t.inputs.lists ≡ Fails r

-- so many of these puts are made, and the others are left
pub record IsPartly (t : Slot) (puts : List (ℕ × Value)) : Type 0 where
  pub some : t.made ≤ length puts
  pub rest : t.left ≡ drop t.made puts

-- the events of a step are exactly those of its mark
abbrev pub AtMark : JobView → ℕ → Slot → List Event → Mark → Type 0
AtMark job s t h Unneeded = (Needs job s → ⊥) × (t.left ≡ [])
AtMark job s t h Waiting = IsFresh job s t h × (HasWaited job s h → ⊥)
AtMark job s t h Released = IsFresh job s t h × HasWaited job s h
AtMark job s t h Taking = HasBegun job s h (opening job s t.inputs.lists) × (length t.inputs.lists < length (consumes_at job s)) × (t.left ≡ [])
AtMark job s t h Ready = HasBegun job s h (opening job s t.inputs.lists) × (length t.inputs.lists ≡ length (consumes_at job s)) × (t.left ≡ [])
AtMark job s t h Putting = (puts : List (ℕ × Value)) × HasBegun job s h (opening job s t.inputs.lists ++ puts_of s (take t.made (kept job s puts))) × IsDone job s t puts t.calls × IsPartly t (kept job s puts)
AtMark job s t h Failing = (r : Reason) × HasBegun job s h (opening job s t.inputs.lists) × IsLost job s t r × (t.reason ≡ Some r) × (t.left ≡ [])
AtMark job s t h Ended = (puts : List (ℕ × Value)) × (calls : List Call) × HasBegun job s h (opening job s t.inputs.lists ++ puts_of s (kept job s puts) ++ End s calls ∷ []) × IsDone job s t puts calls × (t.left ≡ [])
AtMark job s t h Failed = (r : Reason) × HasBegun job s h (opening job s t.inputs.lists ++ Fail s r ∷ []) × IsLost job s t r × (t.left ≡ [])

-- the history is a one-thread run, and each slot is what it says
pub record IsState (job : JobView) (h : List Event) (slots : List Slot) : Type 0 where
  pub many : length slots ≡ length job.plan.steps
  pub run : IsOneThreadRun job h
  pub each : (s : ℕ) → s < length job.plan.steps → AtMark job s (slot_at slots s) h (slot_at slots s).mark
