-- What a build state keeps of its parts. This project's own.
use Rattle.std.specs.Prelude.{◌≡◌, ℕ, ◌<◌, ◌↔◌, Bool, List, length}
use Rattle.dep_counter.specs.Counting.{AreCounts}
use Rattle.item_store.specs.Kept.{Kept as Stored}
use Rattle.build_history.specs.Events.{ended, has_failed}
use Rattle.build_history.specs.Jobs.{JobView}
use Rattle.build_history.specs.Room.{Kept}
use Rattle.step_set.specs.Members.{Has}
use Rattle.build_state.specs.declared.mark.Mark.TheVariants.{Released}
use Rattle.build_state.specs.declared.slot.Slot.{Slot}
use Rattle.build_state.specs.Marks.{slot_at, IsState}
use Rattle.build_state.specs.Rooms.{HasRoom}

-- the set has exactly the steps that stand at Released
abbrev pub IsReleasedSet : List Bool → List Slot → Type 0
IsReleasedSet set slots = (i : ℕ) → Has set i ↔ ((i < length slots) × ((slot_at slots i).mark ≡ Released))

-- the history is a run, the slots, the store, the counts and the set of released steps are what it says, and there is room for what is owed
pub record IsSound (job : JobView) (h : Kept) (store : Stored) (counts : List ℕ) (set : List Bool) (slots : List Slot) (failed : Bool) : Type 0 where
  pub many : length slots ≡ length job.plan.steps
  pub state : IsState job h.events slots
  pub room : HasRoom job h store slots
  pub counts_are : AreCounts job.plan (ended h.events) counts
  pub roomy : length set ≡ length slots
  pub released : IsReleasedSet set slots
  pub failed_is : failed ≡ has_failed h.events
