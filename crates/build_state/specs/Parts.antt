-- Slots before anything has happened, and slots that are released. This project's own.
use Rattle.std.specs.Prelude.{◌≡◌, ℕ, ◌<◌, ◌↔◌, ◌⊎◌, Bool, List, [], length, Contains}
use Rattle.build_history.specs.Jobs.{JobView, Needs}
use Rattle.step_set.specs.Members.{Has}
use Rattle.build_state.specs.declared.mark.Mark.{Mark}
use Rattle.build_state.specs.declared.mark.Mark.TheVariants.{Unneeded, Waiting, Released, Taking, Ready, Putting, Failing, Ended, Failed}
use Rattle.build_state.specs.declared.slot.Slot.{Slot}
use Rattle.build_state.specs.Marks.{no_slot, slot_at, HasWaited}

-- where the step stands before anything has happened
abbrev pub IsFirst : JobView → ℕ → Mark → Type 0
IsFirst job s Unneeded = Needs job s → ⊥
IsFirst job s Waiting = Needs job s × (HasWaited job s [] → ⊥)
IsFirst job s Released = Needs job s × HasWaited job s []
IsFirst job s Taking = ⊥
IsFirst job s Ready = ⊥
IsFirst job s Putting = ⊥
IsFirst job s Failing = ⊥
IsFirst job s Ended = ⊥
IsFirst job s Failed = ⊥

-- a step's slot before anything has happened
pub record IsOpen (job : JobView) (s : ℕ) (t : Slot) : Type 0 where
  pub empty : t ≡ record no_slot { mark = t.mark }
  pub first : IsFirst job s t.mark

-- a slot for each of the first n steps
pub record AreOpen (job : JobView) (n : ℕ) (slots : List Slot) : Type 0 where
  pub many : length slots ≡ n
  pub each : (s : ℕ) → s < n → IsOpen job s (slot_at slots s)

-- the slots of these steps stand at Released, and the others are as before
pub record AreReleased (steps : List ℕ) (old new : List Slot) : Type 0 where
  pub many : length new ≡ length old
  pub those : (i : ℕ) → i < length old → Contains steps i → slot_at new i ≡ record (slot_at old i) { mark = Released }
  pub others : (i : ℕ) → i < length old → (Contains steps i → ⊥) → slot_at new i ≡ slot_at old i

-- the set has the step besides, where it stands at Released
pub record IsNoted (m : Mark) (step : ℕ) (old new : List Bool) : Type 0 where
  pub released : m ≡ Released → (i : ℕ) → Has new i ↔ (Has old i ⊎ (i ≡ step))
  pub others : (m ≡ Released → ⊥) → new ≡ old
