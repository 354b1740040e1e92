-- The store is what the history says, and there is room for all that is owed. This project's own.
use Rattle.std.specs.Prelude.{◌≡◌, ℕ, ◌+◌, ◌<◌, ◌≤◌, ◌==◌, List, length, sum_by, count_by}
use Rattle.std.specs.List.{All}
use Rattle.item_types.specs.Bounds.{IsBounded}
use Rattle.item_types.specs.declared.decl.Names.{Names}
use Rattle.item_types.specs.declared.value.Value.{Value}
use Rattle.recorder_proxy.specs.declared.call.Call.{Call}
use Rattle.value_order.specs.Found.{kind_of, HasKey}
use Rattle.item_store.specs.Kept.{Kept as Stored, values_of, spare_of}
use Rattle.build_history.specs.Events.{put_in}
use Rattle.build_history.specs.Jobs.{JobView}
use Rattle.build_history.specs.Room.{Kept}
use Rattle.build_state.specs.declared.mark.Mark.{Mark}
use Rattle.build_state.specs.declared.mark.Mark.TheVariants.{Unneeded, Waiting, Released, Taking, Ready, Putting, Failing, Ended, Failed}
use Rattle.build_state.specs.declared.slot.Slot.{Slot}
use Rattle.build_state.specs.Marks.{slot_at}

-- a failure that isn't in the history yet
abbrev pub owed_at : Mark → ℕ
owed_at Unneeded = 0
owed_at Waiting = 0
owed_at Released = 0
owed_at Taking = 0
owed_at Ready = 0
owed_at Putting = 0
owed_at Failing = 1
owed_at Ended = 0
owed_at Failed = 0

-- how many events are owed that must take no memory
abbrev pub owed : Slot → ℕ
owed t = length t.left + owed_at t.mark

-- how many puts of the item are owed
abbrev pub owed_of : ℕ → Slot → ℕ
owed_of item t = count_by (λ p. p.0 == item) t.left

-- the item can carry the value
abbrev pub IsKeyed : Names → ℕ × Value → Type 0
IsKeyed names p = HasKey names (kind_of names p.0) p.1

-- the value is within the bounds
abbrev pub IsSmall : ℕ × Value → Type 0
IsSmall p = IsBounded p.1

-- each argument of the call is within the bounds
abbrev pub HasSmallArgs : Call → Type 0
HasSmallArgs c = All IsBounded c.args

pub record HasRoom (job : JobView) (h : Kept) (store : Stored) (slots : List Slot) : Type 0 where
  pub events : sum_by owed slots ≤ h.spare
  pub names : store.names ≡ job.names
  pub values : (item : ℕ) → item < length job.names.items → values_of store item ≡ put_in item h.events
  pub spares : (item : ℕ) → sum_by (owed_of item) slots ≤ spare_of store item
  pub keyed : (s : ℕ) → All (IsKeyed job.names) (slot_at slots s).left
  pub small : (s : ℕ) → All IsSmall (slot_at slots s).left
  pub calls : (s : ℕ) → All HasSmallArgs (slot_at slots s).calls

-- the names and the values are the same, and there is no less room
pub record IsRoomier (old new : Stored) : Type 0 where
  pub names : new.names ≡ old.names
  pub values : (item : ℕ) → values_of new item ≡ values_of old item
  pub spares : (item : ℕ) → spare_of old item ≤ spare_of new item

-- there is room for these puts more
pub record HasMore (old new : ℕ) (before after : Stored) (puts : List (ℕ × Value)) : Type 0 where
  pub events : new ≡ old + length puts
  pub spares : (item : ℕ) → spare_of after item ≡ spare_of before item + count_by (λ p. p.0 == item) puts
