-- What is kept of an outcome. This project's own.
use Rattle.std.specs.Prelude.{◌≡◌, ℕ, ◌+◌, List, [], map}
use Rattle.std.specs.List.{All}
use Rattle.item_types.specs.declared.value.Value.{Value}
use Rattle.item_store.specs.Kept.{Kept as Stored}
use Rattle.step_state.specs.declared.outcome.Outcome.{Outcome}
use Rattle.step_state.specs.declared.outcome.Outcome.TheVariants.{Done, Fails}
use Rattle.build_history.specs.Jobs.{JobView}
use Rattle.build_history.specs.Scripts.{kept}
use Rattle.build_state.specs.Rooms.{IsKeyed, HasMore}

-- the values of the puts that are kept
abbrev pub values_kept : JobView → ℕ → List (ℕ × Value) → List Value
values_kept job s puts = map (λ (p : ℕ × Value). p.1) (kept job s puts)

abbrev pub seconds_of : JobView → ℕ → Outcome → List Value
seconds_of job s (Done puts calls) = values_kept job s puts
seconds_of job s (Fails r) = []

-- there is room for the puts that are kept, or for the failure
abbrev pub IsRoomFor : JobView → ℕ → Outcome → ℕ → ℕ → Stored → Stored → Type 0
IsRoomFor job s (Done puts calls) old new before after = HasMore old new before after (kept job s puts)
IsRoomFor job s (Fails r) old new before after = (new ≡ old + 1) × (after ≡ before)

-- the items can carry the values of the puts that are kept
abbrev pub HasKeys : JobView → ℕ → Outcome → Type 0
HasKeys job s (Done puts calls) = All (IsKeyed job.names) (kept job s puts)
HasKeys job s (Fails r) = Unit {0}
