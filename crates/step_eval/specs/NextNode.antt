-- A new node and its number. This project's own.
use Rattle.std.specs.Prelude.{◌≡◌, ℕ, ◌+◌}
use Rattle.item_types.specs.declared.value.NodeId.{NodeId}
use Rattle.item_types.specs.declared.value.Value.{Value}
use Rattle.step_state.specs.declared.state.State.{State}

-- the node has as its number how many were made before, and then there is one more
pub record IsNextNode (step : ℕ) (node_of : NodeId → Value) (before : State) (v : Value) (after : State) : Type 0 where
  pub numbered : v ≡ node_of (record { step = step; k = before.nodes })
  pub counted : after.nodes ≡ before.nodes + 1
