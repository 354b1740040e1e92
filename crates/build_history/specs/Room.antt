-- A history with room made ahead: its events, and how many more take no memory. This project's own.
use Rattle.std.specs.Prelude.{ℕ, List}
use Rattle.build_history.specs.declared.event.Event.{Event}

pub record Kept : Type 0 where
  pub events : List Event
  pub spare : ℕ
