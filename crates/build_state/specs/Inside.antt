-- A build state from the inside. This project's own.
use Rattle.build_state.specs.declared.state.BuildState.TheInside.{Inside}
use Rattle.build_state.specs.Built.{Built}
use Rattle.build_state.specs.Sound.{IsSound}

abbrev pub built_view : Inside → Built
built_view s = record { job = s.job.now; history = s.history.events; slots = s.slots.items; no_memory = s.no_memory }

abbrev pub IsBuilt : Inside → Type 0
IsBuilt s = IsSound s.job.now s.history s.store s.counts s.released s.slots.items s.failed
