-- A work that comes back. This project's own.
use Rattle.std.specs.Prelude.{◌≡◌}
use Rattle.build_history.specs.Works.{Worked}
use Rattle.build_state.specs.declared.state.HandIn.{HandIn}
use Rattle.build_state.specs.declared.state.HandIn.TheVariants.{Foreign, Memory}
use Rattle.build_state.specs.Built.{Built, Fits}

-- as foreign where it doesn't fit, and for want of memory where it does
abbrev pub IsBack : Built → Worked → HandIn → Type 0
IsBack b w (Foreign x) = (x ≡ w) × (Fits b w → ⊥)
IsBack b w (Memory x) = (x ≡ w) × Fits b w
