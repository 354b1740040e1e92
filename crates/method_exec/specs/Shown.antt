-- Names that are borrowed, as the names that they are. This project's own.
use Rattle.std.specs.Prelude.{ℕ, List, [], ◌∷◌}
use Rattle.std.specs.Borrow.{Bor}
use Rattle.startup_rules.specs.declared.slot.Slot.{Slot}

abbrev pub shown : List (Bor (List ℕ) × Slot) → List (List ℕ × Slot)
shown [] = []
shown (e ∷ es) = (e.0.now, e.1) ∷ shown es
