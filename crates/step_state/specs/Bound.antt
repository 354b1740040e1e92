-- Values under borrowed names, the newest last. This project's own.
use Rattle.std.specs.Prelude.{ℕ, List, map}
use Rattle.std.specs.Borrow.{Bor}

-- the names and values that these entries show
abbrev pub bound : {V : Type 0} → List (Bor (List ℕ) × V) → List (List ℕ × V)
bound entries = map (λ e. (e.0.now, e.1)) entries
