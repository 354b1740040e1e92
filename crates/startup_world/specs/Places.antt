-- The place of a key among pairs. This project's own.
use Rattle.std.specs.Prelude.{ℕ, List, Option, position}
use Rattle.std.specs.Str.{bytes_eq}
use Rattle.startup_rules.specs.declared.slot.Slot.{Slot}

abbrev pub key_place : List (List ℕ × Slot) → List ℕ → Option ℕ
key_place pairs key = position (λ (p : List ℕ × Slot). bytes_eq p.0 key) pairs
