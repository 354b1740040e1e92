-- A walk's next object. This project's own.
use Rattle.std.specs.Prelude.{ℕ, Bool, true, false, List, Option, Some, None, slice_get}
use Rattle.startup_rules.specs.declared.slot.Slot.{Slot}
use Rattle.startup_rules.specs.declared.slot.Slot.TheVariants.{Null, Bool as Truth, Long, Str, Obj}

-- an object that there is and that was not seen
abbrev pub unless_seen : ℕ → Option Bool → Option ℕ
unless_seen x (Some false) = Some x
unless_seen x _ = None

abbrev pub fresh_at : List Bool → Slot → Option ℕ
fresh_at seen Null = None
fresh_at seen (Truth b) = None
fresh_at seen (Long n) = None
fresh_at seen (Str t) = None
fresh_at seen (Obj x) = unless_seen x (slice_get seen x)
