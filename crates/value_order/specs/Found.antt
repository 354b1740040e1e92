-- What a consumer finds of a build item of which these values were put, in this order. This project's own.
use Rattle.std.specs.Prelude.{◌≡◌, ℕ, ℤ, pos, List, [], Option, Some, None, slice_get, unwrap_or, IsSome}
use Rattle.item_types.specs.Named.{key}
use Rattle.item_types.specs.declared.decl.ItemDecl.{ItemDecl}
use Rattle.item_types.specs.declared.decl.ItemKind.{ItemKind}
use Rattle.item_types.specs.declared.decl.ItemKind.TheVariants.{Simple, Multi, Ordered, Empty}
use Rattle.item_types.specs.declared.decl.Names.{Names}
use Rattle.item_types.specs.declared.value.Value.{Value}
use Rattle.value_order.specs.Sorted.{sorted_by, StandsByRank}

-- a value's number in that field, or 0
abbrev pub number_of : Names → List ℕ → Value → ℤ
number_of names field v = unwrap_or (key names field v) (pos 0)

abbrev pub kind_in : Option ItemDecl → ItemKind
kind_in None = Empty
kind_in (Some decl) = decl.kind

-- the kind of the item of that number; past the last item it is empty
abbrev pub kind_of : Names → ℕ → ItemKind
kind_of names item = kind_in (slice_get names.items item)

-- an item of this kind can carry the value: with a number in the field where it is ordered
abbrev pub HasKey : Names → ItemKind → Value → Type 0
HasKey names Simple v = Unit {0}
HasKey names Multi v = Unit {0}
HasKey names (Ordered field) v = IsSome (key names field v)
HasKey names Empty v = Unit {0}

-- all in the order of production, those of an ordered item sorted, and none of an empty item
abbrev pub found : Names → ItemKind → List Value → List Value
found names Simple values = values
found names Multi values = values
found names (Ordered field) values = sorted_by (number_of names field) values
found names Empty values = []

-- the same by places: each value of an ordered item stands after those of a lesser number and those of an equal number that were put before
abbrev pub IsFound : Names → ItemKind → List Value → List Value → Type 0
IsFound names Simple values taken = taken ≡ values
IsFound names Multi values taken = taken ≡ values
IsFound names (Ordered field) values taken = StandsByRank (number_of names field) values taken
IsFound names Empty values taken = taken ≡ []
