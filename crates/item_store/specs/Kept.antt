-- What a store keeps: the declarations, and for each item the values that were put of it, in order, and how many more take no memory. This project's own.
use Rattle.std.specs.Prelude.{◌≡◌, ◌≢◌, ℕ, List, [], slice_index_or}
use Rattle.std.specs.List.{All}
use Rattle.item_types.specs.declared.decl.Names.{Names}
use Rattle.item_types.specs.declared.value.Value.{Value}
use Rattle.value_order.specs.Found.{kind_of, HasKey}

pub record Held : Type 0 where
  pub values : List Value
  pub spare : ℕ

pub record Kept : Type 0 where
  pub names : Names
  pub held : List Held

abbrev pub nothing : Held
nothing = record { values = []; spare = 0 }

-- what is held of the item
abbrev pub held_of : Kept → ℕ → Held
held_of store item = slice_index_or store.held item nothing

-- the values that were put of the item, in order
abbrev pub values_of : Kept → ℕ → List Value
values_of store item = (held_of store item).values

-- how many more values of the item take no memory
abbrev pub spare_of : Kept → ℕ → ℕ
spare_of store item = (held_of store item).spare

-- the declarations are as before, and so is what is held of each other item
abbrev pub SameElsewhere : ℕ → Kept → Kept → Type 0
SameElsewhere item old new = (new.names ≡ old.names) × ((other : ℕ) → other ≢ item → held_of new other ≡ held_of old other)

-- each value of an ordered item has a number in the item's field
abbrev pub HaveKeys : Names → List Held → Type 0
HaveKeys names held = (item : ℕ) → All (HasKey names (kind_of names item)) (slice_index_or held item nothing).values
