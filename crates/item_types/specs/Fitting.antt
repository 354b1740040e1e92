-- Which values fit the declared names, as what is recorded, emitted and played has to. This project's own.
use Rattle.std.specs.Prelude.{◌≤◌, IsTrue}
use Rattle.item_types.specs.Measure.{longest}
use Rattle.item_types.specs.Named.{fits}
use Rattle.item_types.specs.declared.decl.Names.{Names}
use Rattle.item_types.specs.declared.value.Value.{Value}

-- each bean in it is declared and has a value for each of its fields, and each text in it can stand in a class file
pub record ValueFits (names : Names) (v : Value) : Type 0 where
  pub beans_fit : IsTrue (fits names v)
  pub texts_fit : longest v ≤ 65535
