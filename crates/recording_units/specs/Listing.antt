-- What a walk leaves: the keys used, the pieces so far, and how the value is pushed.
use Rattle.std.specs.Prelude.{List, ◌++◌}
use Rattle.recording_units.specs.declared.types.Arg.{Arg}
use Rattle.recording_units.specs.declared.types.Used.{Used}
use Rattle.recording_units.specs.declared.types.Piece.{Piece}
use Rattle.recording_units.specs.Units.{Listed, ListedAll, Walked}

abbrev pub left : Listed → List Piece → List Used × List Piece × Arg
left l out = (l.used, out ++ l.units, l.value)

abbrev pub left_parts : Walked → List Piece → Walked
left_parts l out = (l.0, out ++ l.1)

abbrev pub left_all : ListedAll → List Piece → List Used × List Piece × List Arg
left_all l out = (l.used, out ++ l.units, l.values)
