-- How many bytes the code of units has.
use Rattle.std.specs.Prelude.{◌≡◌, ℕ, ◌+◌, ◌≤◌, List, [], ◌∷◌, Option, Some, None, length, sum_by}
use Rattle.recorder_proxy.specs.declared.call.Call.{Call}
use Rattle.recording_units.specs.declared.types.Kept.{Kept}
use Rattle.recording_units.specs.declared.types.Arg.{Arg}
use Rattle.recording_units.specs.declared.types.Arg.TheVariants as arg
use Rattle.recording_units.specs.declared.types.Piece.{Piece}
use Rattle.recording_units.specs.declared.types.Piece.TheVariants as piece

abbrev pub value_size : Arg → ℕ
value_size arg.Null = 1
value_size (arg.Bool b) = 4
value_size (arg.Long n) = 6
value_size (arg.Str t) = 3
value_size (arg.Kept k) = 7
value_size (arg.Made n k) = 3

abbrev pub values_size : List Arg → ℕ
values_size [] = 0
values_size (a ∷ rest) = value_size a + values_size rest

abbrev pub unit_size : Piece → ℕ
unit_size (piece.Make n k) = 10
unit_size (piece.SetElement n a) = 7 + value_size a
unit_size (piece.SetField n b f a) = 6 + value_size a
unit_size (piece.CallOf n r m args None) = 7 + values_size args
unit_size (piece.CallOf n r m args (Some k)) = 13 + values_size args

abbrev pub units_size : List Piece → ℕ
units_size [] = 0
units_size (p ∷ ps) = unit_size p + units_size ps

-- no call has more than 8 arguments
abbrev pub AreShort : List Call → Type 0
AreShort [] = Unit {0}
AreShort (c ∷ cs) = (length c.args ≤ 8) × AreShort cs

-- each unit has at most 69 bytes
abbrev pub AreSmall : List Piece → Type 0
AreSmall [] = Unit {0}
AreSmall (p ∷ ps) = (unit_size p ≤ 69) × AreSmall ps
