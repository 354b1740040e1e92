-- The size of a value, each number as far as its type goes.
use Rattle.std.specs.Prelude.{◌-◌, ◌^◌, min, map, sum, List}
use Rattle.item_types.specs.Measure.{cells, text_len, depth, greatest}
use Rattle.item_types.specs.declared.value.Value.{Value}
use Rattle.step_state.specs.declared.measure.Size.{Size}

abbrev pub size_of : Value → Size
size_of v = record { cells = min (cells v) (2 ^ 64 - 1); text = min (text_len v) (2 ^ 64 - 1); depth = min (depth v) (2 ^ 32 - 1) }

abbrev pub size_of_all : List Value → Size
size_of_all vs =
    record { cells = min (sum (map cells vs)) (2 ^ 64 - 1); text = min (sum (map text_len vs)) (2 ^ 64 - 1); depth = min (greatest (map depth vs)) (2 ^ 32 - 1) }
