-- How large a value and each text in it may be, wherever one is kept or handed on. This project's own.
use Rattle.std.specs.Prelude.{◌≤◌}
use Rattle.item_types.specs.Measure.{cells, text_len, depth, longest}
use Rattle.item_types.specs.declared.value.Value.{Value}

pub record IsBounded (v : Value) : Type 0 where
  pub depth_in : depth v ≤ 64
  pub cells_in : cells v ≤ 65536
  pub text_in : text_len v ≤ 1048576
  pub longest_in : longest v ≤ 65535
