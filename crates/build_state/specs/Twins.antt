-- A put that is made twice. This project's own.
use Rattle.std.specs.Prelude.{◌≡◌, ℕ}
use Rattle.item_types.specs.declared.value.Value.{Value}
use Rattle.build_state.specs.declared.puts.Twin.{Twin}

abbrev pub Put : Type 0
Put = ℕ × Value

-- its item and its value
abbrev pub put_of : Twin → Put
put_of t = (t.item, t.value)

-- both values are equal
abbrev pub IsTwin : Twin → Type 0
IsTwin t = t.again ≡ t.value

abbrev pub value_of : Put → Value
value_of p = p.1
