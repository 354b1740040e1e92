-- Operands whose texts are borrowed, as the texts that they are. This project's own.
use Rattle.std.specs.Prelude.{ℕ, List}
use Rattle.std.specs.Borrow.{Bor}
use Rattle.operators.specs.declared.operand.Operand.{Operand}
use Rattle.operators.specs.declared.operand.Operand.TheVariants as operand

abbrev pub shown : Operand (Bor (List ℕ)) → Operand (List ℕ)
shown operand.Null = operand.Null
shown (operand.Bool b) = operand.Bool b
shown (operand.Long n) = operand.Long n
shown (operand.Str t) = operand.Str t.now
shown (operand.List n) = operand.List n
shown operand.Other = operand.Other
