-- What the calls of loaded classes say, in the machine's terms. This project's own.
use Rattle.std.specs.Prelude.{◌≡◌, ℕ, List, Option, Some, None, Result, Ok, Err}
use Rattle.std.specs.Borrow.{Bor}
use Rattle.machine_rules.specs.Rows.{Step, seen}
use Rattle.machine_rules.specs.declared.action.Row.{Row}
use Rattle.machine_rules.specs.declared.fault.Fault.{Fault}
use Rattle.machine_rules.specs.declared.code.Method.{Method}
use Rattle.machine_rules.specs.Machine as machine

-- an instruction that is read, and what is left
abbrev pub Reads : Result (Step × List ℕ) Fault → Result (Row (Bor (List ℕ)) × Bor (List ℕ)) Fault → Type 0
Reads r (Ok p) = r ≡ Ok (seen (λ t. t.now) p.0, p.1.now)
Reads r (Err f) = r ≡ Err f

abbrev pub method_of : Method → machine.Method ℕ
method_of m = record { code = m.code.now; max_stack = m.max_stack; max_locals = m.max_locals; catches = m.catches }

-- a method that has code, or that there is none
abbrev pub HasMethod : Option (machine.Method ℕ) → Option Method → Type 0
HasMethod o None = o ≡ None
HasMethod o (Some m) = o ≡ Some (method_of m)
