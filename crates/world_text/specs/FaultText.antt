-- Why a recorder's method failed, in words. This project's own.
use Rattle.std.specs.Prelude.{ℕ, List, ◌++◌, codes}
use Rattle.std.specs.Fmt.{decimal}
use Rattle.item_types.specs.Quoted.{quoted}
use Rattle.startup_rules.specs.declared.fault.MethodFault.{MethodFault}
use Rattle.startup_rules.specs.declared.fault.MethodFault.TheVariants as fault

abbrev pub fault_text : MethodFault → List ℕ
fault_text (fault.Said t) = quoted t
fault_text (fault.Kind at) = codes "kind at " ++ decimal at
fault_text fault.TooManyTurns = codes "too many turns"
fault_text fault.TooManyCells = codes "too many cells"
fault_text fault.TextTooLong = codes "text too long"
fault_text fault.TooMuchText = codes "too much text"
