-- A fault and its place. This project's own.
use Rattle.machine_rules.specs.declared.fault.Fault.{Fault}
use Rattle.machine_rules.specs.declared.fault.Fault.TheVariants as fault
use Rattle.machine_rules.specs.declared.fault.Place.{Place}
use Rattle.machine_rules.specs.declared.fault.Refusal.{Refusal}
use Rattle.machine_rules.specs.declared.fault.CodeFault.{CodeFault}
use Rattle.machine_rules.specs.declared.fault.CodeFault.TheVariants as placed

abbrev pub fault_at : Fault → Place → CodeFault
fault_at fault.Turns p = placed.Turns p
fault_at fault.Opcode p = placed.Opcode p
fault_at fault.Index p = placed.Index p
fault_at fault.NoClass p = placed.NoClass p
fault_at fault.NoField p = placed.NoField p
fault_at fault.NoMethod p = placed.NoMethod p
fault_at fault.Depth p = placed.Depth p
fault_at fault.Catches p = placed.Catches p
fault_at fault.Stack p = placed.Stack p
fault_at fault.Local p = placed.Local p
fault_at fault.Kind p = placed.Kind p

-- the refusal as a fault that has its place
abbrev pub code_fault : Refusal → CodeFault
code_fault r = fault_at r.fault r.place
