-- The faults of the first walk among those of a project file. This project's own.
use Rattle.ext_draft.specs.declared.fault.DraftFault.{DraftFault}
use Rattle.ext_draft.specs.declared.fault.DraftFault.TheVariants as first
use Rattle.ext_parser.specs.declared.fault.ProjectFault.{ProjectFault}
use Rattle.ext_parser.specs.declared.fault.ProjectFault.TheVariants.{Limit, Toml, Field, Name, Memory}

-- a fault of the first walk
abbrev pub fault_of : DraftFault → ProjectFault
fault_of (first.Limit path found) = Limit path found
fault_of first.Toml = Toml
fault_of (first.Field path) = Field path
fault_of (first.Name path) = Name path
fault_of first.Memory = Memory
