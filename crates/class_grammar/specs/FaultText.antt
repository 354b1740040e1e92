-- The text of a class fault, as a refused class file is reported with it. This project's own.
use Rattle.std.specs.Prelude.{ℕ, List, [], ◌++◌, codes}
use Rattle.std.specs.Fmt.{decimal}
use Rattle.class_pool.specs.declared.fault.ClassFault.{ClassFault}
use Rattle.class_pool.specs.declared.fault.ClassFault.TheVariants as fault

-- want of memory says nothing of the file, and has no text
abbrev pub fault_text : ClassFault → List ℕ
fault_text fault.Magic = codes "magic"
fault_text fault.Version = codes "version"
fault_text (fault.Short at) = codes "short at " ++ decimal at
fault_text (fault.Pool index) = codes "pool " ++ decimal index
fault_text (fault.Shape at) = codes "shape at " ++ decimal at
fault_text (fault.Trailing at) = codes "trailing at " ++ decimal at
fault_text fault.Memory = []
