-- What follows what was read already.
use Rattle.std.proofs.Common.{List, ◌++◌, Result, Ok, Err}
use Rattle.ext_draft.specs.declared.fault.DraftFault.{DraftFault}

-- the entries found so far, and then the rest
abbrev pub after : {A : Type 0} → List A → Result (List A) DraftFault → Result (List A) DraftFault
after found (Ok rest) = Ok (found ++ rest)
after found (Err fault) = Err fault
