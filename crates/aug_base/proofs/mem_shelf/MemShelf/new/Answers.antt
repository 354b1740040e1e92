use Rattle.std.proofs.Common.{ap, Some}
use Rattle.aug_base.specs.Files.{Files}
use Rattle.aug_base.specs.Shelves.{Shelved}
use Rattle.aug_base.proofs.Places.{made_of}
use Rattle.aug_base.proofs.mem_shelf.MemShelf.new.Goals as goal

pub returns-clause-state : goal.returns-clause-state
returns-clause-state c =
    let telling : Files → Shelved = λ m. record { read_faults = 0; write_faults = 0; files = Some m } in
    ap telling (made_of c.into_vec.result.items c.args.files c.new.result c.into_vec.ensures c.new.ensures.empty)
