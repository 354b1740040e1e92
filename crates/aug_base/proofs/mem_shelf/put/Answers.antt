use Rattle.std.specs.Prelude.{string_bytes}
use Rattle.aug_base.proofs.Places.{map_files-put}
use Rattle.aug_base.proofs.mem_shelf.put.Goals as goal

pub returns-in-Ok-clause-ok : goal.returns-in-Ok-clause-ok
returns-in-Ok-clause-ok c =
    map_files-put c.args.file.0 c.args.file.1 (string_bytes c.into_string.result) c.args.files.now c.insert.new.self c.into_string.ensures c.in-Ok.ensures.updates
