use Rattle.std.proofs.lemmas.Result.{on_ok_weaker}
use Rattle.aug_base.specs.MapOfFiles.{map_files}
use Rattle.aug_base.proofs.Places.{written_as}
use Rattle.aug_base.proofs.mem_shelf.write_in.Goals as goal

pub returns-clause-ok : goal.returns-clause-ok
returns-clause-ok c =
    on_ok_weaker c.add.result
    (written_as c.settle.new.given.items c.args.given.now.items (map_files c.settle.new.files) (map_files c.add.new.files) (map_files c.args.files.now)
    c.in_ok-of.field-0 c.in_ok-copy_of.field-0 c.args.name.now c.args.bytes.now c.in_ok-of.ensures c.in_ok-copy_of.ensures
    c.in_ok-settle.ensures.ok c.settle.ensures.same)
    c.add.ensures.ok
