use Rattle.std.proofs.Common.{◌∙◌}
use Rattle.aug_base.specs.MapOfFiles.{map_files}
use Rattle.aug_base.proofs.Places.{found_at, missing_at}
use Rattle.aug_base.proofs.mem_shelf.MemShelf.file.Goals as goal

pub returns-then-at-given : goal.returns-then-at-given
returns-then-at-given c =
    found_at _ _ _ _ (map_files c.args.self.now.files) c.find-at.result c.index-given-at.result c.as_slice-given.ensures.value c.find-at.ensures c.if-at-given.true c.as_slice.ensures

pub returns-else-at-given : goal.returns-else-at-given
returns-else-at-given c =
    c.found.ensures
    ∙ missing_at c.args.name.now _ _ (map_files c.args.self.now.files) c.find-at.result c.as_slice-given.ensures.value c.find-at.ensures c.if-at-given.false
