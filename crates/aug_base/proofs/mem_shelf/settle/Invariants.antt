use Rattle.std.proofs.Common.{◌≡◌, vec_len}
use Rattle.aug_base.specs.MapOfFiles.{files_over, map_files}
use Rattle.aug_base.proofs.mem_shelf.settle.Given as goal

-- what is still to be put, over what was put, is what there was
abbrev pub invariant-loop-file : goal.invariant-loop-file
invariant-loop-file l =
    files_over l.given.items (map_files l.files) ≡ files_over l.initial.given.items (map_files l.initial.files)

abbrev pub decreases-loop-file : goal.decreases-loop-file
decreases-loop-file l = vec_len l.given
