use Rattle.std.proofs.Common.{◌≡◌, take, option_map}
use Rattle.aug_base.specs.Files.{with_files}
use Rattle.quarkus_cli.proofs.delivery.write_files.Given as goal

-- the files before this one are written, and nothing has failed
abbrev pub invariant-loop-file : goal.invariant-loop-file
invariant-loop-file g l =
    let first = g.S.Shelf.state l.initial.shelf in
    let now = g.S.Shelf.state l.shelf in
    (now.read_faults ≡ first.read_faults) × (now.write_faults ≡ first.write_faults)
    × (now.files ≡ option_map (with_files (take l.file-index l.files)) first.files)
