use Rattle.std.proofs.Common.{◌≡◌, drop, map}
use Rattle.lang_names.specs.Settings.{known_of}
use Rattle.lang_names.specs.Stmts.{run, passing, Extends}
use Rattle.lang_names.proofs.stmts.+blocks.Given as goal

abbrev pub invariant-check_block-loop-stmt : goal.invariant-check_block-loop-stmt
invariant-check_block-loop-stmt l =
    (run (map (passing (known_of l.setting)) l.stmts) l.fn.scope ≡ run (map (passing (known_of l.setting)) (drop l.stmt-index l.stmts)) l.scope)
    × Extends l.fn.scope l.scope
