use Rattle.std.proofs.Common.{◌≡◌, map, drop}
use Rattle.startup_rules.specs.Methods.{doing, run, turns}
use Rattle.method_exec.proofs.statement.+exec.Given as goal

abbrev pub invariant-execute_all-loop-stmt : goal.invariant-execute_all-loop-stmt
invariant-execute_all-loop-stmt l =
    run (map (doing l.cx) l.stmts) l.initial.env l.initial.world ≡ run (map (doing l.cx) (drop l.stmt-index l.stmts)) l.env l.world

abbrev pub invariant-execute_turns-loop-item : goal.invariant-execute_turns-loop-item
invariant-execute_turns-loop-item l =
    turns l.cx l.name l.items (map (doing l.cx) l.stmts) l.initial.env l.initial.world
    ≡ turns l.cx l.name (drop l.item-index l.items) (map (doing l.cx) l.stmts) l.env l.world
