use Rattle.std.proofs.Common.{◌≡◌, map, drop}
use Rattle.step_eval.specs.Statements.{doing, run, turns}
use Rattle.step_eval.proofs.statement.+exec.Given as goal

abbrev pub invariant-execute_all-loop-stmt : goal.invariant-execute_all-loop-stmt
invariant-execute_all-loop-stmt l = run (map (doing l.cx) l.stmts) l.fn.state ≡ run (map (doing l.cx) (drop l.stmt-index l.stmts)) l.state

abbrev pub invariant-execute_turns-loop-value : goal.invariant-execute_turns-loop-value
invariant-execute_turns-loop-value l =
    turns l.name l.values (map (doing l.cx) l.stmts) l.fn.state ≡ turns l.name (drop l.value-index l.values) (map (doing l.cx) l.stmts) l.state
