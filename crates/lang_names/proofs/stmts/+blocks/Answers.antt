use Rattle.std.proofs.Common.{◌≡◌, Result, Err, map, sym, subst, arith}
use Rattle.lang_names.specs.declared.wrong.NameFault.{NameFault}
use Rattle.lang_names.specs.Settings.{known_of}
use Rattle.lang_names.specs.Stmts.{Rights, block_right, passing}
use Rattle.lang_names.proofs.Blocks.{blocked}
use Rattle.lang_names.proofs.stmts.+blocks.Goals as goal

pub check_block-returns-in_err-check_stmt-clause-told : goal.check_block-returns-in_err-check_stmt-clause-told
check_block-returns-in_err-check_stmt-clause-told t c =
    let e : c.from_residual.result ≡ Err c.in_err-check_stmt.field-0.0 = grind (arith, c.from_residual.ensures) in
    subst (λ (r : Result (Unit {0}) NameFault). Rights (block_right (map (passing (known_of c.args.setting.now)) c.args.stmts.now) c.args.scope.now) r) (sym e)
    (blocked (known_of c.args.setting.now) c.args.stmts.now c.args.scope.now c.loop-stmt.scope c.check_stmt.new.scope c.loop-stmt.stmt-index c.stmt-item.result c.in_err-check_stmt.field-0.0
    c.loop-stmt.invariant.0 c.loop-stmt-test.true c.stmt-item.is c.in_err-check_stmt.ensures.told)
