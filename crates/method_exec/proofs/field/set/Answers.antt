use Rattle.method_exec.proofs.Fields.{set_fails}
use Rattle.method_exec.proofs.field.set.Goals as goal

pub returns-in-Err : goal.returns-in-Err
returns-in-Err c =
    set_fails c.args.cx.now.within c.args.target.now c.args.v c.args.name.now c.args.at c.args.world.now c.in-Some.object.now c.in-Err.stop c.names.result.now c.as_str.result.now c.in-Some.ensures c.names.ensures c.as_str.ensures c.in-Err.ensures.value
