use Rattle.method_exec.proofs.Fields.{field_of_fails}
use Rattle.method_exec.proofs.field.field_of.Goals as goal

pub returns-in-Err : goal.returns-in-Err
returns-in-Err c =
    field_of_fails c.args.cx.now.within c.args.v.now c.args.name.now c.args.at c.args.world.now c.in-Some.object.now c.in-Err.stop c.names.result.now c.as_str.result.now c.in-Some.ensures c.names.ensures c.as_str.ensures c.in-Err.ensures.value
