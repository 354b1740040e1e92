use Rattle.method_exec.proofs.Fields.{static_missing}
use Rattle.method_exec.proofs.field.get_static.Goals as goal

pub returns-in-None : goal.returns-in-None
returns-in-None c =
    static_missing c.args.cx.now.within c.args.name.now c.args.world.now c.in-Some.place c.names.result.now c.recorder.result c.recorder-2.result c.as_str.result.now c.in-Some.ensures c.names.ensures c.recorder.ensures c.as_str.ensures c.in-None.ensures c.recorder-2.ensures
