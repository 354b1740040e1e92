use Rattle.method_exec.proofs.Forms.{new_after}
use Rattle.method_exec.proofs.expression.+expr.Goals as goal

pub value_of-returns-in-New : goal.value_of-returns-in-New
value_of-returns-in-New t c =
    new_after c.args.cx.now c.args.env.now c.in-New.at c.in-New.bean c.in-New.fields c.as_slice.result.now c.args.e.now c.args.world.now c.value_of_new.result c.value_of_new.new.world
    c.in-New.is c.as_slice.ensures c.value_of_new.ensures
