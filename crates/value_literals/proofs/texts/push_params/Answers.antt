use Rattle.std.proofs.Common.{string_bytes}
use Rattle.value_literals.proofs.Steps.{next_param}
use Rattle.value_literals.proofs.texts.push_params.Goals as goal

pub loop-param-preserved : goal.loop-param-preserved
loop-param-preserved c = next_param c.args.params.now c.loop-param.param-index (string_bytes c.loop-param.out) _ _ c.loop-param-test.true c.in_ok-push_str.ensures.bytes c.loop-param.invariant
