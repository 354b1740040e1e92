use Rattle.std.proofs.Common.{arith}
use Rattle.class_code.proofs.Only.{counted_by}
use Rattle.class_code.proofs.instruction.decode.Goals as goal

pub returns-clause-size : goal.returns-clause-size
returns-clause-size c = counted_by (λ x. (x.0, x.1.now)) c.args.bytes.now c.instruction_at.result (λ i. omega (arith, c.type_inv.bytes i)) c.instruction_at.ensures
