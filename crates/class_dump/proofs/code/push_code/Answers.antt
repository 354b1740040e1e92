use Rattle.std.proofs.Common.{◌++◌, string_bytes, rules}
use Rattle.class_dump.specs.Dump.{code_lines}
use Rattle.class_dump.proofs.Lines.{ended}
use Rattle.class_dump.proofs.code.push_code.Goals as goal

pub returns : goal.returns
returns c =
    ended (string_bytes c.loop-rest.out) (string_bytes c.args.out.now ++ code_lines 0 0 c.args.code.now) c.loop-rest.pc c.loop-rest.rest.now (search rules) c.loop-rest.invariant.0
