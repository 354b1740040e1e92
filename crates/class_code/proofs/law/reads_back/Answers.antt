use Rattle.class_code.proofs.Whole.{read_back, length_is, size_small, size_some}
use Rattle.class_code.proofs.Only.{only}
use Rattle.class_code.proofs.law.reads_back.Goals as goal

pub returns-clause-read : goal.returns-clause-read
returns-clause-read c = read_back

pub returns-clause-only : goal.returns-clause-only
returns-clause-only c = only

pub returns-clause-size : goal.returns-clause-size
returns-clause-size c = length_is

pub returns-clause-some : goal.returns-clause-some
returns-clause-some c i = size_some i.opcode

pub returns-clause-small : goal.returns-clause-small
returns-clause-small c i = size_small i.opcode
