use Rattle.class_code.proofs.Methods.{method_read_back, method_length}
use Rattle.class_code.proofs.law.method_reads_back.Goals as goal

pub returns-clause-read : goal.returns-clause-read
returns-clause-read c = method_read_back

pub returns-clause-size : goal.returns-clause-size
returns-clause-size c = method_length
