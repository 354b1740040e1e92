use Rattle.class_grammar.specs.Bytes.{class_bytes}
use Rattle.class_valid.proofs.ValidExactly.{valid_spelled}
use Rattle.class_valid.proofs.ValidOnly.{valid_only}
use Rattle.class_valid.proofs.law.valid_exactly.Goals as goal

pub returns-clause-exactly : goal.returns-clause-exactly
returns-clause-exactly c = λ k. (λ h. (class_bytes k, valid_spelled k h), λ s. valid_only k s.0 s.1)

pub returns-clause-bytes : goal.returns-clause-bytes
returns-clause-bytes c = valid_spelled
