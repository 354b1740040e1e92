use Rattle.startup_rules.specs.Methods.{meaning_of_a_method}
use Rattle.startup_rules.proofs.Keeping.{method_adds, kind_kept}
use Rattle.startup_rules.proofs.laws.methods_keep_kinds.Goals as goal

pub returns : goal.returns
returns c = λ cx stmts env w. (kind_kept w (meaning_of_a_method cx stmts env w).1 (method_adds cx stmts env w), method_adds cx stmts env w)
