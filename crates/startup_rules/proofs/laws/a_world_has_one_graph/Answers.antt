use Rattle.std.proofs.Common.{[]}
use Rattle.startup_rules.specs.Views.{rows_of, roots}
use Rattle.startup_rules.proofs.CallerLemmas.{one_answer}
use Rattle.startup_rules.proofs.laws.a_world_has_one_graph.Goals as goal

pub returns : goal.returns
returns c = λ w a b p q. one_answer (rows_of w) [] (roots w) a p b q
