use Rattle.build_history.specs.Jobs.{decl_at, body_at, meaning_at}
use Rattle.build_history.proofs.laws.meanings_are_bounded.Goals as goal

pub returns : goal.returns
unfolding meaning_at
returns c = λ job step lists all. c.outcomes_are_bounded.ensures job.names (decl_at job step) step (body_at job step) (record { lists = lists }) all
