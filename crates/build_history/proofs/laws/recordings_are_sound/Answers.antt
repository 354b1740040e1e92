use Rattle.build_history.specs.Jobs.{decl_at, body_at, meaning_at}
use Rattle.build_history.proofs.laws.recordings_are_sound.Goals as goal

pub returns : goal.returns
unfolding meaning_at
returns c = λ job step lists puts calls q. c.what_is_recorded_is_sound.ensures job.names (decl_at job step) step (body_at job step) (record { lists = lists }) puts calls q
