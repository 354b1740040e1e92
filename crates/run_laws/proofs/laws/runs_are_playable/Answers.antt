use Rattle.run_laws.proofs.Plays.{playable}
use Rattle.run_laws.proofs.laws.runs_are_playable.Goals as goal

pub returns : goal.returns
returns c = playable (λ steps s t q. (c.kept_puts_are_effective.ensures steps s t).0 q) (λ job s lists puts calls q. c.recordings_are_sound.ensures job s lists puts calls q)
