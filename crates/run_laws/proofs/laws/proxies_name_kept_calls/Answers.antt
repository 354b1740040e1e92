use Rattle.run_laws.proofs.Plays.{names_kept}
use Rattle.run_laws.proofs.laws.proxies_name_kept_calls.Goals as goal

pub returns : goal.returns
returns c = names_kept (λ steps s t q. (c.kept_puts_are_effective.ensures steps s t).0 q) (λ job s lists puts calls q. c.recordings_are_sound.ensures job s lists puts calls q)
