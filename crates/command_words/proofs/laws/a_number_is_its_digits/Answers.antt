use Rattle.command_words.proofs.Numbers.{spelled, spells}
use Rattle.command_words.proofs.laws.a_number_is_its_digits.Goals as goal

pub returns : goal.returns
returns c = record { spelled = spelled; spells = spells }
