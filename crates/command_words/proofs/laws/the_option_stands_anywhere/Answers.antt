use Rattle.command_words.proofs.WordLaws.{next, joined, left_out, no_value}
use Rattle.command_words.proofs.laws.the_option_stands_anywhere.Goals as goal

pub returns : goal.returns
returns c = record { next = next; joined = joined; left_out = left_out; no_value = no_value }
