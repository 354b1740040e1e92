use Rattle.command_words.proofs.WordLaws.{plain_words, ended_words, refused_words}
use Rattle.command_words.proofs.laws.operands_are_the_files.Goals as goal

pub returns : goal.returns
returns c = record { plain = plain_words; ended = ended_words; refused = refused_words }
