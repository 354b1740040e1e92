use Rattle.std.proofs.Common.{string_bytes}
use Rattle.std.proofs.lemmas.List.{take_rest}
use Rattle.command_words.proofs.Asked.{unread}
use Rattle.command_words.proofs.words.read_words.Goals as goal

pub returns-in-Err-clause-value : goal.returns-in-Err-clause-value
returns-in-Err-clause-value c = unread string_bytes c.args.words.now c.in-Err.fault c.in-len1-up.len_at_least (rw (take_rest c.args.words.now 1) at c.in-Err.ensures)
