use Rattle.std.proofs.Common.{◌∙◌, sym, map-id}
use Rattle.std.proofs.lemmas.Iterator.{YieldsList-from_chars}
use Rattle.std.proofs.lemmas.Iterator.Consumers.{YieldsList-end}
use Rattle.lang_lexer.proofs.chars.chars_of.Goals as goal

pub returns-clause-all : goal.returns-clause-all
returns-clause-all c =
    let done = YieldsList-end (YieldsList-from_chars c.args.text.now c.utf8.text cc) c.loop-c.yielded _ c.loop-c.yielded_by _ _ c.in-None.is c.next.ensures.steps in
    c.loop-c.invariant ∙ sym (map-id c.loop-c.yielded) ∙ done.0
