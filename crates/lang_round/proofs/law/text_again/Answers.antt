use Rattle.std.proofs.Common.{true, false}
use Rattle.lang_grammar.specs.Rules.{limit}
use Rattle.lang_round.proofs.Again.{reads_again}
use Rattle.lang_round.proofs.law.text_again.Goals as goal

pub returns-clause-bodies : goal.returns-clause-bodies
returns-clause-bodies c = λ names decl b text u i g.
    reads_again c.written_tokens.ensures.again c.written_tokens.ensures.spelled true names b text u i (c.tree_tokens.ensures.bodies names decl limit b i.xs i.body g)

pub returns-clause-methods : goal.returns-clause-methods
returns-clause-methods c = λ names recorder method b text u i g.
    reads_again c.written_tokens.ensures.again c.written_tokens.ensures.spelled false names b text u i (c.tree_tokens.ensures.methods names recorder method limit b i.xs i.body g)
