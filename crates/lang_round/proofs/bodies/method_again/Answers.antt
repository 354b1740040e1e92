use Rattle.std.proofs.Common.{List, ℕ, subst}
use Rattle.lang_print.specs.Canonical.{text_of}
use Rattle.step_lang.specs.Language.{IsMethodOf}
use Rattle.lang_round.proofs.bodies.method_again.Goals as goal

pub returns-clause-reads_back : goal.returns-clause-reads_back
returns-clause-reads_back c = λ names recorder method m text u h. record { sentence = c.text_again.ensures.methods names recorder method m.stmts text u h.sentence h.named; named = h.named }

pub returns-clause-told_apart : goal.returns-clause-told_apart
returns-clause-told_apart c = λ names recorder method x y s t u v h g same.
    c.one_method.ensures.one_tree names recorder method (text_of names y.stmts) x y
    (subst (λ (w : List ℕ). IsMethodOf names recorder method x w) same (record { sentence = c.text_again.ensures.methods names recorder method x.stmts s u h.sentence h.named; named = h.named }))
    (record { sentence = c.text_again.ensures.methods names recorder method y.stmts t v g.sentence g.named; named = g.named })
