use Rattle.std.proofs.Common.{List, ℕ, subst}
use Rattle.lang_print.specs.Canonical.{text_of}
use Rattle.step_lang.specs.Language.{IsBodyOf}
use Rattle.lang_round.proofs.bodies.body_again.Goals as goal

pub returns-clause-reads_back : goal.returns-clause-reads_back
returns-clause-reads_back c = λ names decl b text u h. record { sentence = c.text_again.ensures.bodies names decl b.stmts text u h.sentence h.named; named = h.named }

pub returns-clause-told_apart : goal.returns-clause-told_apart
returns-clause-told_apart c = λ names decl x y s t u v h g same.
    c.one_body.ensures.one_tree names decl (text_of names y.stmts) x y
    (subst (λ (w : List ℕ). IsBodyOf names decl x w) same (record { sentence = c.text_again.ensures.bodies names decl x.stmts s u h.sentence h.named; named = h.named }))
    (record { sentence = c.text_again.ensures.bodies names decl y.stmts t v g.sentence g.named; named = g.named })
