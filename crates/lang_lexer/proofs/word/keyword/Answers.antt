use Rattle.std.proofs.Common.{◌≡◌, true, false, sym, ◌∙◌}
use Rattle.lang_lexer.proofs.Keywords.{found, none_likely, other_word}
use Rattle.lang_lexer.proofs.word.keyword.Goals as goal

pub returns-in-None : goal.returns-in-None
returns-in-None c = sym (none_likely c.args.word.now (sym c.likely.ensures ∙ c.in-None.is))

pub returns-then-are_letters : goal.returns-then-are_letters
returns-then-are_letters c = sym (found c.args.word.now c.in-Some.mark (sym c.likely.ensures ∙ c.in-Some.is) (c.are_letters.ensures.0 c.if-are_letters.true ∙ c.as_bytes.ensures.value ∙ c.written.ensures))

pub returns-else-are_letters : goal.returns-else-are_letters
returns-else-are_letters c =
    sym (other_word c.args.word.now c.in-Some.mark (sym c.likely.ensures ∙ c.in-Some.is) (λ is.
    let same : c.are_letters.result ≡ true = c.are_letters.ensures.1 (is ∙ sym (c.as_bytes.ensures.value ∙ c.written.ensures)) in
    let other : c.are_letters.result ≡ false = c.if-are_letters.false in cc))
