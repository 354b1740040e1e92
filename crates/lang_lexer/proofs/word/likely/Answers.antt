use Rattle.std.proofs.Common.{◌≡◌, ◌≤◌, ℕ, List, [], ◌∷◌, length, get_or, ap, ◌∙◌, arith}
use Rattle.lang_lexer.specs.Words.{likely, by_letters}
use Rattle.lang_lexer.proofs.word.likely.Goals as goal

three : (w : List ℕ) (a c : ℕ) → 3 ≤ length w → a ≡ get_or w 0 a → c ≡ get_or w 2 c → by_letters a c ≡ likely w
three [] a c long first third = absurd (omega arith)
three (x ∷ []) a c long first third = absurd (omega arith)
three (x ∷ y ∷ []) a c long first third = absurd (omega arith)
three (x ∷ y ∷ z ∷ w) a c long first third = ap (λ k. by_letters k c) first ∙ ap (by_letters x) third

pub returns-in-len3-up : goal.returns-in-len3-up
returns-in-len3-up c = c.by_letters.ensures ∙ three c.args.word.now c.first-item.result c.third-item.result c.in-len3-up.len_at_least c.first-item.is c.third-item.is
