-- One turn of the lexer.
use Rattle.std.proofs.Common.{◌≡◌, ℕ, suc, ◌<◌, Bool, false, List, [], ◌∷◌, ◌++◌, length, Option, Some, None, refl, sym, ap, ◌∙◌, arith}
use Rattle.lang_lexer.specs.declared.token.Token.{Token}
use Rattle.lang_lexer.specs.Tokens.{go_on, tokens_from, skip, token}

go_none : (next : List Token → List ℕ → List Token × Bool) (found : List Token) (bs : List ℕ) → 0 < length bs → go_on next found bs None ≡ (found, false)
go_none next found [] some = absurd (omega arith)
go_none next found (b ∷ bs) some = refl

go_some : (next : List Token → List ℕ → List Token × Bool) (found : List Token) (bs : List ℕ) (x : Token × List ℕ) → 0 < length bs → go_on next found bs (Some x) ≡ next (found ++ x.0 ∷ []) x.1
go_some next found [] x some = absurd (omega arith)
go_some next found (b ∷ bs) x some = refl

turn_is : (turns : ℕ) (found : List Token) (bs front : List ℕ) (t : Option (Token × List ℕ)) → front ≡ skip bs → t ≡ token front → tokens_from (suc turns) found bs ≡ go_on (tokens_from turns) found front t
unfolding tokens_from
turn_is turns found bs front t a c = let e = c ∙ ap token a in ap (λ (w : List ℕ). go_on (tokens_from turns) found w (token (skip bs))) (sym a) ∙ ap (go_on (tokens_from turns) found front) (sym e)

pub turn_none : (turns : ℕ) (found : List Token) (bs front : List ℕ) (t : Option (Token × List ℕ)) → front ≡ skip bs → t ≡ token front → t ≡ None → 0 < length front → tokens_from (suc turns) found bs ≡ (found, false)
turn_none turns found bs front t a c e some = turn_is turns found bs front t a c ∙ ap (go_on (tokens_from turns) found front) e ∙ go_none (tokens_from turns) found front some

pub turn_some : (turns : ℕ) (found : List Token) (bs front : List ℕ) (t : Option (Token × List ℕ)) (x : Token × List ℕ) → front ≡ skip bs → t ≡ token front → t ≡ Some x → 0 < length front
    → tokens_from (suc turns) found bs ≡ tokens_from turns (found ++ x.0 ∷ []) x.1
turn_some turns found bs front t x a c e some = turn_is turns found bs front t a c ∙ ap (go_on (tokens_from turns) found front) e ∙ go_some (tokens_from turns) found front x some
