-- The lexer's tokens are the tokens of the text, one longest token behind the other.
use Rattle.std.proofs.Common.{◌≡◌, ℕ, zero, suc, ◌+◌, ◌<◌, ◌≤◌, Bool, true, false, List, [], ◌∷◌, ◌++◌, length, refl, sym, ap, subst, ◌∙◌, arith, append_assoc, length-append, take, drop}
use Rattle.std.specs.Prelude.{Option, Some, None}
use Rattle.std.proofs.lemmas.List.{append-nil, take_at, drop_at}
use Rattle.lang_lexer.specs.declared.token.Token.{Token}
use Rattle.lang_lexer.specs.Tokens.{token, is_blank, skip, go_on, tokens_from, tokens}
use Rattle.lang_lexer.specs.Kinds.{IsToken, IsLongest, AreTokens, over, stuck, more}
use Rattle.lang_lexer.proofs.Written.{Takes, takes, one_token, if_true, if_false, some_none}
use Rattle.lang_lexer.proofs.Taken.{longest_is, none_is}

skip_by : (c : ℕ) (cs : List ℕ) → length (skip cs) ≤ length cs → (b : Bool) → is_blank c ≡ b → length (skip (c ∷ cs)) ≤ length (c ∷ cs)
skip_by c cs h true e = let f : length (skip (c ∷ cs)) ≡ length (skip cs) = ap length (if_true (is_blank c) (skip cs) (c ∷ cs) e) in omega (arith, h, f)
skip_by c cs h false e = let f : length (skip (c ∷ cs)) ≡ length (c ∷ cs) = ap length (if_false (is_blank c) (skip cs) (c ∷ cs) e) in omega (arith, f)

skip_short : (cs : List ℕ) → length (skip cs) ≤ length cs
skip_short [] = omega arith
skip_short (c ∷ cs) = skip_by c cs (skip_short cs) (is_blank c) refl

none_empty : (t : Token) → Takes t [] [] → ⊥
none_empty t h = some_none (h.found, h.rest) (sym h.reads)

some_word : (t : Token) (w : List ℕ) → IsToken t w → 0 < length w
some_word t [] h = absurd (none_empty t (takes t [] [] h))
some_word t (c ∷ cs) h = omega arith

shorter : (t : Token) (cs rest : List ℕ) → IsLongest t cs rest → length rest < length cs
shorter t cs rest h =
    let a : length cs ≡ length h.word + length rest = ap length h.begins ∙ length-append h.word rest in
    let b : 0 < length h.word = some_word t h.word h.is in
    omega (arith, a, b)

go_is : (turns : ℕ) (found : List Token) (cs front : List ℕ) (t : Option (Token × List ℕ)) → skip cs ≡ front → token front ≡ t → tokens_from (suc turns) found cs ≡ go_on (tokens_from turns) found front t
unfolding tokens_from
go_is turns found cs front t e f = ap (λ w. go_on (tokens_from turns) found w (token w)) e ∙ ap (go_on (tokens_from turns) found front) f

record Lexed (found : List Token) (cs : List ℕ) (x : List Token × Bool) : Type 0 where
  ts : List Token
  all : x.0 ≡ found ++ ts
  are : AreTokens cs ts x.1

module _ (turns : ℕ) (ih : (found : List Token) (rest : List ℕ) → length rest < turns → Lexed found rest (tokens_from turns found rest)) (found : List Token) (cs : List ℕ) (enough : length cs < suc turns) where
  lexed_by : (front : List ℕ) (t : Option (Token × List ℕ)) → skip cs ≡ front → token front ≡ t → Lexed found cs (go_on (tokens_from turns) found front t)
  lexed_by [] t e f = record { ts = []; all = sym (append-nil found); are = over cs e }
  lexed_by (c ∷ fs) None e f = record {
    ts = [];
    all = sym (append-nil found);
    are = stuck cs (let l : length (skip cs) ≡ length (c ∷ fs) = ap length e in omega (arith, l)) (λ u w v is parts. none_is (c ∷ fs) f u w v is (sym e ∙ parts));
  }
  lexed_by (c ∷ fs) (Some x) e f =
      let longest : IsLongest x.0 (skip cs) x.1 = subst (λ y. IsLongest x.0 y x.1) (sym e) (longest_is (c ∷ fs) x f) in
      let less : length x.1 < length (skip cs) = shorter x.0 (skip cs) x.1 longest in
      let short : length (skip cs) ≤ length cs = skip_short cs in
      let h : Lexed (found ++ x.0 ∷ []) x.1 (tokens_from turns (found ++ x.0 ∷ []) x.1) = ih (found ++ x.0 ∷ []) x.1 (omega (arith, less, short, enough)) in
      record {
        ts = x.0 ∷ h.ts;
        all = h.all ∙ append_assoc found (x.0 ∷ []) h.ts;
        are = more cs x.1 x.0 h.ts (tokens_from turns (found ++ x.0 ∷ []) x.1).1 longest h.are;
      }

lexed : (turns : ℕ) (found : List Token) (cs : List ℕ) → length cs < turns → Lexed found cs (tokens_from turns found cs)
lexed zero found cs enough = absurd (omega (arith, enough))
lexed (suc turns) found cs enough =
    subst (λ x. Lexed found cs x) (sym (go_is turns found cs (skip cs) (token (skip cs)) refl refl)) (lexed_by turns (lexed turns) found cs enough (skip cs) (token (skip cs)) refl refl)

pub are_tokens : (cs : List ℕ) → AreTokens cs (tokens cs).0 (tokens cs).1
unfolding tokens
are_tokens cs = let h : Lexed [] cs (tokens_from (length cs + 1) [] cs) = lexed (length cs + 1) [] cs (omega arith) in subst (λ ts. AreTokens cs ts (tokens_from (length cs + 1) [] cs).1) (sym h.all) h.are

-- ---- and no others

record Same (t u : Token) (r s : List ℕ) : Type 0 where
  token_is : t ≡ u
  rest_is : r ≡ s

one_longest : (cs r s : List ℕ) (t u : Token) → IsLongest t cs r → IsLongest u cs s → Same t u r s
one_longest cs r s t u a b =
    let l : length b.word ≤ length a.word = a.longest u b.word s b.is b.begins in
    let m : length a.word ≤ length b.word = b.longest t a.word r a.is a.begins in
    let n : length a.word ≡ length b.word = omega (arith, l, m) in
    let parts : a.word ++ r ≡ b.word ++ s = sym a.begins ∙ b.begins in
    let w : a.word ≡ b.word = sym (take_at a.word r (length b.word) n) ∙ ap (take (length b.word)) parts ∙ take_at b.word s (length b.word) refl in
    record {
      token_is = one_token t u b.word (subst (λ y. IsToken t y) w a.is) b.is;
      rest_is = sym (drop_at a.word r (length b.word) n) ∙ ap (drop (length b.word)) parts ∙ drop_at b.word s (length b.word) refl;
    }

none_by : (cs : List ℕ) → ((u : Token) (w v : List ℕ) → IsToken u w → cs ≡ w ++ v → ⊥) → (o : Option (Token × List ℕ)) → token cs ≡ o → o ≡ None
none_by cs h None e = refl
none_by cs h (Some x) e = let l : IsLongest x.0 cs x.1 = longest_is cs x e in absurd (h x.0 l.word x.1 l.is l.begins)

some_by : (cs rest : List ℕ) (t : Token) → IsLongest t cs rest → (o : Option (Token × List ℕ)) → token cs ≡ o → o ≡ Some (t, rest)
some_by cs rest t h None e = absurd (none_is cs e t h.word rest h.is h.begins)
some_by cs rest t h (Some x) e =
    let s : Same x.0 t x.1 rest = one_longest cs x.1 rest x.0 t (longest_is cs x e) h in
    ap (λ y. Some (y, x.1)) s.token_is ∙ ap (λ y. Some (t, y)) s.rest_is

go_none : (turns : ℕ) (found : List Token) (front : List ℕ) → 0 < length front → go_on (tokens_from turns) found front None ≡ (found, false)
go_none turns found [] some = absurd (omega (arith, some))
go_none turns found (c ∷ cs) some = refl

go_some : (turns : ℕ) (found : List Token) (front rest : List ℕ) (t : Token) → 0 < length front → go_on (tokens_from turns) found front (Some (t, rest)) ≡ tokens_from turns (found ++ t ∷ []) rest
go_some turns found [] rest t some = absurd (omega (arith, some))
go_some turns found (c ∷ cs) rest t some = refl

only_from : (turns : ℕ) (found : List Token) (cs : List ℕ) (ts : List Token) (whole : Bool) → length cs < turns → AreTokens cs ts whole → tokens_from turns found cs ≡ (found ++ ts, whole)
only_from zero found cs ts whole enough h = absurd (omega (arith, enough))
only_from (suc turns) found cs ts whole enough (over c e) = go_is turns found c [] (token []) e refl ∙ ap (λ x. (x, true)) (sym (append-nil found))
only_from (suc turns) found cs ts whole enough (stuck c some h) =
    go_is turns found c (skip c) None refl (none_by (skip c) h (token (skip c)) refl) ∙ go_none turns found (skip c) some ∙ ap (λ x. (x, false)) (sym (append-nil found))
only_from (suc turns) found cs ts whole enough (more c rest t us w longest h) =
    let less : length rest < length (skip c) = shorter t (skip c) rest longest in
    let short : length (skip c) ≤ length c = skip_short c in
    go_is turns found c (skip c) (Some (t, rest)) refl (some_by (skip c) rest t longest (token (skip c)) refl)
    ∙ go_some turns found (skip c) rest t (omega (arith, less))
    ∙ only_from turns (found ++ t ∷ []) rest us w (omega (arith, less, short, enough)) h ∙ ap (λ x. (x, w)) (append_assoc found (t ∷ []) us)

pub only_tokens : (cs : List ℕ) (ts : List Token) (whole : Bool) → AreTokens cs ts whole → tokens cs ≡ (ts, whole)
unfolding tokens
only_tokens cs ts whole h = only_from (length cs + 1) [] cs ts whole (omega arith) h
