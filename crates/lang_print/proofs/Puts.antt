-- Tokens put one behind the other.
use Rattle.std.proofs.Common.{◌≡◌, ℕ, List, [], ◌∷◌, ◌++◌, refl, ap, sym, ◌∙◌, append_assoc}
use Rattle.std.proofs.lemmas.List.{append-nil}
use Rattle.lang_lexer.specs.declared.token.Token.{Token}
use Rattle.lang_print.specs.Canonical.{word, hugs_right, between, behind, canonical}
use Rattle.lang_print.specs.Lines.{Line, blank, put, put_all}

pub put_all_append : (xs ys : List Token) (l : Line) → put_all (xs ++ ys) l ≡ put_all ys (put_all xs l)
put_all_append [] ys l = refl
put_all_append (x ∷ xs) ys l = put_all_append xs ys (put x l)

-- two parts, one behind the other
pub put_both : (xs ys : List Token) (l m n : Line) → m ≡ put_all xs l → n ≡ put_all ys m → n ≡ put_all (xs ++ ys) l
put_both xs ys l m n p q = q ∙ ap (put_all ys) p ∙ sym (put_all_append xs ys l)

pub put_three : (xs ys zs : List Token) (l0 l1 l2 l3 : Line) → l1 ≡ put_all xs l0 → l2 ≡ put_all ys l1 → l3 ≡ put_all zs l2 → l3 ≡ put_all (xs ++ (ys ++ zs)) l0
put_three xs ys zs l0 l1 l2 l3 p q r = put_both xs (ys ++ zs) l0 l1 l3 p (put_both ys zs l1 l2 l3 q r)

-- a line that ends in this token
abbrev pub after : Token → List ℕ → Line
after t w = record { text = w; tight = hugs_right t }

put_all_behind : (t : Token) (w : List ℕ) (us : List Token) → (put_all us (after t w)).text ≡ w ++ behind t us
put_all_behind t w [] = sym (append-nil w)
put_all_behind t w (u ∷ us) =
    put_all_behind u ((w ++ between t u) ++ word u) us
    ∙ append_assoc (w ++ between t u) (word u) (behind u us)
    ∙ append_assoc w (between t u) (word u ++ behind u us)

pub put_all_text : (ts : List Token) → (put_all ts blank).text ≡ canonical ts
put_all_text [] = refl
put_all_text (t ∷ ts) = put_all_behind t (word t) ts
