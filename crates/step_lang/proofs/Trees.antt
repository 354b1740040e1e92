-- Truth values, and what holds of the trees of a form, whatever their tokens are.
use Rattle.std.proofs.Common.{◌≡◌, ℕ, Bool, true, false, List, [], ◌∷◌, map, refl}
use Rattle.std.specs.Prelude.{◌&&◌}
use Rattle.std.specs.List.{list_all}
use Rattle.lang_lexer.specs.declared.token.Mark.{Mark}
use Rattle.lang_lexer.specs.declared.token.Mark.TheVariants.{Comma}
use Rattle.lang_lexer.specs.declared.token.Token.{Token}
use Rattle.lang_grammar.specs.Place.{is}
use Rattle.lang_grammar.specs.Forms.{Form, listing, signed, chain}
use Rattle.lang_grammar.proofs.CallerLemmas.{Holds, holds_give, holds_form, holds_last, holds_sign, holds_optional, holds_choose, Parts, holds_more}

pub and_true : (a b : Bool) → a ≡ true → b ≡ true → (a && b) ≡ true
and_true true b p q = q
and_true false b p q = absurd cc

pub all_mapped : {A : Type 0} (f : A → Bool) (xs : List A) → list_all (λ b. b) (map f xs) ≡ true → list_all f xs ≡ true
all_mapped f [] h = refl
all_mapped f (x ∷ xs) h = by (f x) (list_all (λ b. b) (map f xs)) (list_all f xs) h (all_mapped f xs)
  where
    by : (a b c : Bool) → (a && b) ≡ true → (b ≡ true → c ≡ true) → (a && c) ≡ true
    by true b c h g = g h
    by false b c h g = absurd cc

module _ {A : Type 0} (Q : A → Type 0) where
  abbrev pub Tree : A → List Token → Type 0
  Tree x us = Q x

  abbrev pub Each : List A → Type 0
  Each [] = Unit {0}
  Each (x ∷ xs) = Q x × Each xs

  each_part : (ys : List A) (zs : List Token) → Parts Tree ys zs → Each ys
  each_part [] zs h = tt
  each_part (y ∷ ys) zs h = (h.3, each_part ys h.1 h.4)

  pub holds_listed : {part : Form A} (n : ℕ) (close : Mark) → Holds part Tree → Holds (listing n close part) (λ ys zs. Each ys)
  holds_listed {part} n close h =
      holds_choose (is close) (holds_sign n close (λ _. holds_give [] tt))
      (holds_form h (λ x us q.
      holds_form {Q = λ ys zs. Each ys} (holds_more {Q = Tree} (is Comma) (x ∷ []) (holds_sign n Comma (λ _. h)) (λ ys zs i. (q, each_part ys zs i))) (λ ys vs r.
      holds_sign n close (λ _. holds_give ys r))))

  each_pair : (ys : List (ℕ × A)) (zs : List Token) → Parts (λ z us. Q z.1) ys zs → Each (map (λ z. z.1) ys)
  each_pair [] zs h = tt
  each_pair (y ∷ ys) zs h = (h.3, each_pair ys h.1 h.4)

  signed_tree : {part : Form A} (n : ℕ) (m : Mark) → Holds part Tree → Holds (signed n m part) (λ z us. Q z.1)
  signed_tree n m h = holds_sign n m (λ s. holds_last {Q = Tree} (λ y. (s, y)) h (λ y us q. q))

  pub holds_chained : {part : Form A} (n : ℕ) (m : Mark) (make : List A → List ℕ → A) → ((parts : List A) (signs : List ℕ) → Each parts → Q (make parts signs)) → Holds part Tree → Holds (chain n m make part) Tree
  holds_chained n m make made h =
      holds_form h (λ x us q.
      holds_optional (is m) x
      (holds_form (signed_tree n m h) (λ y vs r.
      holds_last {Q = λ ys zs. Each (map (λ z. z.1) ys)} (λ ys. make (x ∷ map (λ z. z.1) ys) (map (λ z. z.0) ys))
      (holds_more (is m) (y ∷ []) (signed_tree n m h) (λ ys zs i. (r, each_pair ys zs i)))
      (λ ys zs i. made (x ∷ map (λ z. z.1) ys) (map (λ z. z.0) ys) (q, i))))
      q)
