-- Forms whose good trees print as their tokens.
use Rattle.std.proofs.Common.{◌≡◌, ℕ, true, false, List, [], ◌∷◌, ◌++◌, map, refl, sym, ap, ◌∙◌, append_assoc}
use Rattle.std.proofs.lemmas.List.{append-nil}
use Rattle.lang_lexer.specs.declared.token.Mark.{Mark}
use Rattle.lang_lexer.specs.declared.token.Mark.TheVariants.{Comma}
use Rattle.lang_lexer.specs.declared.token.Token.{Token}
use Rattle.lang_lexer.specs.declared.token.Token.TheVariants.{Sign}
use Rattle.lang_grammar.specs.Place.{is}
use Rattle.lang_grammar.specs.Forms.{Form, sign, ◌⟫=◌, listing, signed, chain}
use Rattle.lang_grammar.proofs.CallerLemmas.{Holds, holds_as, holds_give, holds_form, holds_last, holds_sign, holds_optional, holds_choose, Parts, holds_more}
use Rattle.lang_print.specs.Tokens.{parted}

module _ {A : Type 0} (Good : A → Type 0) (pr : A → List Token) where
  abbrev pub Prints : A → List Token → Type 0
  Prints x xs = Good x → pr x ≡ xs

  abbrev pub AllGood : List A → Type 0
  AllGood [] = Unit {0}
  AllGood (x ∷ xs) = Good x × AllGood xs

  parts_signed : (m : Mark) (ys : List A) (zs : List Token) → Parts (λ x us. Good x → Sign m ∷ pr x ≡ us) ys zs → AllGood ys → parted m true (map pr ys) ≡ zs
  parts_signed m [] zs h g = sym h
  parts_signed m (y ∷ ys) zs h g = ap (λ w. w ++ parted m true (map pr ys)) (h.3 g.0) ∙ ap (λ w. h.0 ++ w) (parts_signed m ys h.1 h.4 g.1) ∙ sym h.2

  first_then : (m : Mark) (x : A) (ys : List A) (us zs : List Token) → Prints x us → Parts (λ y vs. Good y → Sign m ∷ pr y ≡ vs) ys zs → AllGood (x ∷ ys) → parted m false (map pr (x ∷ ys)) ≡ us ++ zs
  first_then m x ys us zs q h g = ap (λ w. w ++ parted m true (map pr ys)) (q g.0) ∙ ap (λ w. us ++ w) (parts_signed m ys zs h g.1)

  behind_sign : {part : Form A} (n : ℕ) (m : Mark) → Holds part Prints → Holds (sign n m ⟫= λ _. part) (λ x us. Good x → Sign m ∷ pr x ≡ us)
  behind_sign n m h = holds_sign n m (λ at. holds_as (λ x xs q g. ap (λ w. Sign m ∷ w) (q g)) h)

  pub holds_listing : {part : Form A} {P : List A → List Token → Type 0} (n : ℕ) (close : Mark) → Holds part Prints
      → ((ys : List A) (zs : List Token) → (AllGood ys → parted Comma false (map pr ys) ++ Sign close ∷ [] ≡ zs) → P ys zs) → Holds (listing n close part) P
  holds_listing {part} {P} n close h f =
      holds_choose (is close) (holds_sign n close (λ _. holds_give [] (f [] (Sign close ∷ []) (λ g. refl))))
      (holds_form h (λ x us q.
      holds_form {Q = λ ys zs. AllGood ys → parted Comma false (map pr ys) ≡ us ++ zs} (holds_more (is Comma) (x ∷ []) (behind_sign n Comma h) (λ ys zs i g. first_then Comma x ys us zs q i g)) (λ ys vs r.
      holds_sign n close (λ _. holds_give ys (f ys (us ++ (vs ++ Sign close ∷ [])) (λ g. ap (λ w. w ++ Sign close ∷ []) (r g) ∙ append_assoc us vs (Sign close ∷ [])))))))

  parts_pairs : (m : Mark) (ys : List (ℕ × A)) (zs : List Token) → Parts (λ z us. Good z.1 → Sign m ∷ pr z.1 ≡ us) ys zs → AllGood (map (λ z. z.1) ys) → parted m true (map pr (map (λ z. z.1) ys)) ≡ zs
  parts_pairs m [] zs h g = sym h
  parts_pairs m (y ∷ ys) zs h g = ap (λ w. w ++ parted m true (map pr (map (λ z. z.1) ys))) (h.3 g.0) ∙ ap (λ w. h.0 ++ w) (parts_pairs m ys h.1 h.4 g.1) ∙ sym h.2

  signed_part : {part : Form A} (n : ℕ) (m : Mark) → Holds part Prints → Holds (signed n m part) (λ z us. Good z.1 → Sign m ∷ pr z.1 ≡ us)
  signed_part n m h = holds_sign n m (λ s. holds_last (λ y. (s, y)) h (λ y us q g. ap (λ w. Sign m ∷ w) (q g)))

  pub holds_chain : {part : Form A} (n : ℕ) (m : Mark) (make : List A → List ℕ → A) → ((parts : List A) (signs : List ℕ) → pr (make parts signs) ≡ parted m false (map pr parts))
      → ((parts : List A) (signs : List ℕ) → Good (make parts signs) → AllGood parts) → Holds part Prints → Holds (chain n m make part) Prints
  holds_chain n m make made good h =
      holds_form h (λ x us q.
      holds_optional (is m) x
      (holds_form (signed_part n m h) (λ y vs r.
      holds_last {Q = λ ys zs. AllGood (map (λ z. z.1) ys) → parted m true (map pr (map (λ z. z.1) ys)) ≡ vs ++ zs} (λ ys. make (x ∷ map (λ z. z.1) ys) (map (λ z. z.0) ys))
      (holds_more (is m) (y ∷ []) (signed_part n m h) (λ ys zs i g. ap (λ w. w ++ parted m true (map pr (map (λ z. z.1) ys))) (r g.0) ∙ ap (λ w. vs ++ w) (parts_pairs m ys zs i g.1)))
      (λ ys zs i g.
      let a : AllGood (x ∷ map (λ z. z.1) ys) = good (x ∷ map (λ z. z.1) ys) (map (λ z. z.0) ys) g in
      made (x ∷ map (λ z. z.1) ys) (map (λ z. z.0) ys)
      ∙ ap (λ w. w ++ parted m true (map pr (map (λ z. z.1) ys))) (q a.0) ∙ ap (λ w. us ++ w) (i a.1))))
      (λ g. q g ∙ sym (append-nil us)))
