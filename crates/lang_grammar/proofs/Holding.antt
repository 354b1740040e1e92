-- What holds of each sentence of a form, word by word.
use Rattle.std.proofs.Common.{◌≡◌, ℕ, ℤ, zero, suc, ◌+◌, inl, inr, Bool, true, false, List, [], ◌∷◌, ◌++◌, length, sym, ap, subst, ◌∙◌, refl}
use Rattle.std.proofs.lemmas.List.{append-nil}
use Rattle.lang_lexer.specs.declared.token.Mark.{Mark}
use Rattle.lang_lexer.specs.declared.token.Token.{Token}
use Rattle.lang_lexer.specs.declared.token.Token.TheVariants.{Sign, Number, Str, Name}
use Rattle.lang_grammar.specs.Forms.{Form, nothing, give, number_here, sign, name, number, text, ◌⟫=◌, by_first, optional, choose, AreAll, more, allowed, opening}

-- each tree of the form and its tokens are so
pub record Holds {A : Type 0} (F : Form A) (P : A → List Token → Type 0) : Type 0 where
  pub all : (k : ℕ) (x : A) (xs : List Token) → F.Is k x xs → P x xs

pub holds_as : {A : Type 0} {F : Form A} {P Q : A → List Token → Type 0} → ((x : A) (xs : List Token) → Q x xs → P x xs) → Holds F Q → Holds F P
holds_as f h = record { all = λ k x xs i. f x xs (h.all k x xs i) }

pub holds_nothing : {A : Type 0} {P : A → List Token → Type 0} (n : ℕ) → Holds (nothing n) P
holds_nothing n = record { all = λ k x xs i. absurd i }

pub holds_give : {A : Type 0} {P : A → List Token → Type 0} (y : A) → P y [] → Holds (give y) P
holds_give {A} {P} y p = record { all = λ k x xs i. subst (λ z. P z xs) (sym i.0) (subst (λ zs. P y zs) (sym i.1) p) }

pub holds_form : {A B : Type 0} {a : Form A} {b : A → Form B} {Q : A → List Token → Type 0} {P : B → List Token → Type 0} → Holds a Q → ((x : A) (us : List Token) → Q x us → Holds (b x) (λ y ys. P y (us ++ ys))) → Holds (a ⟫= b) P
holds_form {A} {B} {a} {b} {Q} {P} h g = record { all = λ k y zs i. subst (λ w. P y w) (sym i.3) ((g i.0 i.1 (h.all k i.0 i.1 i.4)).all (k + length i.1) y i.2 i.5) }

pub holds_last : {A B : Type 0} {a : Form A} {Q : A → List Token → Type 0} {P : B → List Token → Type 0} (f : A → B) → Holds a Q → ((x : A) (us : List Token) → Q x us → P (f x) us) → Holds (a ⟫= λ x. give (f x)) P
holds_last {A} {B} {a} {Q} {P} f h g = holds_form h (λ x us q. holds_give (f x) (subst (λ w. P (f x) w) (sym (append-nil us)) (g x us q)))

pub holds_sign : {B : Type 0} {b : ℕ → Form B} {P : B → List Token → Type 0} (n : ℕ) (m : Mark) → ((at : ℕ) → Holds (b at) (λ y ys. P y (Sign m ∷ ys))) → Holds (sign n m ⟫= b) P
holds_sign {B} {b} {P} n m g = record {
  all = λ k y zs i.
      subst (λ w. P y w) (sym (i.3 ∙ ap (λ w. w ++ i.2) (i.4.1 ∙ ap (λ (t : Token). t ∷ []) i.4.2.0))) ((g i.0).all (k + length i.1) y i.2 i.5);
}

pub holds_name : {B : Type 0} {b : List ℕ → Form B} {P : B → List Token → Type 0} (n : ℕ) → ((x : List ℕ) → Holds (b x) (λ y ys. P y (Name x ∷ ys))) → Holds (name n ⟫= b) P
holds_name {B} {b} {P} n g = record {
  all = λ k y zs i.
      subst (λ w. P y w) (sym (i.3 ∙ ap (λ w. w ++ i.2) (i.4.1 ∙ ap (λ (t : Token). t ∷ []) i.4.2))) ((g i.0).all (k + length i.1) y i.2 i.5);
}

pub holds_number : {B : Type 0} {b : ℤ → Form B} {P : B → List Token → Type 0} (n : ℕ) → ((x : ℤ) → Holds (b x) (λ y ys. P y (Number x ∷ ys))) → Holds (number n ⟫= b) P
holds_number {B} {b} {P} n g = record {
  all = λ k y zs i.
      subst (λ w. P y w) (sym (i.3 ∙ ap (λ w. w ++ i.2) (i.4.1 ∙ ap (λ (t : Token). t ∷ []) i.4.2))) ((g i.0).all (k + length i.1) y i.2 i.5);
}

pub holds_text : {B : Type 0} {b : List ℕ → Form B} {P : B → List Token → Type 0} (n : ℕ) → ((x : List ℕ) → Holds (b x) (λ y ys. P y (Str x ∷ ys))) → Holds (text n ⟫= b) P
holds_text {B} {b} {P} n g = record {
  all = λ k y zs i.
      subst (λ w. P y w) (sym (i.3 ∙ ap (λ w. w ++ i.2) (i.4.1 ∙ ap (λ (t : Token). t ∷ []) i.4.2))) ((g i.0).all (k + length i.1) y i.2 i.5);
}

pub holds_here : {B : Type 0} {b : ℕ → Form B} {P : B → List Token → Type 0} → ((at : ℕ) → Holds (b at) P) → Holds (number_here ⟫= b) P
holds_here {B} {b} {P} g = record { all = λ k y zs i. subst (λ w. P y w) (sym (i.3 ∙ ap (λ w. w ++ i.2) i.4.1)) ((g i.0).all (k + length i.1) y i.2 i.5) }

pub holds_first : {A : Type 0} {F : Token → Form A} {P : A → List Token → Type 0} (n : ℕ) → ((t : Token) → Holds (F t) P) → Holds (by_first n F) P
holds_first n g = record { all = λ k x xs i. (g i.0).all k x xs i.3 }

pub holds_optional : {A : Type 0} {a : Form A} {P : A → List Token → Type 0} (kind : Token → Bool) (y : A) → Holds a P → P y [] → Holds (optional kind a y) P
holds_optional {A} {a} {P} kind y h p = record {
  all = λ k x xs i. elim i as (λ _. P x xs) [ inl j ↦ h.all k x xs j | inr j ↦ subst (λ z. P z xs) (sym j.0) (subst (λ zs. P y zs) (sym j.1) p) ];
}

pub holds_choose : {A : Type 0} {a b : Form A} {P : A → List Token → Type 0} (kind : Token → Bool) → Holds a P → Holds b P → Holds (choose kind a b) P
holds_choose {A} {a} {b} {P} kind h g = record { all = λ k x xs i. elim i as (λ _. P x xs) [ inl j ↦ h.all k x xs j | inr j ↦ g.all k x xs j ] }

pub holds_allowed : {A : Type 0} {a : Form A} {P : A → List Token → Type 0} (b : Bool) (n : ℕ) → Holds a P → Holds (allowed b n a) P
holds_allowed true n h = h
holds_allowed false n h = holds_nothing n

pub holds_opening : {A : Type 0} {inside : ℕ → ℕ → Form A} {P : A → List Token → Type 0} (n : ℕ) (m : Mark) → ((j at : ℕ) → Holds (inside j at) (λ x xs. P x (Sign m ∷ xs))) → Holds (opening n m inside) P
holds_opening zero m g = holds_nothing 0
holds_opening (suc n) m g = holds_sign (suc n) m (λ at. g n at)

-- ---- repetitions

-- the tokens are parts, one behind the other, each of which is so
abbrev pub Parts : {A : Type 0} → (A → List Token → Type 0) → List A → List Token → Type 0
Parts Q [] zs = zs ≡ []
Parts Q (x ∷ xs) zs = (us : List Token) × (vs : List Token) × (zs ≡ us ++ vs) × Q x us × Parts Q xs vs

pub parts_all : {A : Type 0} {Q : A → List Token → Type 0} (kind : Token → Bool) (a : Form A) → Holds a Q → (k : ℕ) (xs : List A) (zs : List Token) → AreAll kind a k xs zs → Parts Q xs zs
parts_all kind a h k [] zs i = i
parts_all kind a h k (x ∷ xs) zs i = (i.0, i.1, i.2, h.all k x i.0 i.3, parts_all kind a h (k + length i.0) xs i.1 i.4)

pub holds_more : {A : Type 0} {a : Form A} {Q : A → List Token → Type 0} {P : List A → List Token → Type 0} (kind : Token → Bool) (found : List A) → Holds a Q → ((ys : List A) (zs : List Token) → Parts Q ys zs → P (found ++ ys) zs) → Holds (more kind a found) P
holds_more {A} {a} {Q} {P} kind found h g = record { all = λ k xs zs i. subst (λ w. P w zs) (sym i.1) (g i.0 zs (parts_all kind a h k i.0 zs i.2)) }

-- a form that is allowed where the truth value holds
pub holds_where : {A : Type 0} {a : Form A} {P : A → List Token → Type 0} (b : Bool) (n : ℕ) → (b ≡ true → Holds a P) → Holds (allowed b n a) P
holds_where true n h = h refl
holds_where false n h = holds_nothing n

-- what holds for each of many
pub holds_each : {A S : Type 0} {F : Form A} {P : S → A → List Token → Type 0} → ((s : S) → Holds F (P s)) → Holds F (λ x xs. (s : S) → P s x xs)
holds_each h = record { all = λ k x xs i s. (h s).all k x xs i }
