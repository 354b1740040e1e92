-- What a form is, and the words that forms are made of. Each word says three things: which trees its sentences are, how far it is read from a place, and where it is stuck. This project's own.
use Rattle.std.specs.Prelude.{◌≡◌, ℕ, ℤ, zero, suc, ◌+◌, Bool, true, false, List, [], ◌∷◌, ◌++◌, length, ◌⊎◌, map}
use Rattle.lang_lexer.specs.declared.token.Mark.{Mark}
use Rattle.lang_lexer.specs.declared.token.Mark.TheVariants.{Comma}
use Rattle.lang_lexer.specs.declared.token.Token.{Token}
use Rattle.lang_lexer.specs.declared.token.Token.TheVariants.{Sign, Number, Str, Name}
use Rattle.lang_grammar.specs.declared.fault.Fault.{Fault}
use Rattle.lang_grammar.specs.Place.{Place, place, is, begins, refusal}

pub record Form (A : Type 0) : Type 1 where
  -- the tree of these tokens, the first of which has this number
  pub Is : ℕ → A → List Token → Type 0
  -- the tree that is read from a place up to a place
  pub Reads : Place → A → Place → Type 0
  -- where it is stuck that is read from a place, and why
  pub Stuck : Place → Fault → Type 0

-- no token begins it; the number is how many more forms may be open
abbrev pub nothing : {A : Type 0} → ℕ → Form A
nothing n = record { Is = λ k x xs. ⊥; Reads = λ p x q. ⊥; Stuck = λ p f. f ≡ refusal n p }

-- no token, and this tree
abbrev pub give : {A : Type 0} → A → Form A
give y = record { Is = λ k x xs. (x ≡ y) × (xs ≡ []); Reads = λ p x q. (x ≡ y) × (q ≡ p); Stuck = λ p f. ⊥ }

-- no token, and the number of the next
abbrev pub number_here : Form ℕ
number_here = record { Is = λ k x xs. (x ≡ k) × (xs ≡ []); Reads = λ p x q. (x ≡ p.at) × (q ≡ p); Stuck = λ p f. ⊥ }

-- one token that says something
abbrev pub one : {A : Type 0} → ℕ → (ℕ → Token → A → Type 0) → Form A
one {A} n Says = record {
  Is = λ k x xs. (t : Token) × (xs ≡ t ∷ []) × Says k t x;
  Reads = λ p x q. (t : Token) × (ts : List Token) × (p.rest ≡ t ∷ ts) × Says p.at t x × (q ≡ place (p.at + 1) ts);
  Stuck = λ p f. ((t : Token) (ts : List Token) (x : A) → p.rest ≡ t ∷ ts → Says p.at t x → ⊥) × (f ≡ refusal n p);
}

-- this keyword or sign; its number
abbrev pub sign : ℕ → Mark → Form ℕ
sign n m = one n (λ k t x. (t ≡ Sign m) × (x ≡ k))

abbrev pub name : ℕ → Form (List ℕ)
name n = one n (λ k t x. t ≡ Name x)

abbrev pub number : ℕ → Form ℤ
number n = one n (λ k t x. t ≡ Number x)

abbrev pub text : ℕ → Form (List ℕ)
text n = one n (λ k t x. t ≡ Str x)

-- one form, and another behind it
infixl 10 ◌⟫=◌
abbrev pub ◌⟫=◌ : {A B : Type 0} → Form A → (A → Form B) → Form B
◌⟫=◌ {A} {B} a b = record {
  Is = λ k y zs. (x : A) × (xs : List Token) × (ys : List Token) × (zs ≡ xs ++ ys) × a.Is k x xs × (b x).Is (k + length xs) y ys;
  Reads = λ p y q. (x : A) × (r : Place) × a.Reads p x r × (b x).Reads r y q;
  Stuck = λ p f. a.Stuck p f ⊎ ((x : A) × (r : Place) × a.Reads p x r × (b x).Stuck r f);
}

-- one of several forms: its first token says which
abbrev pub by_first : {A : Type 0} → ℕ → (Token → Form A) → Form A
by_first {A} n F = record {
  Is = λ k x xs. (t : Token) × (ts : List Token) × (xs ≡ t ∷ ts) × (F t).Is k x xs;
  Reads = λ p x q. (t : Token) × (ts : List Token) × (p.rest ≡ t ∷ ts) × (F t).Reads p x q;
  Stuck = λ p f. ((p.rest ≡ []) × (f ≡ refusal n p)) ⊎ ((t : Token) × (ts : List Token) × (p.rest ≡ t ∷ ts) × (F t).Stuck p f);
}

-- an optional form, which begins with a token of a kind; without it this tree
abbrev pub optional : {A : Type 0} → (Token → Bool) → Form A → A → Form A
optional kind a y = record {
  Is = λ k x xs. a.Is k x xs ⊎ ((x ≡ y) × (xs ≡ []));
  Reads = λ p x q. ((begins kind p.rest ≡ true) × a.Reads p x q) ⊎ ((begins kind p.rest ≡ false) × (x ≡ y) × (q ≡ p));
  Stuck = λ p f. (begins kind p.rest ≡ true) × a.Stuck p f;
}

-- one of two forms: the first of them where a token of a kind comes next
abbrev pub choose : {A : Type 0} → (Token → Bool) → Form A → Form A → Form A
choose kind a b = record {
  Is = λ k x xs. a.Is k x xs ⊎ b.Is k x xs;
  Reads = λ p x q. ((begins kind p.rest ≡ true) × a.Reads p x q) ⊎ ((begins kind p.rest ≡ false) × b.Reads p x q);
  Stuck = λ p f. ((begins kind p.rest ≡ true) × a.Stuck p f) ⊎ ((begins kind p.rest ≡ false) × b.Stuck p f);
}

-- ---- repetitions

module _ {A : Type 0} (kind : Token → Bool) (a : Form A) where
  -- the trees of these tokens, one behind the other
  abbrev pub AreAll : ℕ → List A → List Token → Type 0
  AreAll k [] zs = zs ≡ []
  AreAll k (x ∷ xs) zs = (us : List Token) × (vs : List Token) × (zs ≡ us ++ vs) × a.Is k x us × AreAll (k + length us) xs vs

  -- these trees are read one behind the other, each where a token of the kind comes next
  abbrev pub Passes : Place → List A → Place → Type 0
  Passes p [] q = q ≡ p
  Passes p (x ∷ xs) q = (r : Place) × (begins kind p.rest ≡ true) × a.Reads p x r × Passes r xs q

  -- these trees, and any number of further ones, which begin with a token of the kind
  abbrev pub more : List A → Form (List A)
  more found = record {
    Is = λ k xs zs. (ys : List A) × (xs ≡ found ++ ys) × AreAll k ys zs;
    Reads = λ p xs q. (ys : List A) × (xs ≡ found ++ ys) × Passes p ys q × (begins kind q.rest ≡ false);
    Stuck = λ p f. (ys : List A) × (q : Place) × Passes p ys q × (begins kind q.rest ≡ true) × a.Stuck q f;
  }

  -- any number of a form
  abbrev pub many : Form (List A)
  many = more []

-- a form where the truth value holds
abbrev pub allowed : {A : Type 0} → Bool → ℕ → Form A → Form A
allowed true n a = a
allowed false n a = nothing n

-- an opening sign where one more form may be open, and what comes behind it
abbrev pub opening : {A : Type 0} → ℕ → Mark → (ℕ → ℕ → Form A) → Form A
opening zero m inside = nothing 0
opening (suc n) m inside = sign (suc n) m ⟫= λ at. inside n at

-- none, one or several with a comma between two, and the closing sign
abbrev pub listing : {A : Type 0} → ℕ → Mark → Form A → Form (List A)
listing n close part =
    choose (is close)
    (sign n close ⟫= λ _. give [])
    (part ⟫= λ x. more (is Comma) (sign n Comma ⟫= λ _. part) (x ∷ []) ⟫= λ xs. sign n close ⟫= λ _. give xs)

-- a sign and a part behind it
abbrev pub signed : {A : Type 0} → ℕ → Mark → Form A → Form (ℕ × A)
signed n m part = sign n m ⟫= λ s. part ⟫= λ y. give (s, y)

-- one part, or several with a sign between two
abbrev pub chain : {A : Type 0} → ℕ → Mark → (List A → List ℕ → A) → Form A → Form A
chain n m make part =
    part ⟫= λ x. optional (is m)
    (signed n m part ⟫= λ y. more (is m) (signed n m part) (y ∷ []) ⟫= λ ys. give (make (x ∷ map (λ z. z.1) ys) (map (λ z. z.0) ys)))
    x
