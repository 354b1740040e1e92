-- What it is that a form is read rightly, and the words of forms that are.
use Rattle.std.proofs.Common.{◌≡◌, ℕ, ℤ, ◌+◌, ◌<◌, Bool, true, false, List, [], ◌∷◌, ◌++◌, length, Ok, Err, refl, sym, ap, subst, ◌∙◌, append_assoc, arith, length-append, inl, inr, if◌then◌else◌}
use Rattle.std.specs.Prelude.{◌||◌, Some}
use Rattle.lang_lexer.specs.declared.token.Mark.{Mark}
use Rattle.lang_lexer.specs.declared.token.Token.{Token}
use Rattle.lang_lexer.specs.declared.token.Token.TheVariants.{Sign, Number, Str, Name}
use Rattle.lang_lexer.proofs.CallerLemmas.{same_is, same_self}
use Rattle.lang_grammar.specs.declared.fault.Fault.{Fault}
use Rattle.lang_grammar.specs.Place.{Place, place, Outcome, Parser, and_then, is, begins, next, sees, refusal, refuse, ◌>>=◌, pure}
use Rattle.lang_grammar.specs.Forms.{Form, nothing, give, number_here, one, sign, name, number, text, ◌⟫=◌}
use Rattle.lang_grammar.specs.Rules as rules

-- the tokens from p up to q
pub record Lies (p : Place) (xs : List Token) (q : Place) : Type 0 where
  pub parts : p.rest ≡ xs ++ q.rest
  pub at : q.at ≡ p.at + length xs

pub lies_none : (p : Place) → Lies p [] p
lies_none p = record { parts = refl; at = omega arith }

pub lies_then : (p q r : Place) (xs ys : List Token) → Lies p xs q → Lies q ys r → Lies p (xs ++ ys) r
lies_then p q r xs ys a b = record { parts = a.parts ∙ ap (λ (t : List Token). xs ++ t) b.parts ∙ sym (append_assoc xs ys r.rest); at = omega (arith, a.at, b.at, length-append xs ys) }

pub lies_shorter : (p q : Place) (xs : List Token) → Lies p xs q → length p.rest ≡ length xs + length q.rest
lies_shorter p q xs a = ap length a.parts ∙ length-append xs q.rest

-- what was read, and that it is a sentence between both places
pub record Found {A : Type 0} (F : Form A) (p : Place) (x : A) (q : Place) : Type 0 where
  pub reads : F.Reads p x q
  pub tokens : List Token
  pub is : F.Is p.at x tokens
  pub lies : Lies p tokens q

abbrev pub Says : {A : Type 0} → Form A → Place → Outcome A → Type 0
Says F p (Ok r) = Found F p r.0 r.1
Says F p (Err f) = F.Stuck p f

-- the function reads the form; the kind has the tokens that may carry a sentence on
pub record Right {A : Type 0} (F : Form A) (r : Parser A) (T : Token → Bool) : Type 0 where
  pub says : (p : Place) → Says F p (r p)
  pub reads : (p : Place) (x : A) (q : Place) → F.Reads p x q → r p ≡ Ok (x, q)
  pub stuck : (p : Place) (f : Fault) → F.Stuck p f → r p ≡ Err f
  pub whole : (k : ℕ) (x : A) (xs rest : List Token) → F.Is k x xs → begins T rest ≡ false → r (place k (xs ++ rest)) ≡ Ok (x, place (k + length xs) rest)

-- each sentence begins with a token of a kind
abbrev pub Starts : {A : Type 0} → (Token → Bool) → Form A → Type 0
Starts {A} kind F = (k : ℕ) (x : A) (xs : List Token) → F.Is k x xs → begins kind xs ≡ true

abbrev pub none : Token → Bool
none t = false

pub begins_none : (ts : List Token) → begins none ts ≡ false
begins_none [] = refl
begins_none (t ∷ ts) = refl

or_left : (a b : Bool) → (a || b) ≡ false → a ≡ false
or_left true b e = e
or_left false b e = refl

or_right : (a b : Bool) → (a || b) ≡ false → b ≡ false
or_right true b e = cc
or_right false b e = e

pub begins_left : (S T : Token → Bool) (ts : List Token) → begins (λ t. S t || T t) ts ≡ false → begins S ts ≡ false
begins_left S T [] e = refl
begins_left S T (t ∷ ts) e = or_left (S t) (T t) e

pub begins_right : (S T : Token → Bool) (ts : List Token) → begins (λ t. S t || T t) ts ≡ false → begins T ts ≡ false
begins_right S T [] e = refl
begins_right S T (t ∷ ts) e = or_right (S t) (T t) e

pub begins_split : (kind : Token → Bool) (xs ys : List Token) → begins kind xs ≡ true → begins kind (xs ++ ys) ≡ true
begins_split kind [] ys e = cc
begins_split kind (x ∷ xs) ys e = e

pub some_begins : (kind : Token → Bool) (xs : List Token) → begins kind xs ≡ true → 0 < length xs
some_begins kind [] e = absurd cc
some_begins kind (x ∷ xs) e = omega arith

-- a token that is a mark is its sign
pub is_sign : (m : Mark) (t : Token) → is m t ≡ true → t ≡ Sign m
is_sign m (Sign x) e = ap (λ (y : Mark). Sign y) (same_is x m e)
is_sign m (Number v) e = cc
is_sign m (Str v) e = cc
is_sign m (Name v) e = cc

pub is_self : (m : Mark) → is m (Sign m) ≡ true
is_self m = same_self m

-- ---- the words without parts

abbrev pub done : {A : Type 0} → A → Place → Outcome A
done x p = Ok (x, p)

pub done_is : {A : Type 0} (x y : A) (p q : Place) → x ≡ y → p ≡ q → done x p ≡ done y q
done_is x y p q a b = ap (λ z. done z p) a ∙ ap (λ w. done y w) b

pub place_is : (j k : ℕ) (ts us : List Token) → j ≡ k → ts ≡ us → place j ts ≡ place k us
place_is j k ts us a b = ap (λ i. place i ts) a ∙ ap (λ w. place k w) b

pub right_nothing : {A : Type 0} {T : Token → Bool} (n : ℕ) → Right (nothing {A = A} n) (refuse n) T
right_nothing n = record { says = λ p. refl; reads = λ p x q h. absurd h; stuck = λ p f h. ap (λ (g : Fault). Err g) (sym h); whole = λ k x xs rest h e. absurd h }

none_end : (k : ℕ) (xs rest : List Token) → xs ≡ [] → place k (xs ++ rest) ≡ place (k + length xs) rest
none_end k xs rest e = place_is k (k + length xs) (xs ++ rest) rest (omega (arith, ap length e)) (ap (λ w. w ++ rest) e)

pub right_give : {A : Type 0} {T : Token → Bool} (y : A) → Right (give y) (pure y) T
right_give {A} y = record {
  says = λ p. record { reads = (refl, refl); tokens = []; is = (refl, refl); lies = lies_none p };
  reads = λ p x q h. done_is y x p q (sym h.0) (sym h.1);
  stuck = λ p f h. absurd h;
  whole = λ k x xs rest h e. done_is y x (place k (xs ++ rest)) (place (k + length xs) rest) (sym h.0) (none_end k xs rest h.1);
}

pub right_here : {T : Token → Bool} → Right number_here rules.here T
right_here = record {
  says = λ p. record { reads = (refl, refl); tokens = []; is = (refl, refl); lies = lies_none p };
  reads = λ p x q h. done_is p.at x p q (sym h.0) (sym h.1);
  stuck = λ p f h. absurd h;
  whole = λ k x xs rest h e. done_is k x (place k (xs ++ rest)) (place (k + length xs) rest) (sym h.0) (none_end k xs rest h.1);
}

-- one token, where the function says what it says
module _ {A : Type 0} (n : ℕ) (Means : ℕ → Token → A → Type 0) (r : Parser A)
    (accepts : (k : ℕ) (t : Token) (ts : List Token) (x : A) → Means k t x → r (place k (t ∷ ts)) ≡ done x (place (k + 1) ts))
    (refuses : (p : Place) → ((t : Token) (ts : List Token) (x : A) → p.rest ≡ t ∷ ts → Means p.at t x → ⊥) → r p ≡ Err (refusal n p))
    (says_one : (p : Place) → Says (one n Means) p (r p)) where
  one_whole : (T : Token → Bool) (k : ℕ) (x : A) (xs rest : List Token) → (one n Means).Is k x xs → begins T rest ≡ false → r (place k (xs ++ rest)) ≡ done x (place (k + length xs) rest)
  one_whole T k x xs rest h e =
      ap (λ w. r (place k (w ++ rest))) h.1 ∙ accepts k h.0 rest x h.2 ∙ ap (λ j. done x (place j rest)) (let len : length xs ≡ 1 = ap length h.1 in omega arith)

  one_reads : (p : Place) (x : A) (q : Place) → (one n Means).Reads p x q → r p ≡ done x q
  one_reads p x q h = ap (λ w. r (place p.at w)) h.2 ∙ accepts p.at h.0 h.1 x h.3 ∙ ap (λ w. done x w) (sym h.4)

  pub right_one : (T : Token → Bool) → Right (one n Means) r T
  right_one T = record {
    says = says_one;
    reads = one_reads;
    stuck = λ p f h. refuses p h.0 ∙ ap (λ (g : Fault). Err g) (sym h.1);
    whole = one_whole T;
  }

pub found_one : {A : Type 0} (n : ℕ) (Means : ℕ → Token → A → Type 0) (k : ℕ) (t : Token) (ts : List Token) (x : A) → Means k t x → Found (one n Means) (place k (t ∷ ts)) x (place (k + 1) ts)
found_one n Means k t ts x h = record { reads = (t, ts, refl, h, refl); tokens = t ∷ []; is = (t, refl, h); lies = record { parts = refl; at = refl } }

-- ---- this sign

abbrev sign_means : Mark → ℕ → Token → ℕ → Type 0
sign_means m k t x = (t ≡ Sign m) × (x ≡ k)

module _ (n : ℕ) (m : Mark) where
  abbrev sign_if : Place → Bool → Outcome ℕ
  sign_if p b = if b then done p.at (next p) else Err (refusal n p)

  sign_is : (p : Place) → rules.sign n m p ≡ sign_if p (sees m p)
  unfolding rules.sign
  sign_is p = refl

  sign_accepts : (k : ℕ) (t : Token) (ts : List Token) (x : ℕ) → sign_means m k t x → rules.sign n m (place k (t ∷ ts)) ≡ done x (place (k + 1) ts)
  sign_accepts k t ts x h =
      sign_is (place k (t ∷ ts)) ∙ ap (sign_if (place k (t ∷ ts))) (ap (is m) h.0 ∙ is_self m) ∙ ap (λ j. done j (place (k + 1) ts)) (sym h.1)

  sign_none : (k : ℕ) (t : Token) (ts : List Token) → is m t ≡ false → (u : Token) (us : List Token) (x : ℕ) → t ∷ ts ≡ u ∷ us → sign_means m k u x → ⊥
  sign_none k t ts e u us x a h = let f : is m t ≡ is m u = ap (begins (is m)) a in let g : is m u ≡ true = ap (is m) h.0 ∙ is_self m in cc

  sign_says_by : (k : ℕ) (t : Token) (ts : List Token) (b : Bool) → is m t ≡ b → Says (one n (sign_means m)) (place k (t ∷ ts)) (sign_if (place k (t ∷ ts)) b)
  sign_says_by k t ts true e = found_one n (sign_means m) k t ts k (is_sign m t e, refl)
  sign_says_by k t ts false e = (sign_none k t ts e, refl)

  sign_says_at : (k : ℕ) (ts : List Token) → Says (one n (sign_means m)) (place k ts) (sign_if (place k ts) (begins (is m) ts))
  sign_says_at k [] = ((λ t ts x a h. cc), refl)
  sign_says_at k (t ∷ ts) = sign_says_by k t ts (is m t) refl

  sign_says : (p : Place) → Says (one n (sign_means m)) p (rules.sign n m p)
  sign_says p = subst (λ o. Says (one n (sign_means m)) p o) (sym (sign_is p)) (sign_says_at p.at p.rest)

  sign_refused : (k : ℕ) (t : Token) (ts : List Token) (b : Bool) → is m t ≡ b → ((u : Token) (us : List Token) (x : ℕ) → t ∷ ts ≡ u ∷ us → sign_means m k u x → ⊥)
      → sign_if (place k (t ∷ ts)) b ≡ Err (refusal n (place k (t ∷ ts)))
  sign_refused k t ts true e h = absurd (h t ts k refl (is_sign m t e, refl))
  sign_refused k t ts false e h = refl

  sign_refuses_at : (k : ℕ) (ts : List Token) → ((u : Token) (us : List Token) (x : ℕ) → ts ≡ u ∷ us → sign_means m k u x → ⊥) → sign_if (place k ts) (begins (is m) ts) ≡ Err (refusal n (place k ts))
  sign_refuses_at k [] h = refl
  sign_refuses_at k (t ∷ ts) h = sign_refused k t ts (is m t) refl h

  sign_refuses : (p : Place) → ((t : Token) (ts : List Token) (x : ℕ) → p.rest ≡ t ∷ ts → sign_means m p.at t x → ⊥) → rules.sign n m p ≡ Err (refusal n p)
  sign_refuses p h = sign_is p ∙ sign_refuses_at p.at p.rest h

  pub right_sign : (T : Token → Bool) → Right (sign n m) (rules.sign n m) T
  right_sign T = right_one n (sign_means m) (rules.sign n m) sign_accepts sign_refuses sign_says T

-- ---- a name, a number, a text

module _ (n : ℕ) where
  abbrev name_means : ℕ → Token → List ℕ → Type 0
  name_means k t x = t ≡ Name x

  name_accepts : (k : ℕ) (t : Token) (ts : List Token) (x : List ℕ) → name_means k t x → rules.name n (place k (t ∷ ts)) ≡ done x (place (k + 1) ts)
  unfolding rules.name
  name_accepts k t ts x h = ap (λ u. rules.name_by n (Some u) (place k (t ∷ ts))) h

  name_says_at : (k : ℕ) (ts : List Token) → Says (one n name_means) (place k ts) (rules.name n (place k ts))
  unfolding rules.name
  name_says_at k [] = ((λ u us x a h. cc), refl)
  name_says_at k (Name w ∷ ts) = found_one n name_means k (Name w) ts w refl
  name_says_at k (Sign m ∷ ts) = ((λ u us x a h. cc), refl)
  name_says_at k (Number v ∷ ts) = ((λ u us x a h. cc), refl)
  name_says_at k (Str v ∷ ts) = ((λ u us x a h. cc), refl)

  name_refuses_at : (k : ℕ) (ts : List Token) → ((u : Token) (us : List Token) (x : List ℕ) → ts ≡ u ∷ us → name_means k u x → ⊥) → rules.name n (place k ts) ≡ Err (refusal n (place k ts))
  unfolding rules.name
  name_refuses_at k [] h = refl
  name_refuses_at k (Name w ∷ ts) h = absurd (h (Name w) ts w refl refl)
  name_refuses_at k (Sign m ∷ ts) h = refl
  name_refuses_at k (Number v ∷ ts) h = refl
  name_refuses_at k (Str v ∷ ts) h = refl

  pub right_name : (T : Token → Bool) → Right (name n) (rules.name n) T
  right_name T = right_one n name_means (rules.name n) name_accepts (λ p h. name_refuses_at p.at p.rest h) (λ p. name_says_at p.at p.rest) T

module _ (n : ℕ) where
  abbrev number_means : ℕ → Token → ℤ → Type 0
  number_means k t x = t ≡ Number x

  number_accepts : (k : ℕ) (t : Token) (ts : List Token) (x : ℤ) → number_means k t x → rules.number n (place k (t ∷ ts)) ≡ done x (place (k + 1) ts)
  unfolding rules.number
  number_accepts k t ts x h = ap (λ u. rules.number_by n (Some u) (place k (t ∷ ts))) h

  number_says_at : (k : ℕ) (ts : List Token) → Says (one n number_means) (place k ts) (rules.number n (place k ts))
  unfolding rules.number
  number_says_at k [] = ((λ u us x a h. cc), refl)
  number_says_at k (Number w ∷ ts) = found_one n number_means k (Number w) ts w refl
  number_says_at k (Sign m ∷ ts) = ((λ u us x a h. cc), refl)
  number_says_at k (Name v ∷ ts) = ((λ u us x a h. cc), refl)
  number_says_at k (Str v ∷ ts) = ((λ u us x a h. cc), refl)

  number_refuses_at : (k : ℕ) (ts : List Token) → ((u : Token) (us : List Token) (x : ℤ) → ts ≡ u ∷ us → number_means k u x → ⊥) → rules.number n (place k ts) ≡ Err (refusal n (place k ts))
  unfolding rules.number
  number_refuses_at k [] h = refl
  number_refuses_at k (Number w ∷ ts) h = absurd (h (Number w) ts w refl refl)
  number_refuses_at k (Sign m ∷ ts) h = refl
  number_refuses_at k (Name v ∷ ts) h = refl
  number_refuses_at k (Str v ∷ ts) h = refl

  pub right_number : (T : Token → Bool) → Right (number n) (rules.number n) T
  right_number T = right_one n number_means (rules.number n) number_accepts (λ p h. number_refuses_at p.at p.rest h) (λ p. number_says_at p.at p.rest) T

module _ (n : ℕ) where
  abbrev text_means : ℕ → Token → List ℕ → Type 0
  text_means k t x = t ≡ Str x

  text_accepts : (k : ℕ) (t : Token) (ts : List Token) (x : List ℕ) → text_means k t x → rules.text n (place k (t ∷ ts)) ≡ done x (place (k + 1) ts)
  unfolding rules.text
  text_accepts k t ts x h = ap (λ u. rules.text_by n (Some u) (place k (t ∷ ts))) h

  text_says_at : (k : ℕ) (ts : List Token) → Says (one n text_means) (place k ts) (rules.text n (place k ts))
  unfolding rules.text
  text_says_at k [] = ((λ u us x a h. cc), refl)
  text_says_at k (Str w ∷ ts) = found_one n text_means k (Str w) ts w refl
  text_says_at k (Sign m ∷ ts) = ((λ u us x a h. cc), refl)
  text_says_at k (Number v ∷ ts) = ((λ u us x a h. cc), refl)
  text_says_at k (Name v ∷ ts) = ((λ u us x a h. cc), refl)

  text_refuses_at : (k : ℕ) (ts : List Token) → ((u : Token) (us : List Token) (x : List ℕ) → ts ≡ u ∷ us → text_means k u x → ⊥) → rules.text n (place k ts) ≡ Err (refusal n (place k ts))
  unfolding rules.text
  text_refuses_at k [] h = refl
  text_refuses_at k (Str w ∷ ts) h = absurd (h (Str w) ts w refl refl)
  text_refuses_at k (Sign m ∷ ts) h = refl
  text_refuses_at k (Number v ∷ ts) h = refl
  text_refuses_at k (Name v ∷ ts) h = refl

  pub right_text : (T : Token → Bool) → Right (text n) (rules.text n) T
  right_text T = right_one n text_means (rules.text n) text_accepts (λ p h. text_refuses_at p.at p.rest h) (λ p. text_says_at p.at p.rest) T

-- ---- one form behind another

module _ {A B : Type 0} (a : Form A) (b : A → Form B) (r : Parser A) (s : A → Parser B) (S U T : Token → Bool)
    (ra : Right a r S) (rb : (x : A) → Right (b x) (s x) U)
    (follows : (x : A) (k : ℕ) (y : B) (ys rest : List Token) → (b x).Is k y ys → begins T rest ≡ false → begins S (ys ++ rest) ≡ false)
    (within : (rest : List Token) → begins T rest ≡ false → begins U rest ≡ false) where
  bind_found : (p : Place) (x : A) (q : Place) → Found a p x q → (y : B) (z : Place) → Found (b x) q y z → Found (a ⟫= b) p y z
  bind_found p x q h y z g = record {
    reads = (x, q, h.reads, g.reads);
    tokens = h.tokens ++ g.tokens;
    is = (x, h.tokens, g.tokens, refl, h.is, subst (λ j. (b x).Is j y g.tokens) h.lies.at g.is);
    lies = lies_then p q z h.tokens g.tokens h.lies g.lies;
  }

  bind_back : (p : Place) (x : A) (q : Place) → Found a p x q → (o : Outcome B) → Says (b x) q o → Says (a ⟫= b) p o
  bind_back p x q h (Ok y) g = bind_found p x q h y.0 y.1 g
  bind_back p x q h (Err f) g = inr (x, q, h.reads, g)

  bind_says : (p : Place) (o : Outcome A) → Says a p o → Says (a ⟫= b) p (and_then o s)
  bind_says p (Ok x) h = bind_back p x.0 x.1 h (s x.0 x.1) ((rb x.0).says x.1)
  bind_says p (Err f) h = inl h

  bind_stuck : (p : Place) (f : Fault) → (a ⟫= b).Stuck p f → and_then (r p) s ≡ Err f
  bind_stuck p f (inl h) = ap (λ o. and_then o s) (ra.stuck p f h)
  bind_stuck p f (inr h) = ap (λ o. and_then o s) (ra.reads p h.0 h.1 h.2) ∙ (rb h.0).stuck h.1 f h.3

  bind_whole : (k : ℕ) (y : B) (zs rest : List Token) (x : A) (xs ys : List Token) → zs ≡ xs ++ ys → a.Is k x xs → (b x).Is (k + length xs) y ys → begins T rest ≡ false
      → and_then (r (place k (zs ++ rest))) s ≡ done y (place (k + length zs) rest)
  bind_whole k y zs rest x xs ys e h g w =
      ap (λ v. and_then (r (place k (v ++ rest))) s) e ∙ ap (λ v. and_then (r (place k v)) s) (append_assoc xs ys rest)
      ∙ ap (λ o. and_then o s) (ra.whole k x xs (ys ++ rest) h (follows x (k + length xs) y ys rest g w))
      ∙ (rb x).whole (k + length xs) y ys rest g (within rest w)
      ∙ ap (λ j. done y (place j rest)) (let len : length zs ≡ length xs + length ys = ap length e ∙ length-append xs ys in omega arith)

  pub right_bind : Right (a ⟫= b) (r >>= s) T
  right_bind = record {
    says = λ p. bind_says p (r p) (ra.says p);
    reads = λ p y q h. ap (λ o. and_then o s) (ra.reads p h.0 h.1 h.2) ∙ (rb h.0).reads h.1 y q h.3;
    stuck = bind_stuck;
    whole = λ k y zs rest h w. bind_whole k y zs rest h.0 h.1 h.2 h.3 h.4 h.5 w;
  }

-- nothing carries the first part on
pub right_then : {A B : Type 0} {a : Form A} {b : A → Form B} {r : Parser A} {s : A → Parser B} (T : Token → Bool) → Right a r none → ((x : A) → Right (b x) (s x) T) → Right (a ⟫= b) (r >>= s) T
right_then {A} {B} {a} {b} {r} {s} T ra rb = right_bind a b r s none T T ra rb (λ x k y ys rest h e. begins_none (ys ++ rest)) (λ rest e. e)

-- the second part begins with a sign that doesn't carry the first on
not_carried : (m : Mark) (S : Token → Bool) → S (Sign m) ≡ false → (ys rest : List Token) → begins (is m) ys ≡ true → begins S (ys ++ rest) ≡ false
not_carried m S e [] rest h = cc
not_carried m S e (t ∷ ys) rest h = ap S (is_sign m t h) ∙ e

pub right_till : {A B : Type 0} {a : Form A} {b : A → Form B} {r : Parser A} {s : A → Parser B} (m : Mark) (S T : Token → Bool) → Right a r S → S (Sign m) ≡ false
    → ((x : A) → Starts (is m) (b x)) → ((x : A) → Right (b x) (s x) T) → Right (a ⟫= b) (r >>= s) T
right_till {A} {B} {a} {b} {r} {s} m S T ra e starts rb = right_bind a b r s S T T ra rb (λ x k y ys rest h w. not_carried m S e ys rest (starts x k y ys h)) (λ rest w. w)

-- the second part is only the tree
given_carried : (S : Token → Bool) (ys rest : List Token) → ys ≡ [] → begins S rest ≡ false → begins S (ys ++ rest) ≡ false
given_carried S ys rest e w = ap (λ v. begins S (v ++ rest)) e ∙ w

pub right_last : {A B : Type 0} {a : Form A} {r : Parser A} (f : A → B) (T : Token → Bool) → Right a r T → Right (a ⟫= λ x. give (f x)) (r >>= λ x. pure (f x)) T
right_last {A} {B} {a} {r} f T ra = right_bind a (λ x. give (f x)) r (λ x. pure (f x)) T T T ra (λ x. right_give (f x)) (λ x k y ys rest h w. given_carried T ys rest h.1 w) (λ rest w. w)
