-- A form is read, and is stuck, for the tokens up to the next alone; and the words of forms that are so.
use Rattle.std.proofs.Common.{◌≡◌, ℕ, zero, suc, ◌+◌, Bool, true, false, List, [], ◌∷◌, ◌++◌, length, refl, sym, ap, subst, ◌∙◌, append_assoc, arith, length-append, inl, inr, if◌then◌else◌}
use Rattle.std.specs.Prelude.{◌&&◌, ◌==◌, Some, None, map}
use Rattle.lang_lexer.specs.declared.token.Mark.{Mark}
use Rattle.lang_lexer.specs.declared.token.Mark.TheVariants.{Comma}
use Rattle.lang_lexer.specs.declared.token.Token.{Token}
use Rattle.lang_lexer.specs.declared.token.Token.TheVariants.{Sign, Number, Str, Name}
use Rattle.lang_grammar.specs.declared.fault.Fault.{Fault}
use Rattle.lang_grammar.specs.declared.fault.Fault.TheVariants.{Syntax, TooDeep}
use Rattle.lang_grammar.specs.Place.{Place, place, is, begins, first_of, opens, refusal}
use Rattle.lang_grammar.specs.Forms.{Form, nothing, give, number_here, one, sign, name, number, text, ◌⟫=◌, by_first, optional, choose, Passes, more, allowed, opening, listing, signed, chain}
use Rattle.lang_grammar.specs.Sentence.{token_of}

-- ---- tokens that begin alike

pub begins_same : (kind : Token → Bool) (vs ws : List Token) → first_of ws ≡ first_of vs → begins kind ws ≡ begins kind vs
begins_same kind [] [] e = refl
begins_same kind [] (w ∷ ws) e = absurd cc
begins_same kind (v ∷ vs) [] e = absurd cc
begins_same kind (v ∷ vs) (w ∷ ws) e = let h : w ≡ v = cc in ap kind h

pub first_append : (us vs ws : List Token) → first_of ws ≡ first_of vs → first_of (us ++ ws) ≡ first_of (us ++ vs)
first_append [] vs ws e = e
first_append (u ∷ us) vs ws e = refl

rest_none : (vs ws : List Token) → first_of ws ≡ first_of vs → vs ≡ [] → ws ≡ []
rest_none vs [] e h = refl
rest_none vs (w ∷ ws) e h = absurd (let g : Some w ≡ None = e ∙ ap first_of h in cc)

rest_some : (t : Token) (ws : List Token) → first_of ws ≡ Some t → (ts : List Token) × (ws ≡ t ∷ ts)
rest_some t [] e = absurd cc
rest_some t (w ∷ ws) e = (ws, (let h : w ≡ t = cc in ap (λ k. k ∷ ws) h))

refused : (b : Bool) (k : ℕ) → token_of (if b then TooDeep k else Syntax k) ≡ k
refused true k = refl
refused false k = refl

pub token_refusal : (n : ℕ) (p : Place) → token_of (refusal n p) ≡ p.at
unfolding refusal
token_refusal n p = refused (n == 0 && opens p) p.at

pub refusal_same : (n k : ℕ) (vs ws : List Token) → first_of ws ≡ first_of vs → refusal n (place k vs) ≡ refusal n (place k ws)
unfolding refusal
refusal_same n k [] [] e = refl
refusal_same n k [] (w ∷ ws) e = absurd cc
refusal_same n k (v ∷ vs) [] e = absurd cc
refusal_same n k (v ∷ vs) (w ∷ ws) e = let h : v ≡ w = cc in ap (λ t. refusal n (place k (t ∷ vs))) h

-- ---- what is read, and what is stuck, with other tokens behind

pub record Span {A : Type 0} (F : Form A) (p : Place) (x : A) (q : Place) : Type 0 where
  pub us : List Token
  pub parts : p.rest ≡ us ++ q.rest
  pub at : q.at ≡ p.at + length us
  pub again : (ws : List Token) → first_of ws ≡ first_of q.rest → F.Reads (place p.at (us ++ ws)) x (place q.at ws)

pub record Halt {A : Type 0} (F : Form A) (p : Place) (f : Fault) : Type 0 where
  pub us : List Token
  pub vs : List Token
  pub parts : p.rest ≡ us ++ vs
  pub at : token_of f ≡ p.at + length us
  pub again : (ws : List Token) → first_of ws ≡ first_of vs → F.Stuck (place p.at (us ++ ws)) f

pub record Local {A : Type 0} (F : Form A) : Type 0 where
  pub spans : (p : Place) (x : A) (q : Place) → F.Reads p x q → Span F p x q
  pub halts : (p : Place) (f : Fault) → F.Stuck p f → Halt F p f

-- a refusal of the next token
here_at : (n : ℕ) (p : Place) (f : Fault) → f ≡ refusal n p → token_of f ≡ p.at + length {A = Token} []
here_at n p f h = let e : token_of f ≡ p.at = ap token_of h ∙ token_refusal n p in omega (arith, e)

pub local_nothing : {A : Type 0} (n : ℕ) → Local (nothing {A = A} n)
local_nothing n = record {
  spans = λ p x q h. absurd h;
  halts = λ p f h. record { us = []; vs = p.rest; parts = refl; at = here_at n p f h; again = λ ws e. h ∙ refusal_same n p.at p.rest ws e };
}

same_place : (p q : Place) → q ≡ p → q.at ≡ p.at + length {A = Token} []
same_place p q h = let e : q.at ≡ p.at = ap (λ r. r.at) h in omega (arith, e)

pub local_give : {A : Type 0} (y : A) → Local (give y)
local_give y = record {
  spans = λ p x q h. record { us = []; parts = ap (λ r. r.rest) (sym h.1); at = same_place p q h.1; again = λ ws e. (h.0, ap (λ r. place r.at ws) h.1) };
  halts = λ p f h. absurd h;
}

pub local_here : Local number_here
local_here = record {
  spans = λ p x q h. record { us = []; parts = ap (λ r. r.rest) (sym h.1); at = same_place p q h.1; again = λ ws e. (h.0, ap (λ r. place r.at ws) h.1) };
  halts = λ p f h. absurd h;
}

-- ---- one token

module _ {A : Type 0} (n : ℕ) (Says : ℕ → Token → A → Type 0) where
  none_says : (k : ℕ) (vs ws : List Token) → first_of ws ≡ first_of vs → ((t : Token) (ts : List Token) (x : A) → vs ≡ t ∷ ts → Says k t x → ⊥) → (t : Token) (ts : List Token) (x : A) → ws ≡ t ∷ ts → Says k t x → ⊥
  none_says k [] ws e h t ts x g s = let i : None ≡ Some t = sym e ∙ ap first_of g in cc
  none_says k (v ∷ vs) ws e h t ts x g s = let i : Some v ≡ Some t = sym e ∙ ap first_of g in let j : t ≡ v = cc in h v vs x refl (subst (λ u. Says k u x) j s)

  one_at : (p q : Place) (ts : List Token) (t : Token) → q ≡ place (p.at + 1) ts → q.at ≡ p.at + length (t ∷ [])
  one_at p q ts t h = let e : q.at ≡ p.at + 1 = ap (λ r. r.at) h in omega (arith, e)

  pub local_one : Local (one n Says)
  local_one = record {
    spans = λ p x q h. record {
      us = h.0 ∷ [];
      parts = h.2 ∙ ap (λ r. h.0 ∷ r.rest) (sym h.4);
      at = one_at p q h.1 h.0 h.4;
      again = λ ws e. (h.0, ws, refl, h.3, ap (λ r. place r.at ws) h.4);
    };
    halts = λ p f h. record { us = []; vs = p.rest; parts = refl; at = here_at n p f h.1; again = λ ws e. (none_says p.at p.rest ws e h.0, h.1 ∙ refusal_same n p.at p.rest ws e) };
  }

pub local_sign : (n : ℕ) (m : Mark) → Local (sign n m)
local_sign n m = local_one n (λ k t x. (t ≡ Sign m) × (x ≡ k))

pub local_name : (n : ℕ) → Local (name n)
local_name n = local_one n (λ k t x. t ≡ Name x)

pub local_number : (n : ℕ) → Local (number n)
local_number n = local_one n (λ k t x. t ≡ Number x)

pub local_text : (n : ℕ) → Local (text n)
local_text n = local_one n (λ k t x. t ≡ Str x)

-- ---- one form behind another

parts_then : (xs us vs rest ts : List Token) → xs ≡ us ++ rest → rest ≡ vs ++ ts → xs ≡ (us ++ vs) ++ ts
parts_then xs us vs rest ts a b = a ∙ ap (λ w. us ++ w) b ∙ sym (append_assoc us vs ts)

at_then : (i j k : ℕ) (us vs : List Token) → j ≡ i + length us → k ≡ j + length vs → k ≡ i + length (us ++ vs)
at_then i j k us vs a b = omega (arith, a, b, length-append us vs)

-- what was read, where it goes on with other tokens behind
on : {A : Type 0} (F : Form A) (p : Place) (x : A) (r : Place) (s : Span F p x r) (vs ts ws : List Token) → r.rest ≡ vs ++ ts → first_of ws ≡ first_of ts → F.Reads (place p.at ((s.us ++ vs) ++ ws)) x (place r.at (vs ++ ws))
on F p x r s vs ts ws e f =
    subst (λ w. F.Reads (place p.at w) x (place r.at (vs ++ ws))) (sym (append_assoc s.us vs ws))
    (s.again (vs ++ ws) (first_append vs ts ws f ∙ ap first_of (sym e)))

module _ {A B : Type 0} (a : Form A) (b : A → Form B) (la : Local a) (lb : (x : A) → Local (b x)) where
  bind_span : (p : Place) (y : B) (q : Place) (x : A) (r : Place) → Span a p x r → Span (b x) r y q → Span (a ⟫= b) p y q
  bind_span p y q x r s t = record {
    us = s.us ++ t.us;
    parts = parts_then p.rest s.us t.us r.rest q.rest s.parts t.parts;
    at = at_then p.at r.at q.at s.us t.us s.at t.at;
    again = λ ws e. (x, place r.at (t.us ++ ws), on a p x r s t.us q.rest ws t.parts e, t.again ws e);
  }

  bind_halt : (p : Place) (f : Fault) (x : A) (r : Place) → Span a p x r → Halt (b x) r f → Halt (a ⟫= b) p f
  bind_halt p f x r s h = record {
    us = s.us ++ h.us;
    vs = h.vs;
    parts = parts_then p.rest s.us h.us r.rest h.vs s.parts h.parts;
    at = at_then p.at r.at (token_of f) s.us h.us s.at h.at;
    again = λ ws e. inr (x, place r.at (h.us ++ ws), on a p x r s h.us h.vs ws h.parts e, h.again ws e);
  }

  bind_halts : (p : Place) (f : Fault) → (a ⟫= b).Stuck p f → Halt (a ⟫= b) p f
  bind_halts p f (inl h) = let s : Halt a p f = la.halts p f h in record { us = s.us; vs = s.vs; parts = s.parts; at = s.at; again = λ ws e. inl (s.again ws e) }
  bind_halts p f (inr h) = bind_halt p f h.0 h.1 (la.spans p h.0 h.1 h.2) ((lb h.0).halts h.1 f h.3)

  pub local_bind : Local (a ⟫= b)
  local_bind = record { spans = λ p y q h. bind_span p y q h.0 h.1 (la.spans p h.0 h.1 h.2) ((lb h.0).spans h.1 y q h.3); halts = bind_halts }

pub local_then : {A B : Type 0} {a : Form A} {b : A → Form B} → Local a → ((x : A) → Local (b x)) → Local (a ⟫= b)
local_then {a} {b} la lb = local_bind a b la lb

pub local_last : {A B : Type 0} {a : Form A} (f : A → B) → Local a → Local (a ⟫= λ x. give (f x))
local_last f la = local_then la (λ x. local_give (f x))

-- ---- choices

-- the first token, where others come behind
first_stays : (p : Place) (us vs ws : List Token) → p.rest ≡ us ++ vs → first_of ws ≡ first_of vs → first_of (us ++ ws) ≡ first_of p.rest
first_stays p us vs ws e f = first_append us vs ws f ∙ ap first_of (sym e)

kind_stays : (kind : Token → Bool) (p : Place) (us vs ws : List Token) → p.rest ≡ us ++ vs → first_of ws ≡ first_of vs → begins kind (us ++ ws) ≡ begins kind p.rest
kind_stays kind p us vs ws e f = begins_same kind p.rest (us ++ ws) (first_stays p us vs ws e f)

module _ {A : Type 0} (n : ℕ) (F : Token → Form A) (l : (t : Token) → Local (F t)) where
  first_span : (p : Place) (x : A) (q : Place) (t : Token) (ts : List Token) → p.rest ≡ t ∷ ts → Span (F t) p x q → Span (by_first n F) p x q
  first_span p x q t ts e s = record {
    us = s.us;
    parts = s.parts;
    at = s.at;
    again = λ ws f. let r = rest_some t (s.us ++ ws) (first_stays p s.us q.rest ws s.parts f ∙ ap first_of e) in (t, r.0, r.1, s.again ws f);
  }

  first_halt : (p : Place) (f : Fault) (t : Token) (ts : List Token) → p.rest ≡ t ∷ ts → Halt (F t) p f → Halt (by_first n F) p f
  first_halt p f t ts e s = record {
    us = s.us;
    vs = s.vs;
    parts = s.parts;
    at = s.at;
    again = λ ws g. let r = rest_some t (s.us ++ ws) (first_stays p s.us s.vs ws s.parts g ∙ ap first_of e) in inr (t, r.0, r.1, s.again ws g);
  }

  first_halts : (p : Place) (f : Fault) → (by_first n F).Stuck p f → Halt (by_first n F) p f
  first_halts p f (inl h) = record { us = []; vs = p.rest; parts = refl; at = here_at n p f h.1; again = λ ws e. inl (rest_none p.rest ws e h.0, h.1 ∙ refusal_same n p.at p.rest ws e) }
  first_halts p f (inr h) = first_halt p f h.0 h.1 h.2 ((l h.0).halts p f h.3)

  pub local_first : Local (by_first n F)
  local_first = record { spans = λ p x q h. first_span p x q h.0 h.1 h.2 ((l h.0).spans p x q h.3); halts = first_halts }

module _ {A : Type 0} (kind : Token → Bool) (a : Form A) (y : A) (la : Local a) where
  optional_spans : (p : Place) (x : A) (q : Place) → (optional kind a y).Reads p x q → Span (optional kind a y) p x q
  optional_spans p x q (inl h) =
      let s : Span a p x q = la.spans p x q h.1 in
      record { us = s.us; parts = s.parts; at = s.at; again = λ ws e. inl (kind_stays kind p s.us q.rest ws s.parts e ∙ h.0, s.again ws e) }
  optional_spans p x q (inr h) = record {
    us = [];
    parts = ap (λ r. r.rest) (sym h.2);
    at = same_place p q h.2;
    again = λ ws e. inr (begins_same kind q.rest ws e ∙ ap (λ r. begins kind r.rest) h.2 ∙ h.0, h.1, ap (λ r. place r.at ws) h.2);
  }

  optional_halts : (p : Place) (f : Fault) → (optional kind a y).Stuck p f → Halt (optional kind a y) p f
  optional_halts p f h =
      let s : Halt a p f = la.halts p f h.1 in record { us = s.us; vs = s.vs; parts = s.parts; at = s.at; again = λ ws e. (kind_stays kind p s.us s.vs ws s.parts e ∙ h.0, s.again ws e) }

  pub local_optional : Local (optional kind a y)
  local_optional = record { spans = optional_spans; halts = optional_halts }

module _ {A : Type 0} (kind : Token → Bool) (a b : Form A) (la : Local a) (lb : Local b) where
  choose_spans : (p : Place) (x : A) (q : Place) → (choose kind a b).Reads p x q → Span (choose kind a b) p x q
  choose_spans p x q (inl h) =
      let s : Span a p x q = la.spans p x q h.1 in
      record { us = s.us; parts = s.parts; at = s.at; again = λ ws e. inl (kind_stays kind p s.us q.rest ws s.parts e ∙ h.0, s.again ws e) }
  choose_spans p x q (inr h) =
      let s : Span b p x q = lb.spans p x q h.1 in
      record { us = s.us; parts = s.parts; at = s.at; again = λ ws e. inr (kind_stays kind p s.us q.rest ws s.parts e ∙ h.0, s.again ws e) }

  choose_halts : (p : Place) (f : Fault) → (choose kind a b).Stuck p f → Halt (choose kind a b) p f
  choose_halts p f (inl h) =
      let s : Halt a p f = la.halts p f h.1 in record { us = s.us; vs = s.vs; parts = s.parts; at = s.at; again = λ ws e. inl (kind_stays kind p s.us s.vs ws s.parts e ∙ h.0, s.again ws e) }
  choose_halts p f (inr h) =
      let s : Halt b p f = lb.halts p f h.1 in record { us = s.us; vs = s.vs; parts = s.parts; at = s.at; again = λ ws e. inr (kind_stays kind p s.us s.vs ws s.parts e ∙ h.0, s.again ws e) }

  pub local_choose : Local (choose kind a b)
  local_choose = record { spans = choose_spans; halts = choose_halts }

-- ---- repetitions

module _ {A : Type 0} (kind : Token → Bool) (a : Form A) (la : Local a) where
  record Pass (p : Place) (ys : List A) (q : Place) : Type 0 where
    us : List Token
    parts : p.rest ≡ us ++ q.rest
    at : q.at ≡ p.at + length us
    again : (ws : List Token) → first_of ws ≡ first_of q.rest → Passes kind a (place p.at (us ++ ws)) ys (place q.at ws)

  pass_more : (p : Place) (y : A) (ys : List A) (r q : Place) → begins kind p.rest ≡ true → Span a p y r → Pass r ys q → Pass p (y ∷ ys) q
  pass_more p y ys r q b s h = record {
    us = s.us ++ h.us;
    parts = parts_then p.rest s.us h.us r.rest q.rest s.parts h.parts;
    at = at_then p.at r.at q.at s.us h.us s.at h.at;
    again = λ ws e. (
      place r.at (h.us ++ ws),
      kind_stays kind p (s.us ++ h.us) q.rest ws (parts_then p.rest s.us h.us r.rest q.rest s.parts h.parts) e ∙ b,
      on a p y r s h.us q.rest ws h.parts e,
      h.again ws e,
    );
  }

  passes : (p : Place) (ys : List A) (q : Place) → Passes kind a p ys q → Pass p ys q
  passes p [] q h = record { us = []; parts = ap (λ r. r.rest) (sym h); at = same_place p q h; again = λ ws e. ap (λ r. place r.at ws) h }
  passes p (y ∷ ys) q h = pass_more p y ys h.0 q h.1 (la.spans p y h.0 h.2) (passes h.0 ys q h.3)

  more_span : (found : List A) (p : Place) (xs : List A) (q : Place) (ys : List A) → xs ≡ found ++ ys → begins kind q.rest ≡ false → Pass p ys q → Span (more kind a found) p xs q
  more_span found p xs q ys g b s = record { us = s.us; parts = s.parts; at = s.at; again = λ ws e. (ys, g, s.again ws e, begins_same kind q.rest ws e ∙ b) }

  more_halt : (found : List A) (p : Place) (f : Fault) (ys : List A) (q : Place) → begins kind q.rest ≡ true → Pass p ys q → Halt a q f → Halt (more kind a found) p f
  more_halt found p f ys q b s h = record {
    us = s.us ++ h.us;
    vs = h.vs;
    parts = parts_then p.rest s.us h.us q.rest h.vs s.parts h.parts;
    at = at_then p.at q.at (token_of f) s.us h.us s.at h.at;
    again = λ ws e. (
      ys,
      place q.at (h.us ++ ws),
      subst (λ w. Passes kind a (place p.at w) ys (place q.at (h.us ++ ws))) (sym (append_assoc s.us h.us ws)) (s.again (h.us ++ ws) (first_stays q h.us h.vs ws h.parts e)),
      kind_stays kind q h.us h.vs ws h.parts e ∙ b,
      h.again ws e,
    );
  }

  pub local_more : (found : List A) → Local (more kind a found)
  local_more found = record {
    spans = λ p xs q h. more_span found p xs q h.0 h.1 h.3 (passes p h.0 q h.2);
    halts = λ p f h. more_halt found p f h.0 h.1 h.3 (passes p h.0 h.1 h.2) (la.halts h.1 f h.4);
  }

-- ---- the words made of these

pub local_allowed : {A : Type 0} {a : Form A} (b : Bool) (n : ℕ) → Local a → Local (allowed b n a)
local_allowed true n la = la
local_allowed false n la = local_nothing n

pub local_opening : {A : Type 0} {inside : ℕ → ℕ → Form A} (n : ℕ) (m : Mark) → ((k at : ℕ) → Local (inside k at)) → Local (opening n m inside)
local_opening zero m l = local_nothing 0
local_opening (suc n) m l = local_then (local_sign (suc n) m) (λ at. l n at)

pub local_listing : {A : Type 0} {part : Form A} (n : ℕ) (close : Mark) → Local part → Local (listing n close part)
local_listing {A} {part} n close l =
    local_choose (is close) (sign n close ⟫= λ _. give []) (part ⟫= λ x. more (is Comma) (sign n Comma ⟫= λ _. part) (x ∷ []) ⟫= λ xs. sign n close ⟫= λ _. give xs)
    (local_then (local_sign n close) (λ _. local_give []))
    (local_then l (λ x. local_then (local_more (is Comma) (sign n Comma ⟫= λ _. part) (local_then (local_sign n Comma) (λ _. l)) (x ∷ [])) (λ xs. local_then (local_sign n close) (λ _. local_give xs))))

pub local_signed : {A : Type 0} {part : Form A} (n : ℕ) (m : Mark) → Local part → Local (signed n m part)
local_signed {A} n m l = local_then (local_sign n m) (λ s. local_then l (λ y. local_give {A = ℕ × A} (s, y)))

pub local_chain : {A : Type 0} {part : Form A} (n : ℕ) (m : Mark) (make : List A → List ℕ → A) → Local part → Local (chain n m make part)
local_chain {A} {part} n m make l =
    local_then l (λ x. local_optional (is m) (signed n m part ⟫= λ y. more (is m) (signed n m part) (y ∷ []) ⟫= λ ys. give (make (x ∷ map (λ z. z.1) ys) (map (λ z. z.0) ys))) x
    (local_then (local_signed n m l) (λ y. local_last (λ ys. make (x ∷ map (λ z. z.1) ys) (map (λ z. z.0) ys)) (local_more (is m) (signed n m part) (local_signed n m l) (y ∷ [])))))
