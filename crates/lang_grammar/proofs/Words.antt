-- The words with parts are read rightly.
use Rattle.std.proofs.Common.{◌≡◌, ℕ, zero, suc, ◌+◌, ◌<◌, ◌≤◌, Bool, true, false, List, [], ◌∷◌, ◌++◌, length, Ok, Err, refl, sym, ap, subst, ◌∙◌, append_assoc, arith, length-append, inl, inr, if◌then◌else◌}
use Rattle.std.specs.Prelude.{◌||◌, not, map, Option, Some, None}
use Rattle.std.proofs.lemmas.List.{append-nil}
use Rattle.lang_lexer.specs.declared.token.Mark.{Mark}
use Rattle.lang_lexer.specs.declared.token.Mark.TheVariants.{Comma}
use Rattle.lang_lexer.specs.declared.token.Token.{Token}
use Rattle.lang_lexer.specs.declared.token.Token.TheVariants.{Sign, Name}
use Rattle.lang_grammar.specs.declared.fault.Fault.{Fault}
use Rattle.lang_grammar.specs.Place.{Place, place, Outcome, Parser, and_then, is, begins, first_of, first, sees, refusal, ◌>>=◌, pure}
use Rattle.lang_grammar.specs.Forms.{Form, give, number_here, sign, name, number, text, ◌⟫=◌, by_first, optional, choose, AreAll, Passes, more, allowed, opening, listing, signed, chain}
use Rattle.lang_grammar.specs.Rules as rules
use Rattle.lang_grammar.proofs.Right.{Lies, lies_none, lies_then, lies_shorter, Found, Says, Right, Starts, none, begins_none, begins_left, begins_right, begins_split, some_begins, is_sign, is_self, done, done_is, place_is, right_nothing, right_give, right_sign, right_bind, right_then, right_till, right_last}

-- ---- what begins a form

pub starts_sign_alone : (n : ℕ) (m : Mark) → Starts (is m) (sign n m)
starts_sign_alone n m k x xs h = ap (begins (is m)) h.1 ∙ ap (is m) h.2.0 ∙ is_self m

pub starts_bind : {A B : Type 0} (kind : Token → Bool) (a : Form A) (b : A → Form B) → Starts kind a → Starts kind (a ⟫= b)
starts_bind kind a b s k y zs h = ap (begins kind) h.3 ∙ begins_split kind h.1 h.2 (s k h.0 h.1 h.4)

pub starts_sign : {B : Type 0} (n : ℕ) (m : Mark) (b : ℕ → Form B) → Starts (is m) (sign n m ⟫= b)
starts_sign n m b = starts_bind (is m) (sign n m) b (starts_sign_alone n m)

pub starts_first : {A : Type 0} (kind : Token → Bool) (n : ℕ) (F : Token → Form A) → ((t : Token) (k : ℕ) (x : A) (xs : List Token) → (F t).Is k x xs → kind t ≡ true) → Starts kind (by_first n F)
starts_first kind n F s k x xs h = ap (begins kind) h.2 ∙ s h.0 k x xs h.3

abbrev pub is_name : Token → Bool
is_name (Name w) = true
is_name _ = false

abbrev pub any : Token → Bool
any t = true

pub starts_any : {A : Type 0} (kind : Token → Bool) (F : Form A) → Starts kind F → Starts any F
starts_any kind F s k x xs h = any_begins kind xs (s k x xs h)
  where
    any_begins : (kind : Token → Bool) (xs : List Token) → begins kind xs ≡ true → begins any xs ≡ true
    any_begins kind [] e = cc
    any_begins kind (t ∷ ts) e = refl

-- ---- one of several forms

module _ {A : Type 0} (n : ℕ) (F : Token → Form A) (G : Option Token → Parser A) (T : Token → Bool) (empty : (k : ℕ) → G None (place k []) ≡ Err (refusal n (place k [])))
    (rf : (t : Token) → Right (F t) (G (Some t)) T) (sf : (t : Token) → Starts any (F t)) where
  abbrev by_next : Parser A
  by_next p = G (first p) p

  first_tokens : (t : Token) (ts us vs : List Token) → begins any us ≡ true → t ∷ ts ≡ us ++ vs → (ws : List Token) × (us ≡ t ∷ ws)
  first_tokens t ts [] vs some e = absurd cc
  first_tokens t ts (u ∷ us) vs some e = (us, cc)

  first_says_by : (t : Token) (ts : List Token) (k : ℕ) (o : Outcome A) → Says (F t) (place k (t ∷ ts)) o → Says (by_first n F) (place k (t ∷ ts)) o
  first_says_by t ts k (Ok x) h =
      let front = first_tokens t ts h.tokens x.1.rest (sf t k x.0 h.tokens h.is) h.lies.parts in
      record { reads = (t, ts, refl, h.reads); tokens = h.tokens; is = (t, front.0, front.1, h.is); lies = h.lies }
  first_says_by t ts k (Err f) h = inr (t, ts, refl, h)

  first_says : (k : ℕ) (ts : List Token) → Says (by_first n F) (place k ts) (by_next (place k ts))
  first_says k [] = subst (λ o. Says (by_first n F) (place k []) o) (sym (empty k)) (inl (refl, refl))
  first_says k (t ∷ ts) = first_says_by t ts k (G (Some t) (place k (t ∷ ts))) ((rf t).says (place k (t ∷ ts)))

  first_reads : (p : Place) (x : A) (q : Place) (t : Token) (ts : List Token) → p.rest ≡ t ∷ ts → (F t).Reads p x q → by_next p ≡ Ok (x, q)
  first_reads p x q t ts e h = ap (λ w. G (first_of w) p) e ∙ (rf t).reads p x q h

  first_stuck : (p : Place) (f : Fault) → (by_first n F).Stuck p f → by_next p ≡ Err f
  first_stuck p f (inl h) = ap (λ w. by_next (place p.at w)) h.0 ∙ empty p.at ∙ ap (λ w. Err (refusal n (place p.at w))) (sym h.0) ∙ ap (λ (g : Fault). Err g) (sym h.1)
  first_stuck p f (inr h) = ap (λ w. G (first_of w) p) h.2 ∙ (rf h.0).stuck p f h.3

  pub right_first : Right (by_first n F) by_next T
  right_first = record {
    says = λ p. first_says p.at p.rest;
    reads = λ p x q h. first_reads p x q h.0 h.1 h.2 h.3;
    stuck = first_stuck;
    whole = λ k x xs rest h e. ap (λ w. G (first_of (w ++ rest)) (place k (xs ++ rest))) h.2 ∙ (rf h.0).whole k x xs rest h.3 e;
  }

-- ---- an optional form

module _ {A : Type 0} (kind : Token → Bool) (a : Form A) (y : A) (r : Parser A) (S : Token → Bool) (ra : Right a r S) (sa : Starts kind a) where
  abbrev maybe_if : Place → Bool → Outcome A
  maybe_if p b = if b then r p else Ok (y, p)

  abbrev maybe : Parser A
  maybe p = maybe_if p (begins kind p.rest)

  maybe_found : (p : Place) → begins kind p.rest ≡ true → (o : Outcome A) → Says a p o → Says (optional kind a y) p o
  maybe_found p e (Ok x) h = record { reads = inl (e, h.reads); tokens = h.tokens; is = inl h.is; lies = h.lies }
  maybe_found p e (Err f) h = (e, h)

  maybe_says : (p : Place) (b : Bool) → begins kind p.rest ≡ b → Says (optional kind a y) p (maybe_if p b)
  maybe_says p true e = maybe_found p e (r p) (ra.says p)
  maybe_says p false e = record { reads = inr (e, refl, refl); tokens = []; is = inr (refl, refl); lies = lies_none p }

  maybe_reads : (p : Place) (x : A) (q : Place) → (optional kind a y).Reads p x q → maybe p ≡ Ok (x, q)
  maybe_reads p x q (inl h) = ap (maybe_if p) h.0 ∙ ra.reads p x q h.1
  maybe_reads p x q (inr h) = ap (maybe_if p) h.0 ∙ done_is y x p q (sym h.1) (sym h.2)

  maybe_whole : (k : ℕ) (x : A) (xs rest : List Token) → (optional kind a y).Is k x xs → begins (λ t. S t || kind t) rest ≡ false → maybe (place k (xs ++ rest)) ≡ done x (place (k + length xs) rest)
  maybe_whole k x xs rest (inl h) e = ap (maybe_if (place k (xs ++ rest))) (begins_split kind xs rest (sa k x xs h)) ∙ ra.whole k x xs rest h (begins_left S kind rest e)
  maybe_whole k x xs rest (inr h) e =
      ap (λ w. maybe (place k (w ++ rest))) h.1 ∙ ap (maybe_if (place k rest)) (begins_right S kind rest e)
      ∙ done_is y x (place k rest) (place (k + length xs) rest) (sym h.0) (place_is k (k + length xs) rest rest (omega (arith, ap length h.1)) refl)

  pub right_optional : Right (optional kind a y) maybe (λ t. S t || kind t)
  right_optional = record {
    says = λ p. maybe_says p (begins kind p.rest) refl;
    reads = maybe_reads;
    stuck = λ p f h. ap (maybe_if p) h.0 ∙ ra.stuck p f h.1;
    whole = maybe_whole;
  }

-- ---- one of two forms

module _ {A : Type 0} (kind other : Token → Bool) (a b : Form A) (r s : Parser A) (T : Token → Bool) (ra : Right a r T) (rb : Right b s T) (sa : Starts kind a) (sb : Starts other b)
    (apart : (t : Token) → kind t ≡ true → other t ≡ false) where
  abbrev either_if : Place → Bool → Outcome A
  either_if p c = if c then r p else s p

  abbrev either : Parser A
  either p = either_if p (begins kind p.rest)

  either_left : (p : Place) → begins kind p.rest ≡ true → (o : Outcome A) → Says a p o → Says (choose kind a b) p o
  either_left p e (Ok x) h = record { reads = inl (e, h.reads); tokens = h.tokens; is = inl h.is; lies = h.lies }
  either_left p e (Err f) h = inl (e, h)

  either_right : (p : Place) → begins kind p.rest ≡ false → (o : Outcome A) → Says b p o → Says (choose kind a b) p o
  either_right p e (Ok x) h = record { reads = inr (e, h.reads); tokens = h.tokens; is = inr h.is; lies = h.lies }
  either_right p e (Err f) h = inr (e, h)

  either_says : (p : Place) (c : Bool) → begins kind p.rest ≡ c → Says (choose kind a b) p (either_if p c)
  either_says p true e = either_left p e (r p) (ra.says p)
  either_says p false e = either_right p e (s p) (rb.says p)

  either_reads : (p : Place) (x : A) (q : Place) → (choose kind a b).Reads p x q → either p ≡ Ok (x, q)
  either_reads p x q (inl h) = ap (either_if p) h.0 ∙ ra.reads p x q h.1
  either_reads p x q (inr h) = ap (either_if p) h.0 ∙ rb.reads p x q h.1

  either_stuck : (p : Place) (f : Fault) → (choose kind a b).Stuck p f → either p ≡ Err f
  either_stuck p f (inl h) = ap (either_if p) h.0 ∙ ra.stuck p f h.1
  either_stuck p f (inr h) = ap (either_if p) h.0 ∙ rb.stuck p f h.1

  not_kind : (t : Token) (c : Bool) → kind t ≡ c → other t ≡ true → c ≡ false
  not_kind t true e h = let f = apart t e in cc
  not_kind t false e h = refl

  others : (xs rest : List Token) → begins other xs ≡ true → begins kind (xs ++ rest) ≡ false
  others [] rest e = cc
  others (t ∷ ts) rest e = not_kind t (kind t) refl e

  either_whole : (k : ℕ) (x : A) (xs rest : List Token) → (choose kind a b).Is k x xs → begins T rest ≡ false → either (place k (xs ++ rest)) ≡ done x (place (k + length xs) rest)
  either_whole k x xs rest (inl h) e = ap (either_if (place k (xs ++ rest))) (begins_split kind xs rest (sa k x xs h)) ∙ ra.whole k x xs rest h e
  either_whole k x xs rest (inr h) e = ap (either_if (place k (xs ++ rest))) (others xs rest (sb k x xs h)) ∙ rb.whole k x xs rest h e

  pub right_choose : Right (choose kind a b) either T
  right_choose = record {
    says = λ p. either_says p (begins kind p.rest) refl;
    reads = either_reads;
    stuck = either_stuck;
    whole = either_whole;
  }

-- ---- a repetition

-- turns that are one more than another number
pub turns_from : (n t : ℕ) → n < t → (s : ℕ) × (t ≡ suc s) × (n ≤ s)
turns_from n zero lt = absurd (omega arith)
turns_from n (suc s) lt = (s, refl, omega arith)

module _ {A : Type 0} (kind : Token → Bool) (n : ℕ) (a : Form A) (r : Parser A) (S : Token → Bool) (ra : Right a r S) (sa : Starts kind a) (apart : (t : Token) → kind t ≡ true → S t ≡ false) where
  abbrev go : ℕ → List A → Parser (List A)
  go = rules.many_from kind n r

  abbrev turn_if : ℕ → List A → Place → Bool → Outcome (List A)
  turn_if t found p b = if b then and_then (r p) (λ x. go t (found ++ x ∷ [])) else Ok (found, p)

  turn : (t : ℕ) (found : List A) (p : Place) → go (suc t) found p ≡ turn_if t found p (begins kind p.rest)
  unfolding rules.many_from
  turn t found p = refl

  -- what was found from a place on, behind what was found before
  pub record Further (found : List A) (p : Place) (xs : List A) (q : Place) : Type 0 where
    pub ys : List A
    pub same : xs ≡ found ++ ys
    pub passes : Passes kind a p ys q
    pub ends : begins kind q.rest ≡ false
    pub tokens : List Token
    pub are : AreAll kind a p.at ys tokens
    pub lies : Lies p tokens q

  abbrev GoSays : List A → Place → Outcome (List A) → Type 0
  GoSays found p (Ok z) = Further found p z.0 z.1
  GoSays found p (Err f) = (ys : List A) × (q : Place) × Passes kind a p ys q × (begins kind q.rest ≡ true) × a.Stuck q f

  go_behind : (found : List A) (p : Place) (x : A) (q : Place) → begins kind p.rest ≡ true → Found a p x q → (o : Outcome (List A)) → GoSays (found ++ x ∷ []) q o → GoSays found p o
  go_behind found p x q e h (Ok z) g = record {
    ys = x ∷ g.ys;
    same = g.same ∙ append_assoc found (x ∷ []) g.ys;
    passes = (q, e, h.reads, g.passes);
    ends = g.ends;
    tokens = h.tokens ++ g.tokens;
    are = (h.tokens, g.tokens, refl, h.is, subst (λ j. AreAll kind a j g.ys g.tokens) h.lies.at g.are);
    lies = lies_then p q z.1 h.tokens g.tokens h.lies g.lies;
  }
  go_behind found p x q e h (Err f) g = (x ∷ g.0, g.1, (q, e, h.reads, g.2), g.3, g.4)

  shorter : (p : Place) (x : A) (q : Place) → Found a p x q → length q.rest < length p.rest
  shorter p x q h = omega (arith, lies_shorter p q h.tokens h.lies, some_begins kind h.tokens (sa p.at x h.tokens h.is))

  module _ (t : ℕ) (rec : (found : List A) (p : Place) → length p.rest < t → GoSays found p (go t found p)) where
    go_item : (found : List A) (p : Place) → begins kind p.rest ≡ true → length p.rest < suc t → (o : Outcome A) → Says a p o → GoSays found p (and_then o (λ x. go t (found ++ x ∷ [])))
    go_item found p e lt (Ok x) h = go_behind found p x.0 x.1 e h (go t (found ++ x.0 ∷ []) x.1) (rec (found ++ x.0 ∷ []) x.1 (let s = shorter p x.0 x.1 h in omega arith))
    go_item found p e lt (Err f) h = ([], p, refl, e, h)

    go_turn : (found : List A) (p : Place) → length p.rest < suc t → (b : Bool) → begins kind p.rest ≡ b → GoSays found p (turn_if t found p b)
    go_turn found p lt true e = go_item found p e lt (r p) (ra.says p)
    go_turn found p lt false e = record { ys = []; same = sym (append-nil found); passes = refl; ends = e; tokens = []; are = refl; lies = lies_none p }

  go_says : (t : ℕ) (found : List A) (p : Place) → length p.rest < t → GoSays found p (go t found p)
  go_says zero found p lt = absurd (omega arith)
  go_says (suc t) found p lt = subst (λ o. GoSays found p o) (sym (turn t found p)) (go_turn t (go_says t) found p lt (begins kind p.rest) refl)

  read_shorter : (p : Place) (x : A) (q : Place) → a.Reads p x q → length q.rest < length p.rest
  read_shorter p x q h = shorter p x q (subst (λ o. Says a p o) (ra.reads p x q h) (ra.says p))

  -- after items that were passed it goes on behind them
  go_passes : (ys : List A) (t : ℕ) (found : List A) (p q : Place) → Passes kind a p ys q → length p.rest < t → (s : ℕ) × (length q.rest < s) × (go t found p ≡ go s (found ++ ys) q)
  go_passes [] t found p q h lt = (t, (let e : length q.rest ≡ length p.rest = ap (λ (w : Place). length w.rest) h in omega arith), ap (λ w. go t found w) (sym h) ∙ ap (λ w. go t w q) (sym (append-nil found)))
  go_passes (x ∷ ys) t found p q h lt =
      let u = turns_from (length p.rest) t lt in
      let s = go_passes ys u.0 (found ++ x ∷ []) h.0 q h.3 (let z = read_shorter p x h.0 h.2 in omega (arith, u.2)) in
      (s.0, s.1, ap (λ w. go w found p) u.1 ∙ turn u.0 found p ∙ ap (turn_if u.0 found p) h.1 ∙ ap (λ o. and_then o (λ y. go u.0 (found ++ y ∷ []))) (ra.reads p x h.0 h.2) ∙ s.2 ∙ ap (λ w. go s.0 w q) (append_assoc found (x ∷ []) ys))

  go_reads : (ys : List A) (t : ℕ) (found : List A) (p q : Place) → Passes kind a p ys q → begins kind q.rest ≡ false → length p.rest < t → go t found p ≡ done (found ++ ys) q
  go_reads ys t found p q h e lt =
      let s = go_passes ys t found p q h lt in let u = turns_from (length q.rest) s.0 s.1 in
      s.2 ∙ ap (λ w. go w (found ++ ys) q) u.1 ∙ turn u.0 (found ++ ys) q ∙ ap (turn_if u.0 (found ++ ys) q) e

  go_stuck : (ys : List A) (t : ℕ) (found : List A) (p q : Place) (f : Fault) → Passes kind a p ys q → begins kind q.rest ≡ true → a.Stuck q f → length p.rest < t → go t found p ≡ Err f
  go_stuck ys t found p q f h e g lt =
      let s = go_passes ys t found p q h lt in let u = turns_from (length q.rest) s.0 s.1 in
      s.2 ∙ ap (λ w. go w (found ++ ys) q) u.1 ∙ turn u.0 (found ++ ys) q ∙ ap (turn_if u.0 (found ++ ys) q) e ∙ ap (λ o. and_then o (λ x. go u.0 ((found ++ ys) ++ x ∷ []))) (ra.stuck q f g)

  all_begin : (k : ℕ) (ys : List A) (zs rest : List Token) → AreAll kind a k ys zs → begins (λ t. S t || kind t) rest ≡ false → begins S (zs ++ rest) ≡ false
  all_begin k [] zs rest h e = ap (λ w. begins S (w ++ rest)) h ∙ begins_left S kind rest e
  all_begin k (y ∷ ys) zs rest h e = ap (λ w. begins S (w ++ rest)) h.2 ∙ item_begins h.0 h.1 rest (sa k y h.0 h.3)
    where
      item_begins : (us vs rest : List Token) → begins kind us ≡ true → begins S ((us ++ vs) ++ rest) ≡ false
      item_begins [] vs rest e = cc
      item_begins (u ∷ us) vs rest e = apart u e

  go_whole : (ys : List A) (t : ℕ) (found : List A) (k : ℕ) (zs rest : List Token) → AreAll kind a k ys zs → begins (λ t. S t || kind t) rest ≡ false → length (zs ++ rest) < t
      → go t found (place k (zs ++ rest)) ≡ done (found ++ ys) (place (k + length zs) rest)
  go_whole [] t found k zs rest h e lt =
      let u = turns_from (length (zs ++ rest)) t lt in
      ap (λ w. go t found (place k (w ++ rest))) h ∙ ap (λ w. go w found (place k rest)) u.1 ∙ turn u.0 found (place k rest) ∙ ap (turn_if u.0 found (place k rest)) (begins_right S kind rest e)
      ∙ done_is found (found ++ []) (place k rest) (place (k + length zs) rest) (sym (append-nil found)) (place_is k (k + length zs) rest rest (let z : length zs ≡ 0 = ap length h in omega arith) refl)
  go_whole (y ∷ ys) t found k zs rest h e lt =
      let us = h.0 in let vs = h.1 in
      let u = turns_from (length (zs ++ rest)) t lt in
      let len : length zs ≡ length us + length vs = ap length h.2 ∙ length-append us vs in
      let all : length (zs ++ rest) ≡ length zs + length rest = length-append zs rest in
      let back : length (vs ++ rest) ≡ length vs + length rest = length-append vs rest in
      let some : 0 < length us = some_begins kind us (sa k y us h.3) in
      ap (λ w. go t found (place k (w ++ rest))) h.2 ∙ ap (λ w. go t found (place k w)) (append_assoc us vs rest) ∙ ap (λ w. go w found (place k (us ++ (vs ++ rest)))) u.1
      ∙ turn u.0 found (place k (us ++ (vs ++ rest))) ∙ ap (turn_if u.0 found (place k (us ++ (vs ++ rest)))) (begins_split kind us (vs ++ rest) (sa k y us h.3))
      ∙ ap (λ o. and_then o (λ x. go u.0 (found ++ x ∷ []))) (ra.whole k y us (vs ++ rest) h.3 (all_begin (k + length us) ys vs rest h.4 e))
      ∙ go_whole ys u.0 (found ++ y ∷ []) (k + length us) vs rest h.4 e (omega (arith, u.2))
      ∙ done_is ((found ++ y ∷ []) ++ ys) (found ++ y ∷ ys) (place (k + length us + length vs) rest) (place (k + length zs) rest) (append_assoc found (y ∷ []) ys) (place_is (k + length us + length vs) (k + length zs) rest rest (omega arith) refl)

  more_says : (found : List A) (p : Place) (o : Outcome (List A)) → GoSays found p o → Says (more kind a found) p o
  more_says found p (Ok z) g = record { reads = (g.ys, g.same, g.passes, g.ends); tokens = g.tokens; is = (g.ys, g.same, g.are); lies = g.lies }
  more_says found p (Err f) g = g

  pub right_more : (found : List A) → Right (more kind a found) (rules.more kind n r found) (λ t. S t || kind t)
  right_more found = record {
    says = λ p. more_says found p (go (length p.rest + 1) found p) (go_says (length p.rest + 1) found p (omega arith));
    reads = λ p xs q h. go_reads h.0 (length p.rest + 1) found p q h.2 h.3 (omega arith) ∙ ap (λ w. done w q) (sym h.1);
    stuck = λ p f h. go_stuck h.0 (length p.rest + 1) found p h.1 f h.2 h.3 h.4 (omega arith);
    whole = λ k xs zs rest h e. go_whole h.0 (length (zs ++ rest) + 1) found k zs rest h.2 e (omega arith) ∙ ap (λ w. done w (place (k + length zs) rest)) (sym h.1);
  }

  pub follow_more : (found : List A) (k : ℕ) (xs : List A) (zs rest : List Token) → (more kind a found).Is k xs zs → begins (λ t. S t || kind t) rest ≡ false → begins S (zs ++ rest) ≡ false
  follow_more found k xs zs rest h e = all_begin k h.0 zs rest h.2 e

-- ---- what may follow

-- behind a sentence that the kind S may carry on, a sentence of F doesn't, where what follows begins with no token of T
abbrev pub Follows : {A : Type 0} → (Token → Bool) → (Token → Bool) → Form A → Type 0
Follows {A} S T F = (k : ℕ) (x : A) (xs rest : List Token) → F.Is k x xs → begins T rest ≡ false → begins S (xs ++ rest) ≡ false

pub apart_sign : (m : Mark) (S : Token → Bool) → S (Sign m) ≡ false → (t : Token) → is m t ≡ true → S t ≡ false
apart_sign m S e t h = ap S (is_sign m t h) ∙ e

pub follow_sign : {A : Type 0} (m : Mark) (S T : Token → Bool) (F : Form A) → S (Sign m) ≡ false → Starts (is m) F → Follows S T F
follow_sign m S T F e starts k x xs rest h w = not_carried xs (starts k x xs h)
  where
    not_carried : (ys : List Token) → begins (is m) ys ≡ true → begins S (ys ++ rest) ≡ false
    not_carried [] g = cc
    not_carried (t ∷ ys) g = apart_sign m S e t g

pub follow_last : {A B : Type 0} (S T : Token → Bool) (a : Form A) (f : A → B) → Follows S T a → Follows S T (a ⟫= λ x. give (f x))
follow_last S T a f follows k y zs rest h w =
    let e : h.1 ++ h.2 ≡ h.1 = ap (λ v. h.1 ++ v) h.5.1 ∙ append-nil h.1 in
    ap (λ v. begins S (v ++ rest)) (h.3 ∙ e) ∙ follows k h.0 h.1 rest h.4 w

pub follow_optional : {A : Type 0} (kind S T : Token → Bool) (a : Form A) (y : A) → Starts kind a → ((t : Token) → kind t ≡ true → S t ≡ false) → ((rest : List Token) → begins T rest ≡ false → begins S rest ≡ false)
    → Follows S T (optional kind a y)
follow_optional kind S T a y starts apart within k x xs rest (inl h) w = not_carried xs (starts k x xs h)
  where
    not_carried : (ys : List Token) → begins kind ys ≡ true → begins S (ys ++ rest) ≡ false
    not_carried [] g = cc
    not_carried (t ∷ ys) g = apart t g
follow_optional kind S T a y starts apart within k x xs rest (inr h) w = ap (λ v. begins S (v ++ rest)) h.1 ∙ within rest w

pub follow_till : {A B : Type 0} (m : Mark) (S U T : Token → Bool) (a : Form A) (b : A → Form B) → Follows S U a → U (Sign m) ≡ false → ((x : A) → Starts (is m) (b x)) → Follows S T (a ⟫= b)
follow_till {A} {B} m S U T a b follows e starts k y zs rest h w =
    ap (λ v. begins S (v ++ rest)) h.3 ∙ ap (begins S) (append_assoc h.1 h.2 rest) ∙ follows k h.0 h.1 (h.2 ++ rest) h.4 (follow_sign m U T (b h.0) e (starts h.0) (k + length h.1) y h.2 rest h.5 w)

-- ---- one and the same function

pub right_same : {A : Type 0} {F : Form A} {T : Token → Bool} (r s : Parser A) → ((p : Place) → s p ≡ r p) → Right F r T → Right F s T
right_same {A} {F} {T} r s same rr = record {
  says = λ p. subst (λ o. Says F p o) (sym (same p)) (rr.says p);
  reads = λ p x q h. same p ∙ rr.reads p x q h;
  stuck = λ p f h. same p ∙ rr.stuck p f h;
  whole = λ k x xs rest h e. same (place k (xs ++ rest)) ∙ rr.whole k x xs rest h e;
}

-- more tokens may carry it on
pub right_within : {A : Type 0} {F : Form A} {r : Parser A} (S T : Token → Bool) → ((rest : List Token) → begins T rest ≡ false → begins S rest ≡ false) → Right F r S → Right F r T
right_within S T within rr = record { says = rr.says; reads = rr.reads; stuck = rr.stuck; whole = λ k x xs rest h e. rr.whole k x xs rest h (within rest e) }

pub right_any : {A : Type 0} {F : Form A} {r : Parser A} (T : Token → Bool) → Right F r none → Right F r T
right_any T rr = right_within none T (λ rest e. begins_none rest) rr

-- ---- forms that are allowed in one kind of text

pub right_allowed : {A : Type 0} {a : Form A} {r : Parser A} {T : Token → Bool} (n : ℕ) (b : Bool) → Right a r T → Right (allowed b n a) (λ p. if b then r p else Err (refusal n p)) T
right_allowed n true rr = rr
right_allowed n false rr = right_nothing n

pub right_denied : {A : Type 0} {a : Form A} {r : Parser A} {T : Token → Bool} (n : ℕ) (b : Bool) → Right a r T → Right (allowed (not b) n a) (λ p. if b then Err (refusal n p) else r p) T
right_denied n true rr = right_nothing n
right_denied n false rr = rr

pub starts_allowed : {A : Type 0} (a : Form A) (kind : Token → Bool) (n : ℕ) (b : Bool) → Starts kind a → Starts kind (allowed b n a)
starts_allowed a kind n true s = s
starts_allowed a kind n false s = λ k x xs h. absurd h

pub right_opened : (n : ℕ) (m : Mark) → Right (sign (suc n) m) (rules.sign (suc n) m) none
right_opened n m = right_sign (suc n) m none

pub starts_opening : {A : Type 0} (n : ℕ) (m : Mark) (inside : ℕ → ℕ → Form A) → Starts (is m) (opening n m inside)
starts_opening zero m inside = λ k x xs h. absurd h
starts_opening (suc n) m inside = starts_sign (suc n) m (inside n)

-- ---- lists

-- the tokens that carry a list on, of which the kind S carries a part on
abbrev pub with_comma : (Token → Bool) → Token → Bool
with_comma S t = S t || is Comma t

module _ {A : Type 0} (n : ℕ) (close : Mark) (part : Form A) (r : Parser A) (S other : Token → Bool) (rp : Right part r S) (sp : Starts other part)
    (comma : S (Sign Comma) ≡ false) (closes : with_comma S (Sign close) ≡ false) (no_other : other (Sign close) ≡ false) where
  comma_part : Right (sign n Comma ⟫= λ _. part) (rules.next_part n r) S
  comma_part = right_then S (right_sign n Comma none) (λ _. rp)

  abbrev behind_comma : Form A
  behind_comma = sign n Comma ⟫= λ _. part

  comma_apart : (t : Token) → is Comma t ≡ true → S t ≡ false
  comma_apart = apart_sign Comma S comma

  some_parts : Right (part ⟫= λ x. more (is Comma) behind_comma (x ∷ []) ⟫= λ xs. sign n close ⟫= λ _. give xs)
      (r >>= λ x. rules.more (is Comma) n (rules.next_part n r) (x ∷ []) >>= λ xs. rules.sign n close >>= λ _. pure xs) none
  some_parts =
      right_bind part (λ x. more (is Comma) behind_comma (x ∷ []) ⟫= λ xs. sign n close ⟫= λ _. give xs) r
      (λ x. rules.more (is Comma) n (rules.next_part n r) (x ∷ []) >>= λ xs. rules.sign n close >>= λ _. pure xs) S none none rp
      (λ x. right_till close (with_comma S) none (right_more (is Comma) n behind_comma (rules.next_part n r) S comma_part (starts_sign n Comma (λ _. part)) comma_apart (x ∷ []))
      closes (λ xs. starts_sign n close (λ _. give xs)) (λ xs. right_then none (right_sign n close none) (λ _. right_give xs)))
      (λ x. follow_till close S (with_comma S) none (more (is Comma) behind_comma (x ∷ [])) (λ xs. sign n close ⟫= λ _. give xs)
      (follow_more (is Comma) n behind_comma (rules.next_part n r) S comma_part (starts_sign n Comma (λ _. part)) comma_apart (x ∷ []))
      closes (λ xs. starts_sign n close (λ _. give xs)))
      (λ rest e. e)

  pub right_listing : Right (listing n close part) (rules.listing n close r) none
  unfolding rules.listing
  right_listing =
      right_choose (is close) other (sign n close ⟫= λ _. give []) (part ⟫= λ x. more (is Comma) behind_comma (x ∷ []) ⟫= λ xs. sign n close ⟫= λ _. give xs)
      (rules.sign n close >>= λ _. pure []) (r >>= λ x. rules.more (is Comma) n (rules.next_part n r) (x ∷ []) >>= λ xs. rules.sign n close >>= λ _. pure xs) none
      (right_then none (right_sign n close none) (λ _. right_give [])) some_parts (starts_sign n close (λ _. give []))
      (starts_bind other part (λ x. more (is Comma) behind_comma (x ∷ []) ⟫= λ xs. sign n close ⟫= λ _. give xs) sp)
      (apart_sign close other no_other)

-- ---- chains

pub and_then_then : {A B C : Type 0} (o : Outcome A) (f : A → Parser B) (g : B → Parser C) → and_then (and_then o f) g ≡ and_then o (λ x p. and_then (f x p) g)
and_then_then (Ok x) f g = refl
and_then_then (Err e) f g = refl

and_then_same : {A B : Type 0} (o : Outcome A) (f g : A → Parser B) → ((x : A) (p : Place) → f x p ≡ g x p) → and_then o f ≡ and_then o g
and_then_same (Ok x) f g h = h x.0 x.1
and_then_same (Err e) f g h = refl

map_snoc : {A B : Type 0} (f : A → B) (xs : List A) (x : A) → map f (xs ++ x ∷ []) ≡ map f xs ++ f x ∷ []
map_snoc f [] x = refl
map_snoc f (y ∷ xs) x = ap (λ w. f y ∷ w) (map_snoc f xs x)

abbrev pub with_sign : (Token → Bool) → Mark → Token → Bool
with_sign S m t = (S t || is m t) || is m t

module _ {A : Type 0} (n : ℕ) (m : Mark) (make : List A → List ℕ → A) (part : Form A) (r : Parser A) (S : Token → Bool) (rp : Right part r S) (apart : S (Sign m) ≡ false) where
  abbrev signed_part : Parser (ℕ × A)
  signed_part = rules.sign n m >>= λ s. r >>= λ y. pure (s, y)

  right_signed : Right (signed n m part) signed_part S
  right_signed = right_then S (right_sign n m none) (λ s. right_last (λ y. (s, y)) S rp)

  abbrev chain_if : A → ℕ → List (ℕ × A) → Place → Bool → Outcome A
  chain_if x t found p b =
      if b then and_then (rules.sign n m p) (λ s. r >>= λ y. rules.chain_from n m make r t ((x ∷ map (λ z. z.1) found) ++ y ∷ []) (map (λ z. z.0) found ++ s ∷ [])) else Ok (make (x ∷ map (λ z. z.1) found) (map (λ z. z.0) found), p)

  abbrev made_of : A → List (ℕ × A) → Parser A
  made_of x ys = pure (make (x ∷ map (λ z. z.1) ys) (map (λ z. z.0) ys))

  chain_turn : (x : A) (t : ℕ) (found : List (ℕ × A)) (p : Place) → rules.chain_from n m make r (suc t) (x ∷ map (λ z. z.1) found) (map (λ z. z.0) found) p ≡ chain_if x t found p (sees m p)
  unfolding rules.chain_from
  chain_turn x t found p = refl

  chain_none : (x : A) (found : List (ℕ × A)) (p : Place) → rules.chain_from n m make r 0 (x ∷ map (λ z. z.1) found) (map (λ z. z.0) found) p ≡ and_then (rules.many_from (is m) n signed_part 0 found p) (made_of x)
  unfolding rules.chain_from rules.many_from
  chain_none x found p = refl

  pairs_turn : (t : ℕ) (found : List (ℕ × A)) (p : Place) → rules.many_from (is m) n signed_part (suc t) found p
      ≡ (if sees m p then and_then (signed_part p) (λ z. rules.many_from (is m) n signed_part t (found ++ z ∷ [])) else Ok (found, p))
  unfolding rules.many_from
  pairs_turn t found p = refl

  -- a signed part and what comes behind it, read in one
  in_one : {C : Type 0} (p : Place) (f : ℕ → A → Parser C) (g : (ℕ × A) → Parser C) → ((s : ℕ) (y : A) (q : Place) → f s y q ≡ g (s, y) q)
      → and_then (rules.sign n m p) (λ s. r >>= λ y. f s y) ≡ and_then (signed_part p) g
  in_one p f g same =
      and_then_same (rules.sign n m p) (λ s. r >>= λ y. f s y) (λ s q. and_then (and_then (r q) (λ y. pure (s, y))) g)
      (λ s q. and_then_same (r q) (λ y. f s y) (λ y. g (s, y)) (λ y u. same s y u) ∙ sym (and_then_then (r q) (λ y. pure (s, y)) g))
      ∙ sym (and_then_then (rules.sign n m p) (λ s. r >>= λ y. pure (s, y)) g)

  module _ (t : ℕ) (rec : (x : A) (found : List (ℕ × A)) (p : Place) → rules.chain_from n m make r t (x ∷ map (λ z. z.1) found) (map (λ z. z.0) found) p ≡ and_then (rules.many_from (is m) n signed_part t found p) (made_of x)) where
    chain_leaf : (x : A) (found : List (ℕ × A)) (s : ℕ) (y : A) (q : Place)
        → rules.chain_from n m make r t ((x ∷ map (λ z. z.1) found) ++ y ∷ []) (map (λ z. z.0) found ++ s ∷ []) q ≡ and_then (rules.many_from (is m) n signed_part t (found ++ (s, y) ∷ []) q) (made_of x)
    chain_leaf x found s y q =
        ap (λ w. rules.chain_from n m make r t (x ∷ w) (map (λ z. z.0) found ++ s ∷ []) q) (sym (map_snoc (λ (z : ℕ × A). z.1) found (s, y)))
        ∙ ap (λ w. rules.chain_from n m make r t (x ∷ map (λ z. z.1) (found ++ (s, y) ∷ [])) w q) (sym (map_snoc (λ (z : ℕ × A). z.0) found (s, y)))
        ∙ rec x (found ++ (s, y) ∷ []) q

    chain_by : (x : A) (found : List (ℕ × A)) (p : Place) (b : Bool)
        → chain_if x t found p b ≡ and_then (if b then and_then (signed_part p) (λ z. rules.many_from (is m) n signed_part t (found ++ z ∷ [])) else Ok (found, p)) (made_of x)
    chain_by x found p true =
        in_one p (λ s y. rules.chain_from n m make r t ((x ∷ map (λ z. z.1) found) ++ y ∷ []) (map (λ z. z.0) found ++ s ∷ []))
        (λ z q. and_then (rules.many_from (is m) n signed_part t (found ++ z ∷ []) q) (made_of x)) (chain_leaf x found)
        ∙ sym (and_then_then (signed_part p) (λ z. rules.many_from (is m) n signed_part t (found ++ z ∷ [])) (made_of x))
    chain_by x found p false = refl

  chain_is : (t : ℕ) (x : A) (found : List (ℕ × A)) (p : Place) → rules.chain_from n m make r t (x ∷ map (λ z. z.1) found) (map (λ z. z.0) found) p ≡ and_then (rules.many_from (is m) n signed_part t found p) (made_of x)
  chain_is zero x found p = chain_none x found p
  chain_is (suc t) x found p = chain_turn x t found p ∙ chain_by t (chain_is t) x found p (sees m p) ∙ ap (λ o. and_then o (made_of x)) (sym (pairs_turn t found p))

  abbrev behind_form : A → Form A
  behind_form x = signed n m part ⟫= λ y. more (is m) (signed n m part) (y ∷ []) ⟫= λ ys. give (make (x ∷ map (λ z. z.1) ys) (map (λ z. z.0) ys))

  abbrev behind_pairs : A → Parser A
  behind_pairs x = signed_part >>= λ y. rules.more (is m) n signed_part (y ∷ []) >>= λ ys. pure (make (x ∷ map (λ z. z.1) ys) (map (λ z. z.0) ys))

  behind_same : (x : A) (p : Place) → rules.chain_behind n m make r x p ≡ behind_pairs x p
  unfolding rules.chain_behind
  behind_same x p = in_one p (λ s y q. rules.chain_from n m make r (length q.rest + 1) (x ∷ y ∷ []) (s ∷ []) q) (λ z q. and_then (rules.more (is m) n signed_part (z ∷ []) q) (made_of x)) (λ s y q. chain_is (length q.rest + 1) x ((s, y) ∷ []) q)

  starts_signed : Starts (is m) (signed n m part)
  starts_signed = starts_sign n m (λ s. part ⟫= λ y. give (s, y))

  sign_apart : (t : Token) → is m t ≡ true → S t ≡ false
  sign_apart = apart_sign m S apart

  right_behind : (x : A) → Right (behind_form x) (rules.chain_behind n m make r x) (λ t. S t || is m t)
  right_behind x =
      right_same (behind_pairs x) (rules.chain_behind n m make r x) (behind_same x)
      (right_bind (signed n m part) (λ y. more (is m) (signed n m part) (y ∷ []) ⟫= λ ys. give (make (x ∷ map (λ z. z.1) ys) (map (λ z. z.0) ys))) signed_part
      (λ y. rules.more (is m) n signed_part (y ∷ []) >>= λ ys. pure (make (x ∷ map (λ z. z.1) ys) (map (λ z. z.0) ys))) S (λ t. S t || is m t) (λ t. S t || is m t) right_signed
      (λ y. right_last (λ ys. make (x ∷ map (λ z. z.1) ys) (map (λ z. z.0) ys)) (λ t. S t || is m t) (right_more (is m) n (signed n m part) signed_part S right_signed starts_signed sign_apart (y ∷ [])))
      (λ y. follow_last S (λ t. S t || is m t) (more (is m) (signed n m part) (y ∷ [])) (λ ys. make (x ∷ map (λ z. z.1) ys) (map (λ z. z.0) ys))
      (follow_more (is m) n (signed n m part) signed_part S right_signed starts_signed sign_apart (y ∷ [])))
      (λ rest e. e))

  starts_behind : (x : A) → Starts (is m) (behind_form x)
  starts_behind x = starts_bind (is m) (signed n m part) (λ y. more (is m) (signed n m part) (y ∷ []) ⟫= λ ys. give (make (x ∷ map (λ z. z.1) ys) (map (λ z. z.0) ys))) starts_signed

  pub right_chain : Right (chain n m make part) (rules.chain n m make r) (with_sign S m)
  unfolding rules.chain
  right_chain =
      right_bind part (λ x. optional (is m) (behind_form x) x) r (λ x p. if sees m p then rules.chain_behind n m make r x p else Ok (x, p)) S (with_sign S m) (with_sign S m) rp
      (λ x. right_optional (is m) (behind_form x) x (rules.chain_behind n m make r x) (λ t. S t || is m t) (right_behind x) (starts_behind x))
      (λ x. follow_optional (is m) S (with_sign S m) (behind_form x) x (starts_behind x) sign_apart (λ rest e. begins_left S (is m) rest (begins_left (λ t. S t || is m t) (is m) rest e)))
      (λ rest e. e)

pub starts_chain : {A : Type 0} (n : ℕ) (m : Mark) (make : List A → List ℕ → A) (part : Form A) (kind : Token → Bool) → Starts kind part → Starts kind (chain n m make part)
starts_chain n m make part kind s =
    starts_bind kind part (λ x. optional (is m) (signed n m part ⟫= λ y. more (is m) (signed n m part) (y ∷ []) ⟫= λ ys. give (make (x ∷ map (λ z. z.1) ys) (map (λ z. z.0) ys))) x) s

pub starts_name : (n : ℕ) → Starts is_name (name n)
starts_name n k x xs h = ap (begins is_name) h.1 ∙ ap is_name h.2

pub starts_here : {B : Type 0} (kind : Token → Bool) (b : ℕ → Form B) → ((k : ℕ) → Starts kind (b k)) → Starts kind (number_here ⟫= b)
starts_here kind b s k y zs h = ap (begins kind) (h.3 ∙ ap (λ w. w ++ h.2) h.4.1) ∙ s h.0 (k + length h.1) y h.2 h.5

pub starts_one : (n : ℕ) (m : Mark) → Starts any (sign n m)
starts_one n m k x xs h = ap (begins any) h.1

pub starts_any_name : (n : ℕ) → Starts any (name n)
starts_any_name n k x xs h = ap (begins any) h.1

pub starts_any_number : (n : ℕ) → Starts any (number n)
starts_any_number n k x xs h = ap (begins any) h.1

pub starts_any_text : (n : ℕ) → Starts any (text n)
starts_any_text n k x xs h = ap (begins any) h.1

pub starts_any_opening : {A : Type 0} (n : ℕ) (m : Mark) (inside : ℕ → ℕ → Form A) → Starts any (opening n m inside)
starts_any_opening zero m inside k x xs h = absurd h
starts_any_opening (suc n) m inside k x xs h = starts_bind any (sign (suc n) m) (inside n) (starts_one (suc n) m) k x xs h
