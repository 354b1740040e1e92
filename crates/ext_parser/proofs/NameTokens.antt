-- A name of a project file is what the language of bodies has as a name.
use Rattle.std.proofs.Common.{◌≡◌, inl, inr, ℕ, ◌≤◌, Bool, true, false, List, [], ◌∷◌, length, map, refl, sym, ap, ◌∙◌, arith}
use Rattle.std.specs.Prelude.{◌≢◌, not, ◌&&◌, ◌||◌, ◌==◌, nat_le}
use Rattle.std.specs.List.{list_all, list_any}
use Rattle.std.specs.Str.{bytes_eq}
use Rattle.std.proofs.lemmas.Bool.Decides.{leb_tells}
use Rattle.std.proofs.lemmas.Slice.Eq.{bytes_eq-Decides}
use Rattle.lang_lexer.specs.declared.token.Mark.{Mark}
use Rattle.lang_lexer.specs.declared.token.Mark.TheVariants.{Let, Produce, For, In, If, Else, Call, Fail, Get, All, New, Len, True, False, Null, Me, Static, Add, Print, Return, Semi, Comma, Dot, Colon, Open, Close, OpenList, CloseList, OpenBlock, CloseBlock, Assign, Equal, Less, Plus, Bang, And}
use Rattle.lang_lexer.specs.declared.token.Token.{Token}
use Rattle.lang_lexer.specs.declared.token.Token.TheVariants.{Name}
use Rattle.lang_lexer.specs.Marks.{written}
use Rattle.lang_lexer.specs.Words as lexer
use Rattle.lang_lexer.specs.Kinds.{begins_word, IsWord, IsToken, mark, number, text, name}
use Rattle.ext_draft.specs.Names.{is_letter, is_digit, is_name_part, is_keyword, begins_with_letter, is_name}

or-swap : (a b : Bool) → (a || b) ≡ (b || a)
or-swap true true = refl
or-swap true false = refl
or-swap false true = refl
or-swap false false = refl

letter-same : (c : ℕ) → lexer.is_letter c ≡ is_letter c
letter-same c = or-swap (nat_le 97 c && nat_le c 122) (nat_le 65 c && nat_le c 90)

part-same : (c : ℕ) → lexer.in_name c ≡ is_name_part c
part-same c = ap (λ b. b || is_digit c || c == 95) (letter-same c)

parts-same : (w : List ℕ) → list_all lexer.in_name w ≡ list_all is_name_part w
parts-same [] = refl
parts-same (c ∷ w) = ap (λ b. b && list_all lexer.in_name w) (part-same c) ∙ ap (λ b. is_name_part c && b) (parts-same w)

begins-same : (w : List ℕ) → begins_word w ≡ begins_with_letter w
begins-same [] = refl
begins-same (c ∷ w) = letter-same c

-- ---- keywords

not-keyword : (m : Mark) → is_keyword (written m) ≡ false → begins_with_letter (written m) ≡ true → ⊥
unfolding is_keyword
not-keyword Let e b = absurd (let f : true ≡ false = e in cc)
not-keyword Produce e b = absurd (let f : true ≡ false = e in cc)
not-keyword For e b = absurd (let f : true ≡ false = e in cc)
not-keyword In e b = absurd (let f : true ≡ false = e in cc)
not-keyword If e b = absurd (let f : true ≡ false = e in cc)
not-keyword Else e b = absurd (let f : true ≡ false = e in cc)
not-keyword Call e b = absurd (let f : true ≡ false = e in cc)
not-keyword Fail e b = absurd (let f : true ≡ false = e in cc)
not-keyword Get e b = absurd (let f : true ≡ false = e in cc)
not-keyword All e b = absurd (let f : true ≡ false = e in cc)
not-keyword New e b = absurd (let f : true ≡ false = e in cc)
not-keyword Len e b = absurd (let f : true ≡ false = e in cc)
not-keyword True e b = absurd (let f : true ≡ false = e in cc)
not-keyword False e b = absurd (let f : true ≡ false = e in cc)
not-keyword Null e b = absurd (let f : true ≡ false = e in cc)
not-keyword Me e b = absurd (let f : true ≡ false = e in cc)
not-keyword Static e b = absurd (let f : true ≡ false = e in cc)
not-keyword Add e b = absurd (let f : true ≡ false = e in cc)
not-keyword Print e b = absurd (let f : true ≡ false = e in cc)
not-keyword Return e b = absurd (let f : true ≡ false = e in cc)
not-keyword Semi e b = absurd (let f : false ≡ true = b in cc)
not-keyword Comma e b = absurd (let f : false ≡ true = b in cc)
not-keyword Dot e b = absurd (let f : false ≡ true = b in cc)
not-keyword Colon e b = absurd (let f : false ≡ true = b in cc)
not-keyword Open e b = absurd (let f : false ≡ true = b in cc)
not-keyword Close e b = absurd (let f : false ≡ true = b in cc)
not-keyword OpenList e b = absurd (let f : false ≡ true = b in cc)
not-keyword CloseList e b = absurd (let f : false ≡ true = b in cc)
not-keyword OpenBlock e b = absurd (let f : false ≡ true = b in cc)
not-keyword CloseBlock e b = absurd (let f : false ≡ true = b in cc)
not-keyword Assign e b = absurd (let f : false ≡ true = b in cc)
not-keyword Equal e b = absurd (let f : false ≡ true = b in cc)
not-keyword Less e b = absurd (let f : false ≡ true = b in cc)
not-keyword Plus e b = absurd (let f : false ≡ true = b in cc)
not-keyword Bang e b = absurd (let f : false ≡ true = b in cc)
not-keyword And e b = absurd (let f : false ≡ true = b in cc)

abbrev words : List Mark
words = Let ∷ Produce ∷ For ∷ In ∷ If ∷ Else ∷ Call ∷ Fail ∷ Get ∷ All ∷ New ∷ Len ∷ True ∷ False ∷ Null ∷ Me ∷ Static ∷ Add ∷ Print ∷ Return ∷ []

or-none : (a b : Bool) → a ≡ false → b ≡ false → (a || b) ≡ false
or-none true b e f = absurd cc
or-none false b e f = f

other-word : (b : Bool) (w : List ℕ) (m : Mark) → w ≢ written m → bytes_eq w (written m) ≡ b → b ≡ false
other-word true w m other e = absurd (other ((bytes_eq-Decides w (written m)).0 e))
other-word false w m other e = refl

none-of : (w : List ℕ) → ((m : Mark) → w ≢ written m) → (ms : List Mark) → list_any (bytes_eq w) (map written ms) ≡ false
none-of w other [] = refl
none-of w other (m ∷ ms) = or-none (bytes_eq w (written m)) (list_any (bytes_eq w) (map written ms)) (other-word (bytes_eq w (written m)) w m (other m) refl) (none-of w other ms)

no-keyword : (w : List ℕ) → ((m : Mark) → w ≢ written m) → is_keyword w ≡ false
unfolding is_keyword
no-keyword w other = none-of w other words

-- ---- truth values

both-true : (a b : Bool) → a ≡ true → b ≡ true → (a && b) ≡ true
both-true true b p q = q
both-true false b p q = absurd cc

left-true : (a b : Bool) → (a && b) ≡ true → a ≡ true
left-true true b e = refl
left-true false b e = absurd cc

right-true : (a b : Bool) → (a && b) ≡ true → b ≡ true
right-true true b e = e
right-true false b e = absurd cc

not-true : (b : Bool) → not b ≡ true → b ≡ false
not-true true e = absurd cc
not-true false e = refl

le-of : (n limit : ℕ) → nat_le n limit ≡ true → n ≤ limit
le-of n limit e = elim (leb_tells n limit) [ inl h ↦ h.1 | inr h ↦ absurd (let f = h.0 in cc) ]

of-le : (n limit : ℕ) → n ≤ limit → nat_le n limit ≡ true
of-le n limit few = elim (leb_tells n limit) [ inl e ↦ e.0 | inr f ↦ absurd (omega (arith, few, f.1)) ]

-- ---- names

pub name-token : (w : List ℕ) → is_name w ≡ true → IsToken (Name w) w
unfolding is_name
name-token w e =
    let ab : (begins_with_letter w && list_all is_name_part w) ≡ true = left-true (begins_with_letter w && list_all is_name_part w) (nat_le (length w) 64) (left-true (begins_with_letter w && list_all is_name_part w && nat_le (length w) 64) (not (is_keyword w)) e) in
    let c : nat_le (length w) 64 ≡ true = right-true (begins_with_letter w && list_all is_name_part w) (nat_le (length w) 64) (left-true (begins_with_letter w && list_all is_name_part w && nat_le (length w) 64) (not (is_keyword w)) e) in
    let d : is_keyword w ≡ false = not-true (is_keyword w) (right-true (begins_with_letter w && list_all is_name_part w && nat_le (length w) 64) (not (is_keyword w)) e) in
    let a : begins_with_letter w ≡ true = left-true (begins_with_letter w) (list_all is_name_part w) ab in
    name w (record { first = begins-same w ∙ a; all = parts-same w ∙ right-true (begins_with_letter w) (list_all is_name_part w) ab; short = le-of (length w) 64 c })
    (λ m is. not-keyword m (sym (ap is_keyword is) ∙ d) (sym (ap begins_with_letter is) ∙ a))

word-name : (w : List ℕ) → IsWord w → ((m : Mark) → w ≢ written m) → is_name w ≡ true
unfolding is_name
word-name w h other =
    both-true (begins_with_letter w && list_all is_name_part w && nat_le (length w) 64) (not (is_keyword w))
    (both-true (begins_with_letter w && list_all is_name_part w) (nat_le (length w) 64)
    (both-true (begins_with_letter w) (list_all is_name_part w) (sym (begins-same w) ∙ h.first) (sym (parts-same w) ∙ h.all)) (of-le (length w) 64 h.short))
    (ap not (no-keyword w other))

token-by : (t : Token) (w x : List ℕ) → IsToken t w → t ≡ Name x → is_name x ≡ true
token-by _ _ x (mark m) e = absurd cc
token-by _ _ x (number v w h) e = absurd cc
token-by _ _ x (text v w h) e = absurd cc
token-by _ _ x (name w h other) e = let same : w ≡ x = cc in sym (ap is_name same) ∙ word-name w h other

pub token-name : (w : List ℕ) → IsToken (Name w) w → is_name w ≡ true
token-name w h = token-by (Name w) w w h refl
