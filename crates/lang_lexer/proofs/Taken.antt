-- What the lexer's function takes is a token, and the longest.
use Rattle.std.proofs.Common.{◌≡◌, ℕ, pos, zero, suc, ◌+◌, ◌*◌, ◌^◌, ◌<◌, ◌≤◌, Bool, true, false, List, [], ◌∷◌, ◌++◌, length, take, drop, refl, sym, ap, subst, ◌∙◌, arith, append_assoc, length-append, if◌then◌else◌, ◌⊎◌, inl, inr}
use Rattle.std.specs.Prelude.{◌&&◌, ◌||◌, ◌==◌, nat_lt, nat_le, Option, Some, None}
use Rattle.std.specs.List.{list_all}
use Rattle.std.specs.Char.{encode_utf8}
use Rattle.std.proofs.lemmas.Bool.{eqb-true, eqb-false}
use Rattle.std.proofs.lemmas.Bool.Decides.{nat_tests}
use Rattle.std.proofs.lemmas.List.{append-nil, take-append-drop, take-append-le, length-take}
use Rattle.lang_lexer.specs.declared.token.Mark.{Mark}
use Rattle.lang_lexer.specs.declared.token.Mark.TheVariants.{Let, Produce, For, In, If, Else, Call, Fail, Get, All, New, Len, True, False, Null, Me, Static, Add, Print, Return, Semi, Comma, Dot, Colon, Open, Close, OpenList, CloseList, OpenBlock, CloseBlock, Assign, Equal, Less, Plus, Bang, And}
use Rattle.lang_lexer.specs.declared.token.Token.{Token}
use Rattle.lang_lexer.specs.declared.token.Token.TheVariants.{Sign, Number, Str}
use Rattle.lang_lexer.specs.Marks.{written}
use Rattle.lang_lexer.specs.Words.{is_digit, is_letter, in_name, run_len, name_len, word, word_by, keyword}
use Rattle.lang_lexer.specs.Numbers.{digit_value, digits}
use Rattle.lang_lexer.specs.Quotes.{quoted, by_act, act, in_digits_by, hex_value, is_scalar}
use Rattle.lang_lexer.specs.declared.quoted.Quoting.{Quoting}
use Rattle.lang_lexer.specs.declared.quoted.Quoting.TheVariants.{Plain, Escape, Brace, Hex}
use Rattle.lang_lexer.specs.declared.quoted.Act.{Act}
use Rattle.lang_lexer.specs.declared.quoted.Act.TheVariants.{Add as Puts, Go, End, Bad}
use Rattle.lang_lexer.specs.Tokens.{token, word_from, minus, negative, positive, sign, sign_token, signed_by, quoted_token}
use Rattle.lang_lexer.specs.Kinds.{begins_word, IsWord, goes_on, IsCount, counted, nought, unsigned, signed, hex_by, hex_from, IsEscape, quote, backslash, line, tab, Means, no_text, itself, escape, scalar, IsToken, mark, number, text, name, IsLongest}
use Rattle.lang_lexer.proofs.Written.{Takes, takes, keyword_is, word_bytes, and_left, and_right, and_true, if_true, if_false, some_is, some_none}

-- a token at the beginning, and what is behind it
pub record Begins (cs : List ℕ) (x : Token × List ℕ) : Type 0 where
  pub word : List ℕ
  pub is : IsToken x.0 word
  pub parts : cs ≡ word ++ x.1

-- ---- numbers

record Digits (n limit : ℕ) (cs : List ℕ) : Type 0 where
  ds : List ℕ
  all : list_all is_digit ds ≡ true
  value : (digits n limit cs).0 ≡ goes_on n ds
  small : goes_on n ds < limit
  parts : cs ≡ ds ++ (digits n limit cs).1

lt_from : (a b : ℕ) → nat_lt a b ≡ true → a < b
lt_from a b e = grind (arith, nat_tests)

digits_by : (n limit c : ℕ) (cs : List ℕ) → n < limit → (10 * n + digit_value c < limit → Digits (10 * n + digit_value c) limit cs) → (b : Bool) → (is_digit c && nat_lt (10 * n + digit_value c) limit) ≡ b → Digits n limit (c ∷ cs)
digits_by n limit c cs lt next true e =
    let h : Digits (10 * n + digit_value c) limit cs = next (lt_from (10 * n + digit_value c) limit (and_right (is_digit c) (nat_lt (10 * n + digit_value c) limit) e)) in
    let f : digits n limit (c ∷ cs) ≡ digits (10 * n + digit_value c) limit cs = if_true (is_digit c && nat_lt (10 * n + digit_value c) limit) (digits (10 * n + digit_value c) limit cs) (n, c ∷ cs) e in
    record {
      ds = c ∷ h.ds;
      all = and_true (is_digit c) (list_all is_digit h.ds) (and_left (is_digit c) (nat_lt (10 * n + digit_value c) limit) e) h.all;
      value = ap (λ x. x.0) f ∙ h.value;
      small = h.small;
      parts = ap (λ w. c ∷ w) (h.parts ∙ ap (λ x. h.ds ++ x.1) (sym f));
    }
digits_by n limit c cs lt next false e =
    let f : digits n limit (c ∷ cs) ≡ (n, c ∷ cs) = if_false (is_digit c && nat_lt (10 * n + digit_value c) limit) (digits (10 * n + digit_value c) limit cs) (n, c ∷ cs) e in
    record { ds = []; all = refl; value = ap (λ x. x.0) f; small = lt; parts = sym (ap (λ x. x.1) f) }

digits_are : (n limit : ℕ) (cs : List ℕ) → n < limit → Digits n limit cs
digits_are n limit [] lt = record { ds = []; all = refl; value = refl; small = lt; parts = refl }
digits_are n limit (c ∷ cs) lt = digits_by n limit c cs lt (λ h. digits_are (10 * n + digit_value c) limit cs h) (is_digit c && nat_lt (10 * n + digit_value c) limit) refl

value_small : (c : ℕ) → digit_value c < 10
value_small c = grind (arith, nat_tests)

count_is : (c limit : ℕ) (cs : List ℕ) → 48 < c → is_digit c ≡ true → (h : Digits (digit_value c) limit cs) → IsCount (digits (digit_value c) limit cs).0 (c ∷ h.ds)
count_is c limit cs some e h = subst (λ n. IsCount n (c ∷ h.ds)) (sym h.value) (counted c h.ds some e h.all)

begins_same : (cs : List ℕ) (x y : Token × List ℕ) → x ≡ y → Begins cs x → Begins cs y
begins_same cs x y e h = subst (λ z. Begins cs z) e h

digit_above : (c : ℕ) → is_digit c ≡ true → (c == 48) ≡ false → 48 < c
digit_above c e f = grind (arith, nat_tests)

positive_by : (c : ℕ) (cs : List ℕ) → is_digit c ≡ true → (b : Bool) → (c == 48) ≡ b → Begins (c ∷ cs) (positive c cs)
positive_by c cs e true b =
    begins_same (c ∷ cs) (Number (pos 0), cs) (positive c cs) (sym (if_true (c == 48) (Number (pos 0), cs) (Number (pos (digits (digit_value c) (2 ^ 63) cs).0), (digits (digit_value c) (2 ^ 63) cs).1) b))
    (record { word = 48 ∷ []; is = number (pos 0) (48 ∷ []) nought; parts = ap (λ k. k ∷ cs) (eqb-true c 48 b) })
positive_by c cs e false b =
    let h : Digits (digit_value c) (2 ^ 63) cs = digits_are (digit_value c) (2 ^ 63) cs (let s : digit_value c < 10 = value_small c in omega (arith, s)) in
    begins_same (c ∷ cs) (Number (pos (digits (digit_value c) (2 ^ 63) cs).0), (digits (digit_value c) (2 ^ 63) cs).1) (positive c cs)
    (sym (if_false (c == 48) (Number (pos 0), cs) (Number (pos (digits (digit_value c) (2 ^ 63) cs).0), (digits (digit_value c) (2 ^ 63) cs).1) b))
    (record {
      word = c ∷ h.ds;
      is = number (pos (digits (digit_value c) (2 ^ 63) cs).0) (c ∷ h.ds) (unsigned (digits (digit_value c) (2 ^ 63) cs).0 (c ∷ h.ds) (count_is c (2 ^ 63) cs (digit_above c e b) e h) (omega (arith, h.value, h.small)));
      parts = ap (λ w. c ∷ w) h.parts;
    })

above_nought : (c : ℕ) → (nat_le 49 c && nat_le c 57) ≡ true → 48 < c
above_nought c e = grind (arith, nat_tests)

is_a_digit : (c : ℕ) → (nat_le 49 c && nat_le c 57) ≡ true → is_digit c ≡ true
is_a_digit c e = grind (arith, nat_tests)

negative_by : (c : ℕ) (cs : List ℕ) (x : Token × List ℕ) (b : Bool) → (nat_le 49 c && nat_le c 57) ≡ b
    → (if b then Some (Number (minus (digits (digit_value c) (2 ^ 63 + 1) cs).0), (digits (digit_value c) (2 ^ 63 + 1) cs).1) else None) ≡ Some x → Begins (45 ∷ c ∷ cs) x
negative_by c cs x false b e = absurd cc
negative_by c cs x true b e =
    let h : Digits (digit_value c) (2 ^ 63 + 1) cs = digits_are (digit_value c) (2 ^ 63 + 1) cs (let s : digit_value c < 10 = value_small c in omega (arith, s)) in
    begins_same (45 ∷ c ∷ cs) (Number (minus (digits (digit_value c) (2 ^ 63 + 1) cs).0), (digits (digit_value c) (2 ^ 63 + 1) cs).1) x (some_is (Number (minus (digits (digit_value c) (2 ^ 63 + 1) cs).0), (digits (digit_value c) (2 ^ 63 + 1) cs).1) x e)
    (record {
      word = 45 ∷ c ∷ h.ds;
      is = number (minus (digits (digit_value c) (2 ^ 63 + 1) cs).0) (45 ∷ c ∷ h.ds)
          (signed (digits (digit_value c) (2 ^ 63 + 1) cs).0 (c ∷ h.ds) (count_is c (2 ^ 63 + 1) cs (above_nought c b) (is_a_digit c b) h) (omega (arith, h.value, h.small)));
      parts = ap (λ w. 45 ∷ c ∷ w) h.parts;
    })

negative_is : (cs : List ℕ) (x : Token × List ℕ) → negative cs ≡ Some x → Begins (45 ∷ cs) x
negative_is [] x e = absurd cc
negative_is (c ∷ cs) x e = negative_by c cs x (nat_le 49 c && nat_le c 57) refl e

-- ---- words

run_by : (c : ℕ) (cs : List ℕ) → run_len cs ≤ length cs → (b : Bool) → in_name c ≡ b → run_len (c ∷ cs) ≤ length (c ∷ cs)
run_by c cs h true e = let f : run_len (c ∷ cs) ≡ run_len cs + 1 = if_true (in_name c) (run_len cs + 1) 0 e in omega (arith, h, f)
run_by c cs h false e = let f : run_len (c ∷ cs) ≡ 0 = if_false (in_name c) (run_len cs + 1) 0 e in omega (arith, f)

run_short : (cs : List ℕ) → run_len cs ≤ length cs
run_short [] = omega arith
run_short (c ∷ cs) = run_by c cs (run_short cs) (in_name c) refl

all_by : (c : ℕ) (cs : List ℕ) → list_all in_name (take (run_len cs) cs) ≡ true → (b : Bool) → in_name c ≡ b → list_all in_name (take (run_len (c ∷ cs)) (c ∷ cs)) ≡ true
all_by c cs h true e =
    let f : run_len (c ∷ cs) ≡ suc (run_len cs) = if_true (in_name c) (run_len cs + 1) 0 e ∙ omega arith in
    ap (λ k. list_all in_name (take k (c ∷ cs))) f ∙ and_true (in_name c) (list_all in_name (take (run_len cs) cs)) e h
all_by c cs h false e = ap (λ k. list_all in_name (take k (c ∷ cs))) (if_false (in_name c) (run_len cs + 1) 0 e)

run_all : (cs : List ℕ) → list_all in_name (take (run_len cs) cs) ≡ true
run_all [] = refl
run_all (c ∷ cs) = all_by c cs (run_all cs) (in_name c) refl

module _ (cs : List ℕ) where
  name_front : take (name_len cs) cs ≡ take (name_len cs) (take 64 cs)
  name_front =
      ap (take (name_len cs)) (sym (take-append-drop 64 cs))
      ∙ take-append-le (name_len cs) (take 64 cs) (drop 64 cs) (run_short (take 64 cs))

  name_all : list_all in_name (take (name_len cs) cs) ≡ true
  name_all = ap (list_all in_name) name_front ∙ run_all (take 64 cs)

  name_short : length (take (name_len cs) cs) ≤ 64
  name_short =
      let a = length-take (name_len cs) cs in
      let b : name_len cs ≤ length (take 64 cs) = run_short (take 64 cs) in
      let d = length-take 64 cs in
      omega (arith, a, b, d)

letter_in : (c : ℕ) → is_letter c ≡ true → in_name c ≡ true
letter_in c e = grind (arith, nat_tests)

take_first : (k c : ℕ) (cs : List ℕ) → 0 < k → is_letter c ≡ true → begins_word (take k (c ∷ cs)) ≡ true
take_first zero c cs some e = absurd (omega (arith, some))
take_first (suc k) c cs some e = e

name_some : (c : ℕ) (cs : List ℕ) → is_letter c ≡ true → 0 < name_len (c ∷ cs)
name_some c cs e = let f : name_len (c ∷ cs) ≡ run_len (take 63 cs) + 1 = if_true (in_name c) (run_len (take 63 cs) + 1) 0 (letter_in c e) in omega (arith, f)

mark_known : (m : Mark) → (keyword (written m) ≡ Some m) ⊎ (begins_word (written m) ≡ false)
mark_known Let = inl refl
mark_known Produce = inl refl
mark_known For = inl refl
mark_known In = inl refl
mark_known If = inl refl
mark_known Else = inl refl
mark_known Call = inl refl
mark_known Fail = inl refl
mark_known Get = inl refl
mark_known All = inl refl
mark_known New = inl refl
mark_known Len = inl refl
mark_known True = inl refl
mark_known False = inl refl
mark_known Null = inl refl
mark_known Me = inl refl
mark_known Static = inl refl
mark_known Add = inl refl
mark_known Print = inl refl
mark_known Return = inl refl
mark_known Semi = inr refl
mark_known Comma = inr refl
mark_known Dot = inr refl
mark_known Colon = inr refl
mark_known Open = inr refl
mark_known Close = inr refl
mark_known OpenList = inr refl
mark_known CloseList = inr refl
mark_known OpenBlock = inr refl
mark_known CloseBlock = inr refl
mark_known Assign = inr refl
mark_known Equal = inr refl
mark_known Less = inr refl
mark_known Plus = inr refl
mark_known Bang = inr refl
mark_known And = inr refl

not_mark : (w : List ℕ) (m : Mark) → begins_word w ≡ true → keyword w ≡ None → w ≡ written m → (keyword (written m) ≡ Some m) ⊎ (begins_word (written m) ≡ false) → ⊥
not_mark w m e unknown is (inl h) = let g : keyword w ≡ keyword (written m) = ap keyword is in cc
not_mark w m e unknown is (inr h) = let g : begins_word w ≡ begins_word (written m) = ap begins_word is in cc

word_by_is : (w : List ℕ) → IsWord w → (o : Option Mark) → keyword w ≡ o → IsToken (word_by w o) w
word_by_is w h None e = name w h (λ m is. not_mark w m h.first e is (mark_known m))
word_by_is w h (Some m) e = subst (λ y. IsToken (Sign m) y) (sym (keyword_is w m e)) (mark m)

word_is : (w : List ℕ) → IsWord w → IsToken (word w) w
word_is w h = subst (λ b. IsToken (word_by b (keyword b)) w) (sym (word_bytes w h.all)) (word_by_is w h (keyword w) refl)

words_are : (c : ℕ) (cs : List ℕ) → is_letter c ≡ true → Begins (c ∷ cs) (word_from (c ∷ cs))
words_are c cs e = record {
  word = take (name_len (c ∷ cs)) (c ∷ cs);
  is = word_is (take (name_len (c ∷ cs)) (c ∷ cs)) (record { first = take_first (name_len (c ∷ cs)) c cs (name_some c cs e) e; all = name_all (c ∷ cs); short = name_short (c ∷ cs) });
  parts = sym (take-append-drop (name_len (c ∷ cs)) (c ∷ cs));
}

-- ---- signs

sign_pick_by : (c n : ℕ) (m k : Mark) (rest : Option Mark) → n ∷ [] ≡ written k → (rest ≡ Some m → c ∷ [] ≡ written m) → (b : Bool) → (c == n) ≡ b → (if b then Some k else rest) ≡ Some m → c ∷ [] ≡ written m
sign_pick_by c n m k rest is next true b e = let h : k ≡ m = cc in ap (λ x. x ∷ []) (eqb-true c n b) ∙ is ∙ ap written h
sign_pick_by c n m k rest is next false b e = next e

sign_pick : (c n : ℕ) (m k : Mark) (rest : Option Mark) → n ∷ [] ≡ written k → (rest ≡ Some m → c ∷ [] ≡ written m) → (if c == n then Some k else rest) ≡ Some m → c ∷ [] ≡ written m
sign_pick c n m k rest is next e = sign_pick_by c n m k rest is next (c == n) refl e

sign_is : (c : ℕ) (m : Mark) → sign c ≡ Some m → c ∷ [] ≡ written m
sign_is c m e = sign_pick c 59 m Semi _ refl (sign_pick c 44 m Comma _ refl (sign_pick c 46 m Dot _ refl (sign_pick c 58 m Colon _ refl (sign_pick c 40 m Open _ refl (sign_pick c 41 m Close _ refl (sign_pick c 91 m OpenList _ refl (sign_pick c 93 m CloseList _ refl (sign_pick c 123 m OpenBlock _ refl (sign_pick c 125 m CloseBlock _ refl (sign_pick c 61 m Assign _ refl (sign_pick c 60 m Less _ refl (sign_pick c 43 m Plus _ refl (sign_pick c 33 m Bang _ refl (λ (g : None ≡ Some m). absurd cc)))))))))))))) e

lone_is : (c : ℕ) (cs : List ℕ) (x : Token × List ℕ) (o : Option Mark) → sign c ≡ o → sign_token o cs ≡ Some x → Begins (c ∷ cs) x
lone_is c cs x None is e = absurd cc
lone_is c cs x (Some m) is e =
    begins_same (c ∷ cs) (Sign m, cs) x (some_is (Sign m, cs) x e) (record { word = c ∷ []; is = subst (λ w. IsToken (Sign m) w) (sym (sign_is c m is)) (mark m); parts = refl })

both_are : (c d n : ℕ) (cs : List ℕ) → (c == n && d == n) ≡ true → c ∷ d ∷ cs ≡ n ∷ n ∷ cs
both_are c d n cs e =
    let a : c ≡ n = eqb-true c n (and_left (c == n) (d == n) e) in
    let b : d ≡ n = eqb-true d n (and_right (c == n) (d == n) e) in
    ap (λ k. k ∷ d ∷ cs) a ∙ ap (λ k. n ∷ k ∷ cs) b

two_by : (c d : ℕ) (cs : List ℕ) (x : Token × List ℕ) (a b : Bool) → (c == 61 && d == 61) ≡ a → (c == 38 && d == 38) ≡ b
    → (if a then Some (Sign Equal, cs) else (if b then Some (Sign And, cs) else sign_token (sign c) (d ∷ cs))) ≡ Some x → Begins (c ∷ d ∷ cs) x
two_by c d cs x true b f g e = begins_same (c ∷ d ∷ cs) (Sign Equal, cs) x (some_is (Sign Equal, cs) x e) (record { word = 61 ∷ 61 ∷ []; is = mark Equal; parts = both_are c d 61 cs f })
two_by c d cs x false true f g e = begins_same (c ∷ d ∷ cs) (Sign And, cs) x (some_is (Sign And, cs) x e) (record { word = 38 ∷ 38 ∷ []; is = mark And; parts = both_are c d 38 cs g })
two_by c d cs x false false f g e = lone_is c (d ∷ cs) x (sign c) refl e

signs_are : (c : ℕ) (cs : List ℕ) (x : Token × List ℕ) → signed_by c cs ≡ Some x → Begins (c ∷ cs) x
signs_are c [] x e = lone_is c [] x (sign c) refl e
signs_are c (d ∷ cs) x e = two_by c d cs x (c == 61 && d == 61) (c == 38 && d == 38) refl refl e

-- ---- quoted texts

hex_snoc_by : (v : ℕ) (cs : List ℕ) (u c d : ℕ) (o : Option ℕ) → ((e : ℕ) → hex_from (16 * v + e) cs ≡ Some u → hex_from (16 * v + e) (cs ++ c ∷ []) ≡ Some (16 * u + d))
    → hex_by o (λ e. hex_from (16 * v + e) cs) ≡ Some u → hex_by o (λ e. hex_from (16 * v + e) (cs ++ c ∷ [])) ≡ Some (16 * u + d)
hex_snoc_by v cs u c d None h e = absurd cc
hex_snoc_by v cs u c d (Some k) h e = h k e

hex_snoc : (v : ℕ) (hs : List ℕ) (u c d : ℕ) → hex_from v hs ≡ Some u → hex_value c ≡ Some d → hex_from v (hs ++ c ∷ []) ≡ Some (16 * u + d)
hex_snoc v [] u c d e is = let h : v ≡ u = cc in ap (λ o. hex_by o (λ k. Some (16 * v + k))) is ∙ ap (λ k. Some (16 * k + d)) h
hex_snoc v (b ∷ bs) u c d e is = hex_snoc_by v bs u c d (hex_value b) (λ k g. hex_snoc (16 * v + k) bs u c d g is) e

not_below : (a b : ℕ) → nat_lt a b ≡ false → b ≤ a
not_below a b e = grind (arith, nat_tests)

not_zero : (n : ℕ) → (n == 0) ≡ false → 0 < n
not_zero n e = grind (arith, nat_tests)

same_by : (c : ℕ) (a b : Bool) → (c == 34) ≡ a → (c == 92) ≡ b → (a || b) ≡ true → IsEscape c c
same_by c true b f g e = subst (λ k. IsEscape k k) (sym (eqb-true c 34 f)) quote
same_by c false true f g e = subst (λ k. IsEscape k k) (sym (eqb-true c 92 g)) backslash
same_by c false false f g e = absurd cc

-- what was passed of a text's character or escape
data Opened : Quoting → List ℕ → Type 0 where
  plain : Opened Plain []
  behind : Opened Escape (92 ∷ [])
  brace : Opened Brace (92 ∷ 117 ∷ [])
  hex : (n v : ℕ) (hs : List ℕ) → length hs ≡ n → n ≤ 6 → hex_from 0 hs ≡ Some v → Opened (Hex n v) (92 ∷ 117 ∷ 123 ∷ hs)

record Inside (pre found cs : List ℕ) (x : List ℕ × List ℕ) : Type 0 where
  t : List ℕ
  w : List ℕ
  means : Means t (pre ++ w)
  says : x.0 ≡ found ++ t
  parts : cs ≡ w ++ 34 ∷ x.1

-- the same for all that goes on with these characters
abbrev Goes : List ℕ → Type 0
Goes cs = (q : Quoting) (pre found : List ℕ) (x : List ℕ × List ℕ) → Opened q pre → quoted q found cs ≡ Some x → Inside pre found cs x

module _ (cs found : List ℕ) (x : List ℕ × List ℕ) (go : Goes cs) where
  abbrev does : Act → ℕ → Option (List ℕ × List ℕ)
  does a c = by_act a (λ d. quoted Plain (found ++ encode_utf8 d) cs) (λ r. quoted r found cs) (Some (found, cs))

  -- a character or an escape ended: what it stands for comes first
  put : (pre : List ℕ) (c d : ℕ) → ((t w : List ℕ) → Means t w → Means (encode_utf8 d ++ t) (pre ++ c ∷ w)) → quoted Plain (found ++ encode_utf8 d) cs ≡ Some x → Inside pre found (c ∷ cs) x
  put pre c d means e =
      let h : Inside [] (found ++ encode_utf8 d) cs x = go Plain [] (found ++ encode_utf8 d) x plain e in
      record { t = encode_utf8 d ++ h.t; w = c ∷ h.w; means = means h.t h.w h.means; says = h.says ∙ append_assoc found (encode_utf8 d) h.t; parts = ap (λ w. c ∷ w) h.parts }

  -- an escape goes on
  on : (pre : List ℕ) (c : ℕ) (q : Quoting) (now : List ℕ) → ((w : List ℕ) → now ++ w ≡ pre ++ c ∷ w) → Opened q now → quoted q found cs ≡ Some x → Inside pre found (c ∷ cs) x
  on pre c q now same opened e =
      let h : Inside now found cs x = go q now found x opened e in
      record { t = h.t; w = c ∷ h.w; means = subst (λ w. Means h.t w) (same h.w) h.means; says = h.says; parts = ap (λ w. c ∷ w) h.parts }

  over_at : (c : ℕ) → c ≡ 34 → Some (found, cs) ≡ Some x → Inside [] found (c ∷ cs) x
  over_at c is e =
      let h : (found, cs) ≡ x = some_is (found, cs) x e in
      record { t = []; w = []; means = no_text; says = sym (ap (λ y. y.0) h) ∙ sym (append-nil found); parts = ap (λ k. k ∷ cs) is ∙ ap (λ y. 34 ∷ y.1) h }

  plain_by : (c : ℕ) (a b d : Bool) → (c == 34) ≡ a → (c == 92) ≡ b → nat_lt c 32 ≡ d → does (if a then End else (if b then Go Escape else (if d then Bad else Puts c))) c ≡ Some x → Inside [] found (c ∷ cs) x
  plain_by c true b d f g h e = over_at c (eqb-true c 34 f) e
  plain_by c false true d f g h e = on [] c Escape (92 ∷ []) (λ w. ap (λ k. k ∷ w) (sym (eqb-true c 92 g))) behind e
  plain_by c false false true f g h e = absurd cc
  plain_by c false false false f g h e = put [] c c (λ t w m. itself c t w (not_below c 32 h) (eqb-false c 34 f) (eqb-false c 92 g) m) e

  escape_as : (c d : ℕ) → IsEscape c d → quoted Plain (found ++ encode_utf8 d) cs ≡ Some x → Inside (92 ∷ []) found (c ∷ cs) x
  escape_as c d is e = put (92 ∷ []) c d (λ t w m. escape c d t w is m) e

  same_escape : (c : ℕ) → (c == 34 || c == 92) ≡ true → IsEscape c c
  same_escape c e = same_by c (c == 34) (c == 92) refl refl e

  behind_by : (c : ℕ) (a b d f : Bool) → (c == 34 || c == 92) ≡ a → (c == 110) ≡ b → (c == 116) ≡ d → (c == 117) ≡ f
      → does (if a then Puts c else (if b then Puts 10 else (if d then Puts 9 else (if f then Go Brace else Bad)))) c ≡ Some x → Inside (92 ∷ []) found (c ∷ cs) x
  behind_by c true b d f i j k l e = escape_as c c (same_escape c i) e
  behind_by c false true d f i j k l e = escape_as c 10 (subst (λ y. IsEscape y 10) (sym (eqb-true c 110 j)) line) e
  behind_by c false false true f i j k l e = escape_as c 9 (subst (λ y. IsEscape y 9) (sym (eqb-true c 116 k)) tab) e
  behind_by c false false false true i j k l e = on (92 ∷ []) c Brace (92 ∷ 117 ∷ []) (λ w. ap (λ y. 92 ∷ y ∷ w) (sym (eqb-true c 117 l))) brace e
  behind_by c false false false false i j k l e = absurd cc

  brace_by : (c : ℕ) (a : Bool) → (c == 123) ≡ a → does (if a then Go (Hex 0 0) else Bad) c ≡ Some x → Inside (92 ∷ 117 ∷ []) found (c ∷ cs) x
  brace_by c true i e = on (92 ∷ 117 ∷ []) c (Hex 0 0) (92 ∷ 117 ∷ 123 ∷ []) (λ w. ap (λ y. 92 ∷ 117 ∷ y ∷ w) (sym (eqb-true c 123 i))) (hex 0 0 [] refl (omega arith) refl) e
  brace_by c false i e = absurd cc

  module _ (n v : ℕ) (hs : List ℕ) (len : length hs ≡ n) (few : n ≤ 6) (value : hex_from 0 hs ≡ Some v) where
    digit_by : (c d : ℕ) → hex_value c ≡ Some d → (a : Bool) → (nat_lt n 6 && nat_lt v 0x100000) ≡ a → does (if a then Go (Hex (n + 1) (16 * v + d)) else Bad) c ≡ Some x → Inside (92 ∷ 117 ∷ 123 ∷ hs) found (c ∷ cs) x
    digit_by c d is false i e = absurd cc
    digit_by c d is true i e =
        on (92 ∷ 117 ∷ 123 ∷ hs) c (Hex (n + 1) (16 * v + d)) (92 ∷ 117 ∷ 123 ∷ (hs ++ c ∷ [])) (λ w. ap (λ y. 92 ∷ 117 ∷ 123 ∷ y) (append_assoc hs (c ∷ []) w))
        (hex (n + 1) (16 * v + d) (hs ++ c ∷ []) (let l : length (hs ++ c ∷ []) ≡ length hs + 1 = length-append hs (c ∷ []) in omega (arith, l, len))
        (let s : n < 6 = lt_from n 6 (and_left (nat_lt n 6) (nat_lt v 0x100000) i) in omega (arith, s)) (hex_snoc 0 hs v c d value is))
        e

    end_by : (c : ℕ) (a b d : Bool) → (c == 125) ≡ a → (n == 0) ≡ b → is_scalar v ≡ d → does (if a then (if b then Bad else (if d then Puts v else Bad)) else Bad) c ≡ Some x → Inside (92 ∷ 117 ∷ 123 ∷ hs) found (c ∷ cs) x
    end_by c false b d i j k e = absurd cc
    end_by c true true d i j k e = absurd cc
    end_by c true false false i j k e = absurd cc
    end_by c true false true i j k e =
        put (92 ∷ 117 ∷ 123 ∷ hs) c v (λ t w m. subst (λ y. Means (encode_utf8 v ++ t) (92 ∷ 117 ∷ 123 ∷ (hs ++ y ∷ w))) (sym (eqb-true c 125 i)) (scalar v hs t w (let s : 0 < n = not_zero n j in omega (arith, s, len)) (omega (arith, few, len)) value k m)) e

    hex_go : (c : ℕ) (o : Option ℕ) → hex_value c ≡ o → does (in_digits_by n v c o) c ≡ Some x → Inside (92 ∷ 117 ∷ 123 ∷ hs) found (c ∷ cs) x
    hex_go c (Some d) is e = digit_by c d is (nat_lt n 6 && nat_lt v 0x100000) refl e
    hex_go c None is e = end_by c (c == 125) (n == 0) (is_scalar v) refl refl refl e

  turn : (q : Quoting) (pre : List ℕ) (c : ℕ) → Opened q pre → does (act q c) c ≡ Some x → Inside pre found (c ∷ cs) x
  turn q pre c plain e = plain_by c (c == 34) (c == 92) (nat_lt c 32) refl refl refl e
  turn q pre c behind e = behind_by c (c == 34 || c == 92) (c == 110) (c == 116) (c == 117) refl refl refl refl e
  turn q pre c brace e = brace_by c (c == 123) refl e
  turn q pre c (hex n v hs len few value) e = hex_go n v hs len few value c (hex_value c) refl e

quoted_is : (cs : List ℕ) (q : Quoting) (pre found : List ℕ) (x : List ℕ × List ℕ) → Opened q pre → quoted q found cs ≡ Some x → Inside pre found cs x
quoted_is [] q pre found x opened e = absurd cc
quoted_is (c ∷ cs) q pre found x opened e = turn cs found x (quoted_is cs) q pre c opened e

text_by : (cs : List ℕ) (x : Token × List ℕ) (o : Option (List ℕ × List ℕ)) → quoted Plain [] cs ≡ o → quoted_token o ≡ Some x → Begins (34 ∷ cs) x
text_by cs x None is e = absurd cc
text_by cs x (Some y) is e =
    let h : Inside [] [] cs y = quoted_is cs Plain [] [] y plain is in
    begins_same (34 ∷ cs) (Str y.0, y.1) x (some_is (Str y.0, y.1) x e)
    (record { word = 34 ∷ (h.w ++ 34 ∷ []); is = subst (λ t. IsToken (Str t) (34 ∷ (h.w ++ 34 ∷ []))) (sym h.says) (text h.t h.w h.means); parts = ap (λ w. 34 ∷ w) (h.parts ∙ sym (append_assoc h.w (34 ∷ []) y.1)) })

-- ---- tokens

token_by : (c : ℕ) (cs : List ℕ) (x : Token × List ℕ) (a b d f : Bool) → (c == 34) ≡ a → (c == 45) ≡ b → is_digit c ≡ d → is_letter c ≡ f
    → (if a then quoted_token (quoted Plain [] cs) else (if b then negative cs else (if d then Some (positive c cs) else (if f then Some (word_from (c ∷ cs)) else signed_by c cs)))) ≡ Some x
    → Begins (c ∷ cs) x
token_by c cs x true b d f i j k l e = subst (λ y. Begins (y ∷ cs) x) (sym (eqb-true c 34 i)) (text_by cs x (quoted Plain [] cs) refl e)
token_by c cs x false true d f i j k l e = subst (λ y. Begins (y ∷ cs) x) (sym (eqb-true c 45 j)) (negative_is cs x e)
token_by c cs x false false true f i j k l e = begins_same (c ∷ cs) (positive c cs) x (some_is (positive c cs) x e) (positive_by c cs k (c == 48) refl)
token_by c cs x false false false true i j k l e = begins_same (c ∷ cs) (word_from (c ∷ cs)) x (some_is (word_from (c ∷ cs)) x e) (words_are c cs l)
token_by c cs x false false false false i j k l e = signs_are c cs x e

pub token_is : (cs : List ℕ) (x : Token × List ℕ) → token cs ≡ Some x → Begins cs x
token_is [] x e = absurd cc
token_is (c ∷ cs) x e = token_by c cs x (c == 34) (c == 45) (is_digit c) (is_letter c) refl refl refl refl e

longer_by : (u : Token) (w v cs : List ℕ) (x : Token × List ℕ) → Takes u w v → cs ≡ w ++ v → token cs ≡ Some x → length x.1 ≤ length v
longer_by u w v cs x h parts e =
    let f : Some (h.found, h.rest) ≡ Some x = sym h.reads ∙ ap token (sym parts) ∙ e in
    let g : (h.found, h.rest) ≡ x = some_is (h.found, h.rest) x f in
    let l : length h.rest ≡ length x.1 = ap (λ y. length y.1) g in omega (arith, l, h.longer)

pub longest_is : (cs : List ℕ) (x : Token × List ℕ) → token cs ≡ Some x → IsLongest x.0 cs x.1
longest_is cs x e =
    let h : Begins cs x = token_is cs x e in
    record {
      word = h.word;
      is = h.is;
      begins = h.parts;
      longest = λ u w v is parts.
          let a : length x.1 ≤ length v = longer_by u w v cs x (takes u w v is) parts e in
          let b : length cs ≡ length h.word + length x.1 = ap length h.parts ∙ length-append h.word x.1 in
          let d : length cs ≡ length w + length v = ap length parts ∙ length-append w v in
          omega (arith, a, b, d);
    }

pub none_is : (cs : List ℕ) → token cs ≡ None → (u : Token) (w v : List ℕ) → IsToken u w → cs ≡ w ++ v → ⊥
none_is cs e u w v is parts =
    let h : Takes u w v = takes u w v is in
    some_none (h.found, h.rest) (sym h.reads ∙ ap token (sym parts) ∙ e)
