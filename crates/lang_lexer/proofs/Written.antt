-- Characters of a token are read as that token or as the beginning of a longer one.
use Rattle.std.proofs.Common.{◌≡◌, ℕ, ℤ, pos, zero, suc, ◌+◌, ◌-◌, ◌*◌, ◌^◌, ◌<◌, ◌≤◌, Bool, true, false, List, [], ◌∷◌, ◌++◌, length, take, drop, refl, sym, ap, ◌∙◌, arith, append_assoc, length-drop, if◌then◌else◌}
use Rattle.std.specs.Prelude.{◌&&◌, ◌==◌, nat_lt, nat_le, Option, Some, None, codes, ◌≢◌}
use Rattle.std.specs.List.{list_all}
use Rattle.std.specs.Char.{encode_utf8}
use Rattle.std.specs.Str.{encode_utf8_all, bytes_eq}
use Rattle.std.proofs.lemmas.Bool.Decides.{nat_tests}
use Rattle.std.proofs.lemmas.Slice.Eq.{bytes_eq-Decides}
use Rattle.std.proofs.lemmas.Str.{encode_ascii}
use Rattle.std.proofs.lemmas.List.{append-nil}
use Rattle.std.proofs.Math.Seq.{take-append-add, drop-append-add}
use Rattle.lang_lexer.specs.declared.token.Mark.{Mark}
use Rattle.lang_lexer.specs.declared.token.Mark.TheVariants.{Let, Produce, For, In, If, Else, Call, Fail, Get, All, New, Len, True, False, Null, Me, Static, Add, Print, Return, Semi, Comma, Dot, Colon, Open, Close, OpenList, CloseList, OpenBlock, CloseBlock, Assign, Equal, Less, Plus, Bang, And}
use Rattle.lang_lexer.specs.declared.token.Token.{Token}
use Rattle.lang_lexer.specs.declared.token.Token.TheVariants.{Sign, Number, Str, Name}
use Rattle.lang_lexer.specs.Marks.{written}
use Rattle.lang_lexer.specs.Words.{is_digit, is_letter, in_name, run_len, name_len, word, word_by, keyword, late_keyword}
use Rattle.lang_lexer.specs.Numbers.{digit_value, digits}
use Rattle.lang_lexer.specs.Quotes.{quoted, by_act, act, in_digits_by, hex_value, is_scalar}
use Rattle.lang_lexer.specs.declared.quoted.Act.{Act}
use Rattle.lang_lexer.specs.declared.quoted.Act.TheVariants.{Add as Puts, Go, Bad}
use Rattle.lang_lexer.specs.declared.quoted.Quoting.TheVariants.{Plain, Hex}
use Rattle.lang_lexer.specs.Tokens.{token, word_from, minus, quoted_token}
use Rattle.lang_lexer.specs.Kinds.{begins_word, IsWord, goes_on, IsCount, counted, IsNumber, nought, unsigned, signed, hex_by, hex_from, IsEscape, quote, backslash, line, tab, Means, no_text, itself, escape, scalar, IsToken, mark, number, text, name}

-- the token is read from its characters and what is behind them, or a longer one
pub record Takes (t : Token) (w v : List ℕ) : Type 0 where
  pub found : Token
  pub rest : List ℕ
  pub reads : token (w ++ v) ≡ Some (found, rest)
  pub longer : length rest ≤ length v
  pub same : length rest ≡ length v → found ≡ t

pub some_none : {A : Type 0} (x : A) → Some x ≡ None → ⊥
some_none x e = cc

pub some_is : {A : Type 0} (x y : A) → Some x ≡ Some y → x ≡ y
some_is x y e = cc

just : (t : Token) (w v : List ℕ) → token (w ++ v) ≡ Some (t, v) → Takes t w v
just t w v e = record { found = t; rest = v; reads = e; longer = omega arith; same = λ h. refl }

-- ---- words

pub and_left : (a b : Bool) → (a && b) ≡ true → a ≡ true
and_left true b e = refl
and_left false b e = cc

pub and_right : (a b : Bool) → (a && b) ≡ true → b ≡ true
and_right true b e = e
and_right false b e = absurd cc

pub if_true : {A : Type 0} (b : Bool) (x y : A) → b ≡ true → (if b then x else y) ≡ x
if_true true x y e = refl
if_true false x y e = absurd cc

pub if_false : {A : Type 0} (b : Bool) (x y : A) → b ≡ false → (if b then x else y) ≡ y
if_false false x y e = refl
if_false true x y e = absurd cc

run_of : (w v : List ℕ) → list_all in_name w ≡ true → run_len (w ++ v) ≡ length w + run_len v
run_of [] v e = omega arith
run_of (c ∷ cs) v e =
    if_true (in_name c) (run_len (cs ++ v) + 1) 0 (and_left (in_name c) (list_all in_name cs) e)
    ∙ (let h : run_len (cs ++ v) ≡ length cs + run_len v = run_of cs v (and_right (in_name c) (list_all in_name cs) e) in omega (arith, h))

name_len_of : (w v : List ℕ) → list_all in_name w ≡ true → length w ≤ 64 → name_len (w ++ v) ≡ length w + run_len (take (64 - length w) v)
name_len_of w v e short =
    ap (λ n. run_len (take n (w ++ v))) (let h : 64 ≡ length w + (64 - length w) = omega (arith, short) in h)
    ∙ ap run_len (take-append-add w v (64 - length w)) ∙ run_of w (take (64 - length w) v) e

ascii_letter : (c : ℕ) → is_letter c ≡ true → (c == 34) ≡ false
ascii_letter c e = grind (arith, nat_tests)

letter_minus : (c : ℕ) → is_letter c ≡ true → (c == 45) ≡ false
letter_minus c e = grind (arith, nat_tests)

letter_digit : (c : ℕ) → is_letter c ≡ true → is_digit c ≡ false
letter_digit c e = grind (arith, nat_tests)

word_token : (c : ℕ) (cs : List ℕ) → is_letter c ≡ true → token (c ∷ cs) ≡ Some (word_from (c ∷ cs))
word_token c cs e = rw (ascii_letter c e, letter_minus c e, letter_digit c e, e) refl

no_more : (n : ℕ) (v : List ℕ) → length (drop n v) ≡ length v → take n v ≡ []
no_more zero v e = refl
no_more (suc n) [] e = refl
no_more (suc n) (x ∷ xs) e = absurd (let h : length (drop n xs) ≡ length xs - n = length-drop n xs in omega (arith, e, h))

module _ (w v : List ℕ) (n : ℕ) where
  taken : take (length w + n) (w ++ v) ≡ w ++ take n v
  taken = take-append-add w v n

  left : drop (length w + n) (w ++ v) ≡ drop n v
  left = drop-append-add w v n

  from_is : name_len (w ++ v) ≡ length w + n → word_from (w ++ v) ≡ (word (w ++ take n v), drop n v)
  from_is e =
      ap (λ k. (word (take k (w ++ v)), drop k (w ++ v))) e
      ∙ ap (λ x. (word x, drop (length w + n) (w ++ v))) taken ∙ ap (λ y. (word (w ++ take n v), y)) left

  word_same : length (drop n v) ≡ length v → word (w ++ take n v) ≡ word w
  word_same h = ap (λ x. word (w ++ x)) (no_more n v h) ∙ ap word (append-nil w)

word_reads : (w v : List ℕ) → begins_word w ≡ true → token (w ++ v) ≡ Some (word_from (w ++ v))
word_reads [] v e = absurd cc
word_reads (c ∷ cs) v e = word_token c (cs ++ v) e

takes_word : (t : Token) (w v : List ℕ) → IsWord w → word w ≡ t → Takes t w v
takes_word t w v h e =
    let n : ℕ = run_len (take (64 - length w) v) in
    record {
      found = word (w ++ take n v);
      rest = drop n v;
      reads = word_reads w v h.first ∙ ap (λ x. Some x) (from_is w v n (name_len_of w v h.all h.short));
      longer = let l : length (drop n v) ≡ length v - n = length-drop n v in omega (arith, l);
      same = λ same. word_same w v n same ∙ e;
    }

-- ---- the bytes of a word

name_small : (c : ℕ) → in_name c ≡ true → c < 128
name_small c e = grind (arith, nat_tests)

pub word_bytes : (w : List ℕ) → list_all in_name w ≡ true → encode_utf8_all w ≡ w
word_bytes [] e = refl
word_bytes (c ∷ cs) e =
    ap (λ x. x ++ encode_utf8_all cs) (encode_ascii c (name_small c (and_left (in_name c) (list_all in_name cs) e)))
    ∙ ap (λ x. c ∷ x) (word_bytes cs (and_right (in_name c) (list_all in_name cs) e))

-- ---- keywords and signs

keyword_takes : (m : Mark) (w v : List ℕ) → begins_word w ≡ true → list_all in_name w ≡ true → length w ≤ 64 → word w ≡ Sign m → Takes (Sign m) w v
keyword_takes m w v first all short e = takes_word (Sign m) w v (record { first = first; all = all; short = short }) e

-- a sign of one character that begins no other
lone : (c : ℕ) (m : Mark) (v : List ℕ) → ((d : ℕ) (cs : List ℕ) → token (c ∷ d ∷ cs) ≡ Some (Sign m, d ∷ cs)) → token (c ∷ []) ≡ Some (Sign m, []) → Takes (Sign m) (c ∷ []) v
lone c m [] more none = just (Sign m) (c ∷ []) [] none
lone c m (d ∷ cs) more none = just (Sign m) (c ∷ []) (d ∷ cs) (more d cs)

assign_by : (d : ℕ) (cs : List ℕ) (b : Bool) → (d == 61) ≡ b → Takes (Sign Assign) (61 ∷ []) (d ∷ cs)
assign_by d cs true e = record { found = Sign Equal; rest = cs; reads = rw e refl; longer = omega arith; same = λ h. absurd (omega (arith, h)) }
assign_by d cs false e = just (Sign Assign) (61 ∷ []) (d ∷ cs) (rw e refl)

assign_takes : (v : List ℕ) → Takes (Sign Assign) (61 ∷ []) v
assign_takes [] = just (Sign Assign) (61 ∷ []) [] refl
assign_takes (d ∷ cs) = assign_by d cs (d == 61) refl

short_by : (w : List ℕ) (n : ℕ) → length w ≡ n → n ≤ 64 → length w ≤ 64
short_by w n e le = omega (arith, e, le)

pub takes_mark : (m : Mark) (v : List ℕ) → Takes (Sign m) (written m) v
unfolding encode_utf8
takes_mark Let v = keyword_takes Let (codes "let") v refl refl (short_by (codes "let") 3 refl (omega arith)) refl
takes_mark Produce v = keyword_takes Produce (codes "produce") v refl refl (short_by (codes "produce") 7 refl (omega arith)) refl
takes_mark For v = keyword_takes For (codes "for") v refl refl (short_by (codes "for") 3 refl (omega arith)) refl
takes_mark In v = keyword_takes In (codes "in") v refl refl (short_by (codes "in") 2 refl (omega arith)) refl
takes_mark If v = keyword_takes If (codes "if") v refl refl (short_by (codes "if") 2 refl (omega arith)) refl
takes_mark Else v = keyword_takes Else (codes "else") v refl refl (short_by (codes "else") 4 refl (omega arith)) refl
takes_mark Call v = keyword_takes Call (codes "call") v refl refl (short_by (codes "call") 4 refl (omega arith)) refl
takes_mark Fail v = keyword_takes Fail (codes "fail") v refl refl (short_by (codes "fail") 4 refl (omega arith)) refl
takes_mark Get v = keyword_takes Get (codes "get") v refl refl (short_by (codes "get") 3 refl (omega arith)) refl
takes_mark All v = keyword_takes All (codes "all") v refl refl (short_by (codes "all") 3 refl (omega arith)) refl
takes_mark New v = keyword_takes New (codes "new") v refl refl (short_by (codes "new") 3 refl (omega arith)) refl
takes_mark Len v = keyword_takes Len (codes "len") v refl refl (short_by (codes "len") 3 refl (omega arith)) refl
takes_mark True v = keyword_takes True (codes "true") v refl refl (short_by (codes "true") 4 refl (omega arith)) refl
takes_mark False v = keyword_takes False (codes "false") v refl refl (short_by (codes "false") 5 refl (omega arith)) refl
takes_mark Null v = keyword_takes Null (codes "null") v refl refl (short_by (codes "null") 4 refl (omega arith)) refl
takes_mark Me v = keyword_takes Me (codes "self") v refl refl (short_by (codes "self") 4 refl (omega arith)) refl
takes_mark Static v = keyword_takes Static (codes "static") v refl refl (short_by (codes "static") 6 refl (omega arith)) refl
takes_mark Add v = keyword_takes Add (codes "add") v refl refl (short_by (codes "add") 3 refl (omega arith)) refl
takes_mark Print v = keyword_takes Print (codes "print") v refl refl (short_by (codes "print") 5 refl (omega arith)) refl
takes_mark Return v = keyword_takes Return (codes "return") v refl refl (short_by (codes "return") 6 refl (omega arith)) refl
takes_mark Semi v = lone 59 Semi v (λ d cs. refl) refl
takes_mark Comma v = lone 44 Comma v (λ d cs. refl) refl
takes_mark Dot v = lone 46 Dot v (λ d cs. refl) refl
takes_mark Colon v = lone 58 Colon v (λ d cs. refl) refl
takes_mark Open v = lone 40 Open v (λ d cs. refl) refl
takes_mark Close v = lone 41 Close v (λ d cs. refl) refl
takes_mark OpenList v = lone 91 OpenList v (λ d cs. refl) refl
takes_mark CloseList v = lone 93 CloseList v (λ d cs. refl) refl
takes_mark OpenBlock v = lone 123 OpenBlock v (λ d cs. refl) refl
takes_mark CloseBlock v = lone 125 CloseBlock v (λ d cs. refl) refl
takes_mark Assign v = assign_takes v
takes_mark Equal v = just (Sign Equal) (61 ∷ 61 ∷ []) v refl
takes_mark Less v = lone 60 Less v (λ d cs. refl) refl
takes_mark Plus v = lone 43 Plus v (λ d cs. refl) refl
takes_mark Bang v = lone 33 Bang v (λ d cs. refl) refl
takes_mark And v = just (Sign And) (38 ∷ 38 ∷ []) v refl

-- ---- numbers

grows : (n : ℕ) (cs : List ℕ) → n ≤ goes_on n cs
grows n [] = omega arith
grows n (c ∷ cs) = let h : 10 * n + digit_value c ≤ goes_on (10 * n + digit_value c) cs = grows (10 * n + digit_value c) cs in omega (arith, h)

pub lt_true : (a b : ℕ) → a < b → nat_lt a b ≡ true
lt_true a b e = grind (arith, nat_tests)

pub and_true : (a b : Bool) → a ≡ true → b ≡ true → (a && b) ≡ true
and_true true b p q = q
and_true false b p q = absurd cc

digits_run : (n limit : ℕ) (cs v : List ℕ) → list_all is_digit cs ≡ true → goes_on n cs < limit → digits n limit (cs ++ v) ≡ digits (goes_on n cs) limit v
digits_run n limit [] v e below = refl
digits_run n limit (c ∷ cs) v e below =
    if_true (is_digit c && nat_lt (10 * n + digit_value c) limit) (digits (10 * n + digit_value c) limit (cs ++ v)) (n, c ∷ (cs ++ v))
    (and_true (is_digit c) (nat_lt (10 * n + digit_value c) limit) (and_left (is_digit c) (list_all is_digit cs) e)
    (lt_true (10 * n + digit_value c) limit (let h : 10 * n + digit_value c ≤ goes_on (10 * n + digit_value c) cs = grows (10 * n + digit_value c) cs in omega (arith, h, below))))
    ∙ digits_run (10 * n + digit_value c) limit cs v (and_right (is_digit c) (list_all is_digit cs) e) below

-- what is left behind further digits
pub record Left (n limit : ℕ) (v : List ℕ) : Type 0 where
  pub shorter : length (digits n limit v).1 ≤ length v
  pub same : length (digits n limit v).1 ≡ length v → digits n limit v ≡ (n, v)

left_less : (n m limit : ℕ) (c : ℕ) (cs : List ℕ) → Left m limit cs → digits n limit (c ∷ cs) ≡ digits m limit cs → Left n limit (c ∷ cs)
left_less n m limit c cs h e =
    let l : length (digits n limit (c ∷ cs)).1 ≡ length (digits m limit cs).1 = ap (λ x. length x.1) e in
    record { shorter = omega (arith, l, h.shorter); same = λ same. absurd (omega (arith, l, h.shorter, same)) }

left_by : (n limit c : ℕ) (cs : List ℕ) → Left (10 * n + digit_value c) limit cs → (b : Bool) → (is_digit c && nat_lt (10 * n + digit_value c) limit) ≡ b → Left n limit (c ∷ cs)
left_by n limit c cs h true e = left_less n (10 * n + digit_value c) limit c cs h (if_true (is_digit c && nat_lt (10 * n + digit_value c) limit) (digits (10 * n + digit_value c) limit cs) (n, c ∷ cs) e)
left_by n limit c cs h false e =
    let f : digits n limit (c ∷ cs) ≡ (n, c ∷ cs) = if_false (is_digit c && nat_lt (10 * n + digit_value c) limit) (digits (10 * n + digit_value c) limit cs) (n, c ∷ cs) e in
    record { shorter = (let l : length (digits n limit (c ∷ cs)).1 ≡ length (c ∷ cs) = ap (λ x. length x.1) f in omega (arith, l)); same = λ same. f }

left_over : (n limit : ℕ) (v : List ℕ) → Left n limit v
left_over n limit [] = record { shorter = omega arith; same = λ same. refl }
left_over n limit (c ∷ cs) = left_by n limit c cs (left_over (10 * n + digit_value c) limit cs) (is_digit c && nat_lt (10 * n + digit_value c) limit) refl

-- a number of these digits, made so
module _ (f : ℕ → ℤ) (limit c : ℕ) (cs v w : List ℕ) (all : list_all is_digit cs ≡ true) (below : goes_on (digit_value c) cs < limit)
    (reads : token (w ++ v) ≡ Some (Number (f (digits (digit_value c) limit (cs ++ v)).0), (digits (digit_value c) limit (cs ++ v)).1)) where
  abbrev end : ℕ × List ℕ
  end = digits (goes_on (digit_value c) cs) limit v

  run : digits (digit_value c) limit (cs ++ v) ≡ digits (goes_on (digit_value c) cs) limit v
  run = digits_run (digit_value c) limit cs v all below

  takes_digits : Takes (Number (f (goes_on (digit_value c) cs))) w v
  takes_digits = record {
    found = Number (f (digits (goes_on (digit_value c) cs) limit v).0);
    rest = (digits (goes_on (digit_value c) cs) limit v).1;
    reads = reads ∙ ap (λ (x : ℕ × List ℕ). Some (Number (f x.0), x.1)) run;
    longer = (left_over (goes_on (digit_value c) cs) limit v).shorter;
    same = λ same. ap (λ (x : ℕ × List ℕ). Number (f x.0)) ((left_over (goes_on (digit_value c) cs) limit v).same same);
  }

digit_quote : (c : ℕ) → is_digit c ≡ true → (c == 34) ≡ false
digit_quote c e = grind (arith, nat_tests)

digit_minus : (c : ℕ) → is_digit c ≡ true → (c == 45) ≡ false
digit_minus c e = grind (arith, nat_tests)

not_nought : (c : ℕ) → 48 < c → (c == 48) ≡ false
not_nought c e = grind (arith, nat_tests)

first_digit : (c : ℕ) → 48 < c → is_digit c ≡ true → (nat_le 49 c && nat_le c 57) ≡ true
first_digit c some e = grind (arith, nat_tests)

reads_above : (c : ℕ) (cs : List ℕ) → 48 < c → is_digit c ≡ true → token (c ∷ cs) ≡ Some (Number (pos (digits (digit_value c) (2 ^ 63) cs).0), (digits (digit_value c) (2 ^ 63) cs).1)
reads_above c cs some e = rw (digit_quote c e, digit_minus c e, e, not_nought c some) refl

reads_below : (c : ℕ) (cs : List ℕ) → 48 < c → is_digit c ≡ true → token (45 ∷ c ∷ cs) ≡ Some (Number (minus (digits (digit_value c) (2 ^ 63 + 1) cs).0), (digits (digit_value c) (2 ^ 63 + 1) cs).1)
reads_below c cs some e = rw (first_digit c some e) refl

takes_above : (n : ℕ) (w v : List ℕ) → IsCount n w → n < 2 ^ 63 → Takes (Number (pos n)) w v
takes_above n w v (counted c cs some first all) below = takes_digits pos (2 ^ 63) c cs v (c ∷ cs) all below (reads_above c (cs ++ v) some first)

takes_below : (n : ℕ) (w v : List ℕ) → IsCount n w → n ≤ 2 ^ 63 → Takes (Number (minus n)) (45 ∷ w) v
takes_below n w v (counted c cs some first all) below = takes_digits minus (2 ^ 63 + 1) c cs v (45 ∷ c ∷ cs) all (omega (arith, below)) (reads_below c (cs ++ v) some first)

takes_number : (n : ℤ) (w v : List ℕ) → IsNumber n w → Takes (Number n) w v
takes_number n w v nought = just (Number (pos 0)) (48 ∷ []) v refl
takes_number n w v (unsigned m u h below) = takes_above m u v h below
takes_number n w v (signed m u h below) = takes_below m u v h below

-- ---- quoted texts

hex_by_grows : (v u : ℕ) (cs : List ℕ) (o : Option ℕ) → ((d : ℕ) → hex_from (16 * v + d) cs ≡ Some u → 16 * v + d ≤ u) → hex_by o (λ d. hex_from (16 * v + d) cs) ≡ Some u → 16 * v ≤ u
hex_by_grows v u cs None h e = absurd cc
hex_by_grows v u cs (Some d) h e = omega (arith, h d e)

hex_grows : (v : ℕ) (cs : List ℕ) (u : ℕ) → hex_from v cs ≡ Some u → v ≤ u
hex_grows v [] u e = let h : v ≡ u = cc in omega (arith, h)
hex_grows v (c ∷ cs) u e = let h : 16 * v ≤ u = hex_by_grows v u cs (hex_value c) (λ d g. hex_grows (16 * v + d) cs u g) e in omega (arith, h)

scalar_small : (v : ℕ) → is_scalar v ≡ true → v < 0x110000
scalar_small v e = grind (arith, nat_tests)

some_digits : (n : ℕ) → 0 < n → (n == 0) ≡ false
some_digits n e = grind (arith, nat_tests)

module _ (found : List ℕ) where
  abbrev does : Act → List ℕ → Option (List ℕ × List ℕ)
  does a xs = by_act a (λ d. quoted Plain (found ++ encode_utf8 d) xs) (λ r. quoted r found xs) (Some (found, xs))

  hex_end : (n v : ℕ) (xs : List ℕ) → 0 < n → is_scalar v ≡ true → quoted (Hex n v) found (125 ∷ xs) ≡ quoted Plain (found ++ encode_utf8 v) xs
  hex_end n v xs some e =
      ap (λ b. does (if b then Bad else (if is_scalar v then Puts v else Bad)) xs) (some_digits n some)
      ∙ ap (λ b. does (if b then Puts v else Bad) xs) e

  hex_turn : (n v c d : ℕ) (xs : List ℕ) → hex_value c ≡ Some d → n < 6 → v < 0x100000 → quoted (Hex n v) found (c ∷ xs) ≡ quoted (Hex (n + 1) (16 * v + d)) found xs
  hex_turn n v c d xs e few small =
      ap (λ o. does (in_digits_by n v c o) xs) e
      ∙ ap (λ b. does (if b then Go (Hex (n + 1) (16 * v + d)) else Bad) xs) (and_true (nat_lt n 6) (nat_lt v 0x100000) (lt_true n 6 few) (lt_true v 0x100000 small))

  hex_by_read : (n v c : ℕ) (cs : List ℕ) (u : ℕ) (xs : List ℕ) (o : Option ℕ) → hex_value c ≡ o → n + length (c ∷ cs) ≤ 6
      → ((d : ℕ) → hex_from (16 * v + d) cs ≡ Some u → quoted (Hex (n + 1) (16 * v + d)) found (cs ++ 125 ∷ xs) ≡ quoted Plain (found ++ encode_utf8 u) xs)
      → hex_by o (λ d. hex_from (16 * v + d) cs) ≡ Some u → is_scalar u ≡ true → quoted (Hex n v) found (c ∷ (cs ++ 125 ∷ xs)) ≡ quoted Plain (found ++ encode_utf8 u) xs
  hex_by_read n v c cs u xs None is few h e s = absurd cc
  hex_by_read n v c cs u xs (Some d) is few h e s =
      hex_turn n v c d (cs ++ 125 ∷ xs) is (omega (arith, few))
      (let a : 16 * v + d ≤ u = hex_grows (16 * v + d) cs u e in let b : u < 0x110000 = scalar_small u s in omega (arith, a, b))
      ∙ h d e

  hex_read : (n v : ℕ) (hs : List ℕ) (u : ℕ) (xs : List ℕ) → n + length hs ≤ 6 → 0 < n + length hs → hex_from v hs ≡ Some u → is_scalar u ≡ true → quoted (Hex n v) found (hs ++ 125 ∷ xs) ≡ quoted Plain (found ++ encode_utf8 u) xs
  hex_read n v [] u xs few some e s = let h : v ≡ u = cc in hex_end n v xs (omega (arith, some)) (ap is_scalar h ∙ s) ∙ ap (λ w. quoted Plain (found ++ encode_utf8 w) xs) h
  hex_read n v (c ∷ cs) u xs few some e s =
      hex_by_read n v c cs u xs (hex_value c) refl few (λ d g. hex_read (n + 1) (16 * v + d) cs u xs (omega (arith, few)) (omega arith) g s) e s

not_same : (a b : ℕ) → a ≢ b → (a == b) ≡ false
not_same a b e = grind (arith, nat_tests)

not_less : (a b : ℕ) → b ≤ a → nat_lt a b ≡ false
not_less a b e = grind (arith, nat_tests)

plain_is : (c : ℕ) → 32 ≤ c → c ≢ 34 → c ≢ 92 → act Plain c ≡ Puts c
plain_is c le q b = rw (not_same c 34 q, not_same c 92 b, not_less c 32 le) refl

escape_is : (c d : ℕ) (found xs : List ℕ) → IsEscape c d → quoted Plain found (92 ∷ c ∷ xs) ≡ quoted Plain (found ++ encode_utf8 d) xs
escape_is c d found xs quote = refl
escape_is c d found xs backslash = refl
escape_is c d found xs line = refl
escape_is c d found xs tab = refl

means_read : (t w found v : List ℕ) → Means t w → quoted Plain found (w ++ 34 ∷ v) ≡ Some (found ++ t, v)
means_read t w found v no_text = ap (λ x. Some (x, v)) (sym (append-nil found))
means_read t w found v (itself c s u le q b h) =
    ap (λ a. does found a (u ++ 34 ∷ v)) (plain_is c le q b)
    ∙ means_read s u (found ++ encode_utf8 c) v h ∙ ap (λ x. Some (x, v)) (append_assoc found (encode_utf8 c) s)
means_read t w found v (escape c d s u is h) =
    escape_is c d found (u ++ 34 ∷ v) is
    ∙ means_read s u (found ++ encode_utf8 d) v h ∙ ap (λ x. Some (x, v)) (append_assoc found (encode_utf8 d) s)
means_read t w found v (scalar c hs s u some few e is h) =
    ap (quoted (Hex 0 0) found) (append_assoc hs (125 ∷ u) (34 ∷ v))
    ∙ hex_read found 0 0 hs c (u ++ 34 ∷ v) (omega (arith, few)) (omega (arith, some)) e is
    ∙ means_read s u (found ++ encode_utf8 c) v h ∙ ap (λ x. Some (x, v)) (append_assoc found (encode_utf8 c) s)

takes_text : (t w v : List ℕ) → Means t w → Takes (Str t) (34 ∷ (w ++ 34 ∷ [])) v
takes_text t w v h = just (Str t) (34 ∷ (w ++ 34 ∷ [])) v (ap (λ x. quoted_token (quoted Plain [] x)) (append_assoc w (34 ∷ []) v) ∙ ap quoted_token (means_read t w [] v h))

-- ---- names

bytes_same : (xs ys : List ℕ) → bytes_eq xs ys ≡ true → xs ≡ ys
bytes_same xs ys e = (bytes_eq-Decides xs ys).0 e

pick_by : (w : List ℕ) (m k : Mark) (rest : Option Mark) → (rest ≡ Some m → w ≡ written m) → (b : Bool) → bytes_eq w (written k) ≡ b → (if b then Some k else rest) ≡ Some m → w ≡ written m
pick_by w m k rest next true b e = let h : k ≡ m = cc in bytes_same w (written k) b ∙ ap written h
pick_by w m k rest next false b e = next e

pick : (w : List ℕ) (m k : Mark) (rest : Option Mark) → (rest ≡ Some m → w ≡ written m) → (if bytes_eq w (written k) then Some k else rest) ≡ Some m → w ≡ written m
pick w m k rest next e = pick_by w m k rest next (bytes_eq w (written k)) refl e

late_is : (w : List ℕ) (m : Mark) → late_keyword w ≡ Some m → w ≡ written m
late_is w m e = pick w m New _ (pick w m Len _ (pick w m True _ (pick w m False _ (pick w m Null _ (pick w m Me _ (pick w m Static _ (pick w m Add _ (pick w m Print _ (pick w m Return _ (λ (g : None ≡ Some m). absurd cc)))))))))) e

pub keyword_is : (w : List ℕ) (m : Mark) → keyword w ≡ Some m → w ≡ written m
keyword_is w m e = pick w m Let _ (pick w m Produce _ (pick w m For _ (pick w m In _ (pick w m If _ (pick w m Else _ (pick w m Call _ (pick w m Fail _ (pick w m Get _ (pick w m All _ (late_is w m)))))))))) e

none_by : (w : List ℕ) → ((m : Mark) → w ≢ written m) → (o : Option Mark) → keyword w ≡ o → o ≡ None
none_by w other None e = refl
none_by w other (Some m) e = absurd (other m (keyword_is w m e))

name_is : (w : List ℕ) → IsWord w → ((m : Mark) → w ≢ written m) → word w ≡ Name w
name_is w h other = ap (λ x. word_by x (keyword x)) (word_bytes w h.all) ∙ ap (word_by w) (none_by w other (keyword w) refl)

-- ---- tokens

pub takes : (t : Token) (w v : List ℕ) → IsToken t w → Takes t w v
takes t w v (mark m) = takes_mark m v
takes t w v (number n u h) = takes_number n u v h
takes t w v (text s u h) = takes_text s u v h
takes t w v (name u h other) = takes_word (Name u) u v h (name_is u h other)

one_by : (t u : Token) (w : List ℕ) → Takes t w [] → Takes u w [] → t ≡ u
one_by t u w a b =
    let x : a.found ≡ t = a.same (omega (arith, a.longer)) in
    let y : b.found ≡ u = b.same (omega (arith, b.longer)) in
    sym x ∙ ap (λ z. z.0) (some_is (a.found, a.rest) (b.found, b.rest) (sym a.reads ∙ b.reads)) ∙ y

-- characters are one token at most
pub one_token : (t u : Token) (w : List ℕ) → IsToken t w → IsToken u w → t ≡ u
one_token t u w a b = one_by t u w (takes t w [] a) (takes u w [] b)
