-- Signs, keywords, names and numbers: read back in front of a text that can't go on with them.
use Rattle.std.proofs.Common.{◌≡◌, ℕ, ℤ, pos, zero, suc, ◌+◌, ◌-◌, ◌*◌, ◌^◌, ◌<◌, ◌≤◌, Bool, true, false, List, [], ◌∷◌, ◌++◌, length, take, drop, refl, sym, ap, subst, ◌∙◌, arith, if◌then◌else◌}
use Rattle.std.specs.Prelude.{◌&&◌, ◌||◌, not, ◌==◌, nat_lt, nat_le, Option, Some, None, ◌≢◌}
use Rattle.std.specs.List.{list_all}
use Rattle.std.specs.Str.{encode_utf8_all, bytes_eq}
use Rattle.std.specs.Char.{encode_utf8}
use Rattle.std.specs.Fmt.{decimal, signed_decimal}
use Rattle.std.proofs.lemmas.Bool.Decides.{nat_tests}
use Rattle.std.proofs.lemmas.Bool.{and_parts}
use Rattle.std.proofs.lemmas.Slice.Eq.{bytes_eq-Decides}
use Rattle.std.proofs.lemmas.Str.{encode_ascii}
use Rattle.std.proofs.lemmas.Str.Parse.{IsDigitsTest, FoldsDigits, IsNumeralModel, numerals_by_fold}
use Rattle.std.proofs.lemmas.Fmt.{decimal-digits_value, decimal_digit}
use Rattle.std.proofs.lemmas.List.{append-nil}
use Rattle.std.proofs.Math.Seq.{take-append-add, drop-append-add}
use Rattle.std.proofs.Math.Utf8.{scalars, low_scalar}
use Rattle.lang_lexer.specs.declared.token.Mark.{Mark}
use Rattle.lang_lexer.specs.declared.token.Mark.TheVariants.{Let, Produce, For, In, If, Else, Call, Fail, Get, All, New, Len, True, False, Null, Me, Static, Add, Print, Return, Semi, Comma, Dot, Colon, Open, Close, OpenList, CloseList, OpenBlock, CloseBlock, Assign, Equal, Less, Plus, Bang, And}
use Rattle.lang_lexer.specs.declared.token.Token.{Token}
use Rattle.lang_lexer.specs.declared.token.Token.TheVariants.{Sign, Number, Name}
use Rattle.lang_lexer.specs.Marks.{written}
use Rattle.lang_lexer.specs.Words.{is_digit, is_letter, in_name, run_len, name_len, word, word_by, keyword, late_keyword}
use Rattle.lang_lexer.specs.Numbers.{digit_value, digits}
use Rattle.lang_lexer.specs.Tokens.{token, word_from, minus}
use Rattle.lang_lexer.specs.Kinds.{begins_word, IsWord, goes_on, IsCount, counted, IsNumber, nought, unsigned, signed}
use Rattle.lang_print.specs.Canonical.{hugs_right, mark_hugs_right}
use Rattle.lang_print.specs.Canonical as canonical

-- whether a text begins with no character that could carry a name, a number or `=` on
abbrev pub parted : List ℕ → Bool
parted [] = true
parted (c ∷ cs) = not (in_name c) && not (c == 61)

-- these characters are the token, written canonically, and are read as that token where nothing behind them could carry it on
pub record Shows (t : Token) (w : List ℕ) : Type 0 where
  pub bytes : encode_utf8_all w ≡ canonical.word t
  pub scalar : scalars w ≡ true
  pub reads : (v : List ℕ) → (hugs_right t || parted v) ≡ true → token (w ++ v) ≡ Some (t, v)

pub if_true : {A : Type 0} (b : Bool) (x y : A) → b ≡ true → (if b then x else y) ≡ x
if_true true x y e = refl
if_true false x y e = absurd cc

pub if_false : {A : Type 0} (b : Bool) (x y : A) → b ≡ false → (if b then x else y) ≡ y
if_false false x y e = refl
if_false true x y e = absurd cc

not_true : (b : Bool) → not b ≡ true → b ≡ false
not_true false e = refl
not_true true e = absurd cc

-- ---- ASCII

abbrev pub ascii : List ℕ → Bool
ascii [] = true
ascii (c ∷ cs) = nat_lt c 128 && ascii cs

pub same_number : (a b : ℕ) → (a == b) ≡ true → a ≡ b
same_number a b e = grind (arith, nat_tests)

below : (a b : ℕ) → nat_lt a b ≡ true → a < b
below a b e = grind (arith, nat_tests)

pub ascii_bytes : (w : List ℕ) → ascii w ≡ true → encode_utf8_all w ≡ w
ascii_bytes [] e = refl
ascii_bytes (c ∷ cs) e =
    let p = and_parts (nat_lt c 128) (ascii cs) e in
    ap (λ x. x ++ encode_utf8_all cs) (encode_ascii c (below c 128 p.0)) ∙ ap (λ x. c ∷ x) (ascii_bytes cs p.1)

pub ascii_scalars : (w : List ℕ) → ascii w ≡ true → scalars w ≡ true
ascii_scalars [] e = refl
ascii_scalars (c ∷ cs) e =
    let p = and_parts (nat_lt c 128) (ascii cs) e in
    let s : c < 128 = below c 128 p.0 in
    ap (λ b. b && scalars cs) (low_scalar c (omega (arith, s))) ∙ ascii_scalars cs p.1

name_small : (c : ℕ) → in_name c ≡ true → nat_lt c 128 ≡ true
name_small c e = grind (arith, nat_tests)

word_ascii : (w : List ℕ) → list_all in_name w ≡ true → ascii w ≡ true
word_ascii [] e = refl
word_ascii (c ∷ cs) e = let p = and_parts (in_name c) (list_all in_name cs) e in ap (λ b. b && ascii cs) (name_small c p.0) ∙ word_ascii cs p.1

-- ---- words

run_of : (w v : List ℕ) → list_all in_name w ≡ true → run_len (w ++ v) ≡ length w + run_len v
run_of [] v e = omega arith
run_of (c ∷ cs) v e =
    let p = and_parts (in_name c) (list_all in_name cs) e in
    if_true (in_name c) (run_len (cs ++ v) + 1) 0 p.0 ∙ (let h : run_len (cs ++ v) ≡ length cs + run_len v = run_of cs v p.1 in omega (arith, h))

ends : (n : ℕ) (v : List ℕ) → parted v ≡ true → run_len (take n v) ≡ 0
ends zero v e = refl
ends (suc n) [] e = refl
ends (suc n) (c ∷ cs) e = if_false (in_name c) (run_len (take n cs) + 1) 0 (not_true (in_name c) (and_parts (not (in_name c)) (not (c == 61)) e).0)

name_len_of : (w v : List ℕ) → list_all in_name w ≡ true → length w ≤ 64 → parted v ≡ true → name_len (w ++ v) ≡ length w + 0
name_len_of w v e short apart =
    ap (λ n. run_len (take n (w ++ v))) (let h : 64 ≡ length w + (64 - length w) = omega (arith, short) in h)
    ∙ ap run_len (take-append-add w v (64 - length w)) ∙ run_of w (take (64 - length w) v) e ∙ ap (λ n. length w + n) (ends (64 - length w) v apart)

letter_quote : (c : ℕ) → is_letter c ≡ true → (c == 34) ≡ false
letter_quote c e = grind (arith, nat_tests)

letter_minus : (c : ℕ) → is_letter c ≡ true → (c == 45) ≡ false
letter_minus c e = grind (arith, nat_tests)

letter_digit : (c : ℕ) → is_letter c ≡ true → is_digit c ≡ false
letter_digit c e = grind (arith, nat_tests)

word_token : (c : ℕ) (cs : List ℕ) → is_letter c ≡ true → token (c ∷ cs) ≡ Some (word_from (c ∷ cs))
word_token c cs e = rw (letter_quote c e, letter_minus c e, letter_digit c e, e) refl

word_reads : (w v : List ℕ) → begins_word w ≡ true → token (w ++ v) ≡ Some (word_from (w ++ v))
word_reads [] v e = absurd cc
word_reads (c ∷ cs) v e = word_token c (cs ++ v) e

from_is : (w v : List ℕ) → name_len (w ++ v) ≡ length w + 0 → word_from (w ++ v) ≡ (word w, v)
from_is w v e =
    ap (λ k. (word (take k (w ++ v)), drop k (w ++ v))) e
    ∙ ap (λ x. (word x, drop (length w + 0) (w ++ v))) (take-append-add w v 0 ∙ append-nil w) ∙ ap (λ y. (word w, y)) (drop-append-add w v 0)

shows_word : (t : Token) (w : List ℕ) → canonical.word t ≡ w → hugs_right t ≡ false → IsWord w → word w ≡ t → Shows t w
shows_word t w is tight h e = record {
  bytes = ascii_bytes w (word_ascii w h.all) ∙ sym is;
  scalar = ascii_scalars w (word_ascii w h.all);
  reads = λ v apart.
      word_reads w v h.first
      ∙ ap (λ x. Some x) (from_is w v (name_len_of w v h.all h.short (ap (λ b. b || parted v) (sym tight) ∙ apart)) ∙ ap (λ y. (y, v)) e);
}

-- ---- keywords and signs

small : (a b : ℕ) → nat_le a b ≡ true → a ≤ b
small a b e = grind (arith, nat_tests)

shows_keyword : (m : Mark) → mark_hugs_right m ≡ false → begins_word (written m) ≡ true → list_all in_name (written m) ≡ true → nat_le (length (written m)) 64 ≡ true → word (written m) ≡ Sign m
    → Shows (Sign m) (written m)
shows_keyword m tight first all short e = shows_word (Sign m) (written m) refl tight (record { first = first; all = all; short = small (length (written m)) 64 short }) e

shows_sign : (m : Mark) → ascii (written m) ≡ true → ((v : List ℕ) → (mark_hugs_right m || parted v) ≡ true → token (written m ++ v) ≡ Some (Sign m, v)) → Shows (Sign m) (written m)
shows_sign m small reads = record { bytes = ascii_bytes (written m) small; scalar = ascii_scalars (written m) small; reads = reads }

-- a sign of one character that begins no other
lone : (c : ℕ) (m : Mark) → written m ≡ c ∷ [] → ascii (written m) ≡ true → ((d : ℕ) (cs : List ℕ) → token (c ∷ d ∷ cs) ≡ Some (Sign m, d ∷ cs)) → token (c ∷ []) ≡ Some (Sign m, []) → Shows (Sign m) (written m)
lone c m is small more none = shows_sign m small (λ v apart. ap (λ w. token (w ++ v)) is ∙ by v)
  where
    by : (v : List ℕ) → token (c ∷ v) ≡ Some (Sign m, v)
    by [] = none
    by (d ∷ cs) = more d cs

assign_reads : (v : List ℕ) → parted v ≡ true → token (61 ∷ v) ≡ Some (Sign Assign, v)
assign_reads [] e = refl
assign_reads (d ∷ cs) e = let h : (d == 61) ≡ false = not_true (d == 61) (and_parts (not (in_name d)) (not (d == 61)) e).1 in rw h refl

pub shows_mark : (m : Mark) → Shows (Sign m) (written m)
unfolding encode_utf8
shows_mark Semi = lone 59 Semi refl refl (λ d cs. refl) refl
shows_mark Comma = lone 44 Comma refl refl (λ d cs. refl) refl
shows_mark Dot = lone 46 Dot refl refl (λ d cs. refl) refl
shows_mark Colon = lone 58 Colon refl refl (λ d cs. refl) refl
shows_mark Open = lone 40 Open refl refl (λ d cs. refl) refl
shows_mark Close = lone 41 Close refl refl (λ d cs. refl) refl
shows_mark OpenList = lone 91 OpenList refl refl (λ d cs. refl) refl
shows_mark CloseList = lone 93 CloseList refl refl (λ d cs. refl) refl
shows_mark OpenBlock = lone 123 OpenBlock refl refl (λ d cs. refl) refl
shows_mark CloseBlock = lone 125 CloseBlock refl refl (λ d cs. refl) refl
shows_mark Assign = shows_sign Assign refl assign_reads
shows_mark Equal = shows_sign Equal refl (λ v e. refl)
shows_mark Less = lone 60 Less refl refl (λ d cs. refl) refl
shows_mark Plus = lone 43 Plus refl refl (λ d cs. refl) refl
shows_mark Bang = lone 33 Bang refl refl (λ d cs. refl) refl
shows_mark And = shows_sign And refl (λ v e. refl)
shows_mark Let = shows_keyword Let refl refl refl refl refl
shows_mark Produce = shows_keyword Produce refl refl refl refl refl
shows_mark For = shows_keyword For refl refl refl refl refl
shows_mark In = shows_keyword In refl refl refl refl refl
shows_mark If = shows_keyword If refl refl refl refl refl
shows_mark Else = shows_keyword Else refl refl refl refl refl
shows_mark Call = shows_keyword Call refl refl refl refl refl
shows_mark Fail = shows_keyword Fail refl refl refl refl refl
shows_mark Get = shows_keyword Get refl refl refl refl refl
shows_mark All = shows_keyword All refl refl refl refl refl
shows_mark New = shows_keyword New refl refl refl refl refl
shows_mark Len = shows_keyword Len refl refl refl refl refl
shows_mark True = shows_keyword True refl refl refl refl refl
shows_mark False = shows_keyword False refl refl refl refl refl
shows_mark Null = shows_keyword Null refl refl refl refl refl
shows_mark Me = shows_keyword Me refl refl refl refl refl
shows_mark Static = shows_keyword Static refl refl refl refl refl
shows_mark Add = shows_keyword Add refl refl refl refl refl
shows_mark Print = shows_keyword Print refl refl refl refl refl
shows_mark Return = shows_keyword Return refl refl refl refl refl

-- ---- names

pub bytes_same : (xs ys : List ℕ) → bytes_eq xs ys ≡ true → xs ≡ ys
bytes_same xs ys e = (bytes_eq-Decides xs ys).0 e

pick_by : (w : List ℕ) (m k : Mark) (rest : Option Mark) → (rest ≡ Some m → w ≡ written m) → (b : Bool) → bytes_eq w (written k) ≡ b → (if b then Some k else rest) ≡ Some m → w ≡ written m
pick_by w m k rest next true b e = let h : k ≡ m = cc in bytes_same w (written k) b ∙ ap written h
pick_by w m k rest next false b e = next e

pick : (w : List ℕ) (m k : Mark) (rest : Option Mark) → (rest ≡ Some m → w ≡ written m) → (if bytes_eq w (written k) then Some k else rest) ≡ Some m → w ≡ written m
pick w m k rest next e = pick_by w m k rest next (bytes_eq w (written k)) refl e

late_is : (w : List ℕ) (m : Mark) → late_keyword w ≡ Some m → w ≡ written m
late_is w m e = pick w m New _ (pick w m Len _ (pick w m True _ (pick w m False _ (pick w m Null _ (pick w m Me _ (pick w m Static _ (pick w m Add _ (pick w m Print _ (pick w m Return _ (λ (g : None ≡ Some m). absurd cc)))))))))) e

keyword_is : (w : List ℕ) (m : Mark) → keyword w ≡ Some m → w ≡ written m
keyword_is w m e = pick w m Let _ (pick w m Produce _ (pick w m For _ (pick w m In _ (pick w m If _ (pick w m Else _ (pick w m Call _ (pick w m Fail _ (pick w m Get _ (pick w m All _ (late_is w m)))))))))) e

none_by : (w : List ℕ) → ((m : Mark) → w ≢ written m) → (o : Option Mark) → keyword w ≡ o → o ≡ None
none_by w other None e = refl
none_by w other (Some m) e = absurd (other m (keyword_is w m e))

name_is : (w : List ℕ) → IsWord w → ((m : Mark) → w ≢ written m) → word w ≡ Name w
name_is w h other = ap (λ x. word_by x (keyword x)) (ascii_bytes w (word_ascii w h.all)) ∙ ap (word_by w) (none_by w other (keyword w) refl)

pub shows_name : (w : List ℕ) → IsWord w → ((m : Mark) → w ≢ written m) → Shows (Name w) w
shows_name w h other = shows_word (Name w) w refl refl h (name_is w h other)

-- ---- numbers

grows : (n : ℕ) (cs : List ℕ) → n ≤ goes_on n cs
grows n [] = omega arith
grows n (c ∷ cs) = let h : 10 * n + digit_value c ≤ goes_on (10 * n + digit_value c) cs = grows (10 * n + digit_value c) cs in omega (arith, h)

pub lt_true : (a b : ℕ) → a < b → nat_lt a b ≡ true
lt_true a b e = grind (arith, nat_tests)

pub and_true : (a b : Bool) → a ≡ true → b ≡ true → (a && b) ≡ true
and_true true b p q = q
and_true false b p q = absurd cc

digits_run : (n limit : ℕ) (cs v : List ℕ) → list_all is_digit cs ≡ true → goes_on n cs < limit → digits n limit (cs ++ v) ≡ digits (goes_on n cs) limit v
digits_run n limit [] v e below = refl
digits_run n limit (c ∷ cs) v e below =
    let p = and_parts (is_digit c) (list_all is_digit cs) e in
    if_true (is_digit c && nat_lt (10 * n + digit_value c) limit) (digits (10 * n + digit_value c) limit (cs ++ v)) (n, c ∷ (cs ++ v))
    (and_true (is_digit c) (nat_lt (10 * n + digit_value c) limit) p.0
    (lt_true (10 * n + digit_value c) limit (let h : 10 * n + digit_value c ≤ goes_on (10 * n + digit_value c) cs = grows (10 * n + digit_value c) cs in omega (arith, h, below))))
    ∙ digits_run (10 * n + digit_value c) limit cs v p.1 below

no_digit : (c : ℕ) → in_name c ≡ false → is_digit c ≡ false
no_digit c e = grind (arith, nat_tests)

digits_end : (n limit : ℕ) (v : List ℕ) → parted v ≡ true → digits n limit v ≡ (n, v)
digits_end n limit [] e = refl
digits_end n limit (c ∷ cs) e =
    ap (λ b. if b && nat_lt (10 * n + digit_value c) limit then digits (10 * n + digit_value c) limit cs else (n, c ∷ cs)) (no_digit c (not_true (in_name c) (and_parts (not (in_name c)) (not (c == 61)) e).0))

digit_quote : (c : ℕ) → is_digit c ≡ true → (c == 34) ≡ false
digit_quote c e = grind (arith, nat_tests)

digit_minus : (c : ℕ) → is_digit c ≡ true → (c == 45) ≡ false
digit_minus c e = grind (arith, nat_tests)

not_nought : (c : ℕ) → 48 < c → (c == 48) ≡ false
not_nought c e = grind (arith, nat_tests)

first_digit : (c : ℕ) → 48 < c → is_digit c ≡ true → (nat_le 49 c && nat_le c 57) ≡ true
first_digit c some e = grind (arith, nat_tests)

reads_above : (c : ℕ) (cs : List ℕ) → 48 < c → is_digit c ≡ true → token (c ∷ cs) ≡ Some (Number (pos (digits (digit_value c) (2 ^ 63) cs).0), (digits (digit_value c) (2 ^ 63) cs).1)
reads_above c cs some e = rw (digit_quote c e, digit_minus c e, e, not_nought c some) refl

reads_below : (c : ℕ) (cs : List ℕ) → 48 < c → is_digit c ≡ true → token (45 ∷ c ∷ cs) ≡ Some (Number (minus (digits (digit_value c) (2 ^ 63 + 1) cs).0), (digits (digit_value c) (2 ^ 63 + 1) cs).1)
reads_below c cs some e = rw (first_digit c some e) refl

-- digits are what `decimal` writes of their value
is_from : (c : ℕ) → is_digit c ≡ true → 48 ≤ c
is_from c e = grind (arith, nat_tests)

is_to : (c : ℕ) → is_digit c ≡ true → c ≤ 57
is_to c e = grind (arith, nat_tests)

in_range : (c : ℕ) → 48 ≤ c → c ≤ 57 → is_digit c ≡ true
in_range c a b = grind (arith, nat_tests)

tells : IsDigitsTest (λ ds. list_all is_digit ds ≡ true)
tells = record {
  empty = refl;
  parts = λ c cs e. let p = and_parts (is_digit c) (list_all is_digit cs) e in ((is_from c p.0, is_to c p.0), p.1);
  more = λ c cs k e. and_true (is_digit c) (list_all is_digit cs) (in_range c k.0 k.1) e;
}

value_is : (c : ℕ) → is_digit c ≡ true → digit_value c ≡ c - 48
value_is c e = if_true (is_digit c) (c - 48) 0 e

folds : FoldsDigits goes_on
folds = record {
  empty = λ n. refl;
  more = λ n c cs k. ap (λ m. goes_on m cs) (let h : digit_value c ≡ c - 48 = value_is c (in_range c k.0 k.1) in omega (arith, h));
}

own : IsNumeralModel (λ ds. list_all is_digit ds ≡ true) (goes_on 0)
own = numerals_by_fold (λ ds. list_all is_digit ds ≡ true) tells goes_on folds

from_nought : (c : ℕ) (cs : List ℕ) → goes_on 0 (c ∷ cs) ≡ goes_on (digit_value c) cs
from_nought c cs = ap (λ m. goes_on m cs) (let h : 10 * 0 + digit_value c ≡ digit_value c = omega arith in h)

count_decimal : (n : ℕ) (w : List ℕ) → IsCount n w → n < 2 ^ 64 → decimal n ≡ w
count_decimal n w (counted c cs some first all) small =
    ap decimal (sym (from_nought c cs))
    ∙ decimal-digits_value own (c ∷ cs) (and_true (is_digit c) (list_all is_digit cs) first all) (omega arith) (λ e. absurd (omega (arith, e, some))) (let h : goes_on 0 (c ∷ cs) ≡ goes_on (digit_value c) cs = from_nought c cs in omega (arith, h, small))

digit_small : (c : ℕ) → is_digit c ≡ true → nat_lt c 128 ≡ true
digit_small c e = grind (arith, nat_tests)

digits_ascii : (w : List ℕ) → list_all is_digit w ≡ true → ascii w ≡ true
digits_ascii [] e = refl
digits_ascii (c ∷ cs) e = let p = and_parts (is_digit c) (list_all is_digit cs) e in and_true (nat_lt c 128) (ascii cs) (digit_small c p.0) (digits_ascii cs p.1)

count_ascii : (n : ℕ) (w : List ℕ) → IsCount n w → ascii w ≡ true
count_ascii n w (counted c cs some first all) = and_true (nat_lt c 128) (ascii cs) (digit_small c first) (digits_ascii cs all)

count_above : (n : ℕ) (w v : List ℕ) → IsCount n w → n < 2 ^ 63 → parted v ≡ true → token (w ++ v) ≡ Some (Number (pos n), v)
count_above n w v (counted c cs some first all) small apart =
    reads_above c (cs ++ v) some first
    ∙ ap (λ (x : ℕ × List ℕ). Some (Number (pos x.0), x.1)) (digits_run (digit_value c) (2 ^ 63) cs v all small ∙ digits_end (goes_on (digit_value c) cs) (2 ^ 63) v apart)

count_below : (n : ℕ) (w v : List ℕ) → IsCount n w → n ≤ 2 ^ 63 → parted v ≡ true → token (45 ∷ (w ++ v)) ≡ Some (Number (minus n), v)
count_below n w v (counted c cs some first all) small apart =
    reads_below c (cs ++ v) some first
    ∙ ap (λ (x : ℕ × List ℕ). Some (Number (minus x.0), x.1)) (digits_run (digit_value c) (2 ^ 63 + 1) cs v all (omega (arith, small)) ∙ digits_end (goes_on (digit_value c) cs) (2 ^ 63 + 1) v apart)

count_some : (n : ℕ) (w : List ℕ) → IsCount n w → 0 < n
count_some n w (counted c cs some first all) =
    let h : digit_value c ≤ goes_on (digit_value c) cs = grows (digit_value c) cs in
    let e : digit_value c ≡ c - 48 = value_is c first in
    omega (arith, h, e, some)

minus_decimal : (n : ℕ) → 0 < n → signed_decimal (minus n) ≡ 45 ∷ decimal n
minus_decimal zero some = absurd (omega (arith, some))
minus_decimal (suc n) some = refl

pub shows_number : (v : ℤ) (w : List ℕ) → IsNumber v w → Shows (Number v) (signed_decimal v)
shows_number v w nought = subst (Shows (Number (pos 0))) (sym (decimal_digit 0 (omega arith))) (record { bytes = ascii_bytes (48 ∷ []) refl ∙ sym (decimal_digit 0 (omega arith)); scalar = refl; reads = λ u e. refl })
shows_number v w (unsigned n u h small) =
    let e : decimal n ≡ u = count_decimal n u h (omega (arith, small)) in
    subst (Shows (Number (pos n))) (sym e) (record { bytes = ascii_bytes u (count_ascii n u h) ∙ sym e; scalar = ascii_scalars u (count_ascii n u h); reads = λ x apart. count_above n u x h small apart })
shows_number v w (signed n u h small) =
    let e : signed_decimal (minus n) ≡ 45 ∷ u = minus_decimal n (count_some n u h) ∙ ap (λ x. 45 ∷ x) (count_decimal n u h (omega (arith, small))) in
    let a : ascii (45 ∷ u) ≡ true = and_true (nat_lt 45 128) (ascii u) refl (count_ascii n u h) in
    subst (Shows (Number (minus n))) (sym e) (record { bytes = ascii_bytes (45 ∷ u) a ∙ sym e; scalar = ascii_scalars (45 ∷ u) a; reads = λ x apart. count_below n u x h small apart })
