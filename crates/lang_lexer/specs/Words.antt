-- Names and keywords, given by their characters. This project's own.
use Rattle.std.specs.Prelude.{ℕ, ◌+◌, Bool, ◌&&◌, ◌||◌, if◌then◌else◌, ◌==◌, nat_le, List, [], ◌∷◌, codes, take, Option, Some, None}
use Rattle.std.specs.Str.{bytes_eq, encode_utf8_all}
use Rattle.lang_lexer.specs.declared.token.Mark.{Mark}
use Rattle.lang_lexer.specs.declared.token.Mark.TheVariants.{Let, Produce, For, In, If, Else, Call, Fail, Get, All, New, Len, True, False, Null, Me, Static, Add, Print, Return}
use Rattle.lang_lexer.specs.declared.token.Token.{Token}
use Rattle.lang_lexer.specs.declared.token.Token.TheVariants.{Sign, Name}

abbrev pub is_digit : ℕ → Bool
is_digit c = nat_le 48 c && nat_le c 57

abbrev pub is_letter : ℕ → Bool
is_letter c = nat_le 97 c && nat_le c 122 || nat_le 65 c && nat_le c 90

abbrev pub in_name : ℕ → Bool
in_name c = is_letter c || is_digit c || c == 95

-- how many characters of a name come next, one behind the other
abbrev pub run_len : List ℕ → ℕ
run_len [] = 0
run_len (c ∷ cs) = if in_name c then run_len cs + 1 else 0

-- the same, but a name has at most 64
abbrev pub name_len : List ℕ → ℕ
name_len cs = run_len (take 64 cs)

abbrev pub late_keyword : List ℕ → Option Mark
late_keyword w =
    if bytes_eq w (codes "new") then Some New else (
    if bytes_eq w (codes "len") then Some Len else (
    if bytes_eq w (codes "true") then Some True else (
    if bytes_eq w (codes "false") then Some False else (
    if bytes_eq w (codes "null") then Some Null else (
    if bytes_eq w (codes "self") then Some Me else (
    if bytes_eq w (codes "static") then Some Static else (
    if bytes_eq w (codes "add") then Some Add else (
    if bytes_eq w (codes "print") then Some Print else (
    if bytes_eq w (codes "return") then Some Return else None)))))))))

-- the keyword that is written so
abbrev pub keyword : List ℕ → Option Mark
keyword w =
    if bytes_eq w (codes "let") then Some Let else (
    if bytes_eq w (codes "produce") then Some Produce else (
    if bytes_eq w (codes "for") then Some For else (
    if bytes_eq w (codes "in") then Some In else (
    if bytes_eq w (codes "if") then Some If else (
    if bytes_eq w (codes "else") then Some Else else (
    if bytes_eq w (codes "call") then Some Call else (
    if bytes_eq w (codes "fail") then Some Fail else (
    if bytes_eq w (codes "get") then Some Get else (
    if bytes_eq w (codes "all") then Some All else late_keyword w)))))))))

-- the keyword of three letters or more with this first and this third one: there is one at most
abbrev pub by_letters : ℕ → ℕ → Option Mark
by_letters first third =
    if first == 108 then Some (if third == 116 then Let else Len) else (
    if first == 112 then Some (if third == 111 then Produce else Print) else (
    if first == 102 then Some (if third == 114 then For else (if third == 105 then Fail else False)) else (
    if first == 101 then Some Else else (
    if first == 99 then Some Call else (
    if first == 103 then Some Get else (
    if first == 97 then Some (if third == 108 then All else Add) else (
    if first == 110 then Some (if third == 119 then New else Null) else (
    if first == 116 then Some True else (
    if first == 115 then Some (if third == 108 then Me else Static) else (
    if first == 114 then Some Return else None))))))))))

-- the one keyword that these letters can be
abbrev pub likely : List ℕ → Option Mark
likely [] = None
likely (a ∷ []) = None
likely (a ∷ b ∷ []) = Some (if b == 110 then In else If)
likely (a ∷ b ∷ c ∷ cs) = by_letters a c

abbrev pub word_by : List ℕ → Option Mark → Token
word_by w None = Name w
word_by w (Some m) = Sign m

-- a keyword, or a name
abbrev pub word : List ℕ → Token
word cs = word_by (encode_utf8_all cs) (keyword (encode_utf8_all cs))
