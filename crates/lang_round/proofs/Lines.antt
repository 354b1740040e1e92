-- The canonical text of tokens has these tokens.
use Rattle.std.proofs.Common.{◌≡◌, ℕ, zero, suc, ◌+◌, ◌<◌, ◌≤◌, Bool, true, false, List, [], ◌∷◌, ◌++◌, length, refl, sym, ap, subst, ◌∙◌, arith, append_assoc, length-append, if◌then◌else◌}
use Rattle.std.specs.Prelude.{◌&&◌, ◌||◌, ◌==◌, Option, Some, None, codes, All}
use Rattle.std.specs.Char.{encode_utf8}
use Rattle.std.specs.Str.{encode_utf8_all, chars, IsUtf8}
use Rattle.std.specs.Fmt.{signed_decimal}
use Rattle.std.proofs.lemmas.Bool.{and_parts}
use Rattle.std.proofs.lemmas.Str.{encodes-append, scalars-chars, chars-encodes, chars-nil, IsUtf8-nil}
use Rattle.std.proofs.Math.Utf8.{scalar, scalars}
use Rattle.lang_lexer.specs.declared.token.Mark.{Mark}
use Rattle.lang_lexer.specs.declared.token.Mark.TheVariants.{Semi, Comma, Dot, Colon, Open, Close, CloseList}
use Rattle.lang_lexer.specs.declared.token.Token.{Token}
use Rattle.lang_lexer.specs.declared.token.Token.TheVariants.{Sign, Number, Str, Name}
use Rattle.lang_lexer.specs.Marks.{written}
use Rattle.lang_lexer.specs.Tokens.{token, is_blank, skip, go_on, tokens_from, tokens}
use Rattle.lang_lexer.specs.Kinds.{IsToken, mark, number, text, name, AreTokens, over, stuck, more}
use Rattle.lang_print.specs.Canonical.{word, mark_hugs_left, hugs_left, hugs_right, between, behind, canonical}
use Rattle.lang_round.specs.Spelled.{IsSpelled}
use Rattle.lang_round.proofs.Words.{same_number, parted, Shows, shows_mark, shows_name, shows_number, if_true, if_false}
use Rattle.lang_round.proofs.Quotes.{shown_text, shows_text, means_utf8, scalars_both, scalars_left, scalars_right}

-- how a token is written, in characters
abbrev shown : Token → List ℕ
shown (Sign m) = written m
shown (Number v) = signed_decimal v
shown (Str t) = shown_text t
shown (Name x) = x

shows : (t : Token) (w : List ℕ) → IsToken t w → scalars w ≡ true → Shows t (shown t)
shows t w (mark m) e = shows_mark m
shows t w (number v u h) e = shows_number v u h
shows t w (text s u h) e = shows_text s (means_utf8 s u h (scalars_left u (34 ∷ []) e))
shows t w (name u h other) e = shows_name u h other

abbrev AllShown : List Token → Type 0
AllShown [] = Unit {0}
AllShown (t ∷ ts) = Shows t (shown t) × AllShown ts

all_shown : (ts : List Token) → All IsSpelled ts → AllShown ts
all_shown [] h = tt
all_shown (t ∷ ts) h =
    let s : IsSpelled t = h 0 t (omega arith) in
    (shows t (chars s.text) s.is (scalars-chars s.text s.utf8), all_shown ts (λ k d l. h (suc k) d (omega (arith, l))))

-- ---- the text in characters

abbrev after : Token → List Token → List ℕ
after t [] = []
after t (u ∷ us) = between t u ++ (shown u ++ after u us)

gap_same : (b : Bool) → encode_utf8_all (if b then [] else codes " ") ≡ (if b then [] else codes " ")
unfolding encode_utf8
gap_same true = refl
gap_same false = refl

gap_proper : (b : Bool) → scalars (if b then [] else codes " ") ≡ true
gap_proper true = refl
gap_proper false = refl

after_same : (t : Token) (us : List Token) → AllShown us → encode_utf8_all (after t us) ≡ behind t us
after_same t [] h = refl
after_same t (u ∷ us) h =
    encodes-append (between t u) (shown u ++ after u us)
    ∙ ap (λ x. x ++ encode_utf8_all (shown u ++ after u us)) (gap_same (hugs_right t || hugs_left u))
    ∙ ap (λ x. between t u ++ x) (encodes-append (shown u) (after u us) ∙ ap (λ x. x ++ encode_utf8_all (after u us)) h.0.bytes ∙ ap (λ x. word u ++ x) (after_same u us h.1))

after_proper : (t : Token) (us : List Token) → AllShown us → scalars (after t us) ≡ true
after_proper t [] h = refl
after_proper t (u ∷ us) h =
    scalars_both (between t u) (shown u ++ after u us) (gap_proper (hugs_right t || hugs_left u)) (scalars_both (shown u) (after u us) h.0.scalar (after_proper u us h.1))

left_apart : (m : Mark) (x : List ℕ) → mark_hugs_left m ≡ true → parted (written m ++ x) ≡ true
left_apart Semi x e = refl
left_apart Comma x e = refl
left_apart Dot x e = refl
left_apart Colon x e = refl
left_apart Open x e = refl
left_apart Close x e = refl
left_apart CloseList x e = refl
left_apart _ x e = absurd cc

shown_apart : (u : Token) (x : List ℕ) → hugs_left u ≡ true → parted (shown u ++ x) ≡ true
shown_apart (Sign m) x e = left_apart m x e
shown_apart (Number v) x e = absurd cc
shown_apart (Str t) x e = absurd cc
shown_apart (Name w) x e = absurd cc

apart_by : (a b : Bool) (x : List ℕ) → (b ≡ true → parted x ≡ true) → (a || parted ((if a || b then [] else codes " ") ++ x)) ≡ true
apart_by true b x h = refl
apart_by false true x h = h refl
apart_by false false x h = refl

or_true : (a : Bool) → (a || true) ≡ true
or_true true = refl
or_true false = refl

apart : (t : Token) (us : List Token) → (hugs_right t || parted (after t us)) ≡ true
apart t [] = or_true (hugs_right t)
apart t (u ∷ us) = apart_by (hugs_right t) (hugs_left u) (shown u ++ after u us) (shown_apart u (after u us))

-- ---- blanks

none_space : (cs : List ℕ) → token (32 ∷ cs) ≡ None
none_space [] = refl
none_space (d ∷ cs) = refl

none_tab : (cs : List ℕ) → token (9 ∷ cs) ≡ None
none_tab [] = refl
none_tab (d ∷ cs) = refl

none_line : (cs : List ℕ) → token (10 ∷ cs) ≡ None
none_line [] = refl
none_line (d ∷ cs) = refl

none_return : (cs : List ℕ) → token (13 ∷ cs) ≡ None
none_return [] = refl
none_return (d ∷ cs) = refl

none_at : (c k : ℕ) (cs : List ℕ) → (c == k) ≡ true → token (k ∷ cs) ≡ None → token (c ∷ cs) ≡ None
none_at c k cs e h = ap (λ x. token (x ∷ cs)) (same_number c k e) ∙ h

blank_by : (c : ℕ) (cs : List ℕ) (p q r s : Bool) → (c == 32) ≡ p → (c == 9) ≡ q → (c == 10) ≡ r → (c == 13) ≡ s → (p || q || r || s) ≡ true → token (c ∷ cs) ≡ None
blank_by c cs true q r s ep eq er es e = none_at c 32 cs ep (none_space cs)
blank_by c cs false true r s ep eq er es e = none_at c 9 cs eq (none_tab cs)
blank_by c cs false false true s ep eq er es e = none_at c 10 cs er (none_line cs)
blank_by c cs false false false true ep eq er es e = none_at c 13 cs es (none_return cs)
blank_by c cs false false false false ep eq er es e = absurd cc

blank_none : (c : ℕ) (cs : List ℕ) → is_blank c ≡ true → token (c ∷ cs) ≡ None
blank_none c cs e = blank_by c cs (c == 32) (c == 9) (c == 10) (c == 13) refl refl refl refl e

some_none : {A : Type 0} (x : A) → Some x ≡ None → ⊥
some_none x e = cc

front_by : (c : ℕ) (cs : List ℕ) (x : Token × List ℕ) → token (c ∷ cs) ≡ Some x → (b : Bool) → is_blank c ≡ b → skip (c ∷ cs) ≡ c ∷ cs
front_by c cs x e true h = absurd (some_none x (sym e ∙ blank_none c cs h))
front_by c cs x e false h = if_false (is_blank c) (skip cs) (c ∷ cs) h

front : (cs : List ℕ) (x : Token × List ℕ) → token cs ≡ Some x → skip cs ≡ cs
front [] x e = refl
front (c ∷ cs) x e = front_by c cs x e (is_blank c) refl

skip_gap : (b : Bool) (xs : List ℕ) → skip ((if b then [] else codes " ") ++ xs) ≡ skip xs
skip_gap true xs = refl
skip_gap false xs = refl

-- ---- token by token

reads_front : (t : Token) (us : List Token) → Shows t (shown t) → token (shown t ++ after t us) ≡ Some (t, after t us)
reads_front t us h = h.reads (after t us) (apart t us)

skip_front : (t : Token) (us : List Token) → Shows t (shown t) → skip (shown t ++ after t us) ≡ shown t ++ after t us
skip_front t us h = front (shown t ++ after t us) (t, after t us) (reads_front t us h)

go_is : (turns : ℕ) (found : List Token) (cs front : List ℕ) (t : Option (Token × List ℕ)) → skip cs ≡ front → token front ≡ t → tokens_from (suc turns) found cs ≡ go_on (tokens_from turns) found front t
unfolding tokens_from
go_is turns found cs front t e f = ap (λ w. go_on (tokens_from turns) found w (token w)) e ∙ ap (go_on (tokens_from turns) found front) f

go_some : (next : List Token → List ℕ → List Token × Bool) (found : List Token) (front rest : List ℕ) (t : Token) → 0 < length front → go_on next found front (Some (t, rest)) ≡ next (found ++ t ∷ []) rest
go_some next found [] rest t some = absurd (omega (arith, some))
go_some next found (c ∷ cs) rest t some = refl

some_by : (t : Token) (w : List ℕ) → token (w ++ []) ≡ Some (t, []) → 0 < length w
some_by t [] e = absurd (some_none (t, []) (sym e))
some_by t (c ∷ cs) e = omega arith

some_word : (t : Token) → Shows t (shown t) → 0 < length (shown t)
some_word t h = some_by t (shown t) (h.reads [] (or_true (hugs_right t)))

turn : (turns : ℕ) (found : List Token) (cs : List ℕ) (t : Token) (us : List Token) → Shows t (shown t) → skip cs ≡ shown t ++ after t us → tokens_from (suc turns) found cs ≡ tokens_from turns (found ++ t ∷ []) (after t us)
turn turns found cs t us h e =
    let some : 0 < length (shown t) = some_word t h in
    let l : length (shown t ++ after t us) ≡ length (shown t) + length (after t us) = length-append (shown t) (after t us) in
    go_is turns found cs (shown t ++ after t us) (Some (t, after t us)) e (reads_front t us h)
    ∙ go_some (tokens_from turns) found (shown t ++ after t us) (after t us) t (omega (arith, some, l))

ended : (turns : ℕ) (found : List Token) → 0 < turns → tokens_from turns found [] ≡ (found, true)
unfolding tokens_from
ended zero found some = absurd (omega (arith, some))
ended (suc turns) found some = refl

run : (us : List Token) (t : Token) (turns : ℕ) (found : List Token) (cs : List ℕ) → Shows t (shown t) → AllShown us → skip cs ≡ shown t ++ after t us → length us + 1 < turns → tokens_from turns found cs ≡ (found ++ t ∷ us, true)
run us t zero found cs h hs e enough = absurd (omega (arith, enough))
run [] t (suc turns) found cs h hs e enough = turn turns found cs t [] h e ∙ ended turns (found ++ t ∷ []) (omega (arith, enough))
run (u ∷ us) t (suc turns) found cs h hs e enough =
    turn turns found cs t (u ∷ us) h e
    ∙ run us u turns (found ++ t ∷ []) (after t (u ∷ us)) hs.0 hs.1 (skip_gap (hugs_right t || hugs_left u) (shown u ++ after u us) ∙ skip_front u us hs.0) (omega (arith, enough))
    ∙ ap (λ x. (x, true)) (append_assoc found (t ∷ []) (u ∷ us))

many : (us : List Token) (t : Token) → Shows t (shown t) → AllShown us → length us + 1 ≤ length (shown t ++ after t us)
many [] t h hs = let some : 0 < length (shown t) = some_word t h in let l : length (shown t ++ []) ≡ length (shown t) + 0 = length-append (shown t) [] in omega (arith, some, l)
many (u ∷ us) t h hs =
    let some : 0 < length (shown t) = some_word t h in
    let l : length (shown t ++ after t (u ∷ us)) ≡ length (shown t) + length (after t (u ∷ us)) = length-append (shown t) (after t (u ∷ us)) in
    let m : length (after t (u ∷ us)) ≡ length (between t u) + length (shown u ++ after u us) = length-append (between t u) (shown u ++ after u us) in
    let n : length us + 1 ≤ length (shown u ++ after u us) = many us u hs.0 hs.1 in
    omega (arith, some, l, m, n)

all_read : (t : Token) (us : List Token) → Shows t (shown t) → AllShown us → tokens (shown t ++ after t us) ≡ (t ∷ us, true)
unfolding tokens
all_read t us h hs =
    let n : length us + 1 ≤ length (shown t ++ after t us) = many us t h hs in
    run us t (length (shown t ++ after t us) + 1) [] (shown t ++ after t us) h hs (skip_front t us h) (omega (arith, n))

none_read : tokens [] ≡ ([], true)
unfolding tokens tokens_from
none_read = refl

whole_same : (t : Token) (us : List Token) → Shows t (shown t) → AllShown us → encode_utf8_all (shown t ++ after t us) ≡ canonical (t ∷ us)
whole_same t us h hs = encodes-append (shown t) (after t us) ∙ ap (λ x. x ++ encode_utf8_all (after t us)) h.bytes ∙ ap (λ x. word t ++ x) (after_same t us hs)

whole_proper : (t : Token) (us : List Token) → Shows t (shown t) → AllShown us → scalars (shown t ++ after t us) ≡ true
whole_proper t us h hs = scalars_both (shown t) (after t us) h.scalar (after_proper t us hs)

again_by : (ts : List Token) → AllShown ts → tokens (chars (canonical ts)) ≡ (ts, true)
again_by [] h = ap tokens chars-nil ∙ none_read
again_by (t ∷ us) h =
    ap (λ x. tokens (chars x)) (sym (whole_same t us h.0 h.1))
    ∙ ap tokens (chars-encodes (shown t ++ after t us) (whole_proper t us h.0 h.1)) ∙ all_read t us h.0 h.1

pub again : (ts : List Token) → All IsSpelled ts → tokens (chars (canonical ts)) ≡ (ts, true)
again ts h = again_by ts (all_shown ts h)

utf8_by : (ts : List Token) → AllShown ts → IsUtf8 (canonical ts)
utf8_by [] h = IsUtf8-nil
utf8_by (t ∷ us) h = (shown t ++ after t us, (whole_proper t us h.0 h.1, whole_same t us h.0 h.1))

pub utf8 : (ts : List Token) → All IsSpelled ts → IsUtf8 (canonical ts)
utf8 ts h = utf8_by ts (all_shown ts h)

-- ---- the tokens of a text are spelled

skip_by : (c : ℕ) (cs : List ℕ) → scalars cs ≡ true → scalars (skip cs) ≡ true → scalar c ≡ true → (b : Bool) → is_blank c ≡ b → scalars (skip (c ∷ cs)) ≡ true
skip_by c cs h k ok true e = ap scalars (if_true (is_blank c) (skip cs) (c ∷ cs) e) ∙ k
skip_by c cs h k ok false e = ap scalars (if_false (is_blank c) (skip cs) (c ∷ cs) e) ∙ ap (λ y. y && scalars cs) ok ∙ h

skip_proper : (cs : List ℕ) → scalars cs ≡ true → scalars (skip cs) ≡ true
skip_proper [] e = refl
skip_proper (c ∷ cs) e = let p = and_parts (scalar c) (scalars cs) e in skip_by c cs p.1 (skip_proper cs p.1) p.0 (is_blank c) refl

all_cons : (t : Token) (ts : List Token) → IsSpelled t → All IsSpelled ts → All IsSpelled (t ∷ ts)
all_cons t ts s h zero d l = s
all_cons t ts s h (suc k) d l = h k d (omega (arith, l))

pub spelled : (cs : List ℕ) (ts : List Token) (whole : Bool) → AreTokens cs ts whole → scalars cs ≡ true → All IsSpelled ts
spelled cs ts whole (over c e) ok = λ k d l. absurd (omega (arith, l))
spelled cs ts whole (stuck c some h) ok = λ k d l. absurd (omega (arith, l))
spelled cs ts whole (more c rest t us w longest h) ok =
    let p : scalars (longest.word ++ rest) ≡ true = ap scalars (sym longest.begins) ∙ skip_proper c ok in
    let q : scalars longest.word ≡ true = scalars_left longest.word rest p in
    all_cons t us
    (record { text = encode_utf8_all longest.word; utf8 = (longest.word, (q, refl)); is = subst (λ x. IsToken t x) (sym (chars-encodes longest.word q)) longest.is })
    (spelled rest us w h (scalars_right longest.word rest p))
