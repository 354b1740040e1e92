-- Quoted texts: read back as what they were written of.
use Rattle.std.proofs.Common.{◌≡◌, ℕ, ◌+◌, ◌-◌, ◌*◌, ◌/◌, ◌%◌, ◌<◌, ◌≤◌, inl, inr, Bool, true, false, cond, List, [], ◌∷◌, ◌++◌, refl, sym, ap, subst, ◌∙◌, arith, append_assoc}
use Rattle.std.specs.Prelude.{◌&&◌, ◌||◌, ◌==◌, nat_lt, nat_le, Option, Some, codes}
use Rattle.std.specs.List.{flat_map}
use Rattle.std.specs.Char.{encode_utf8}
use Rattle.std.specs.Str.{encode_utf8_all, chars, IsUtf8}
use Rattle.std.specs.Fmt.{digits, digit_glyph}
use Rattle.std.proofs.lemmas.Bool.Decides.{nat_tests}
use Rattle.std.proofs.lemmas.Bool.{and_parts, cases_lt}
use Rattle.std.proofs.lemmas.Str.{encode_ascii, encodes-append, encodes-chars, scalars-chars, IsUtf8-nil, IsUtf8-append, IsUtf8-encode}
use Rattle.std.proofs.lemmas.Fmt.{hex_one_digit, hex_two_digits}
use Rattle.std.proofs.lemmas.List.{append-nil}
use Rattle.std.proofs.Math.Utf8.{scalar, scalars}
use Rattle.item_types.specs.Quoted.{escaped}
use Rattle.lang_lexer.specs.declared.token.Token.TheVariants.{Str}
use Rattle.lang_lexer.specs.Quotes.{quoted, hex_value, is_scalar}
use Rattle.lang_lexer.specs.Tokens.{token, quoted_token}
use Rattle.lang_lexer.specs.Kinds.{IsEscape, quote, backslash, line, tab, Means, no_text, itself, escape, scalar as by_number}
use Rattle.lang_round.proofs.Words.{same_number, Shows, if_true, if_false, lt_true, ascii, ascii_bytes, ascii_scalars}

-- how a quoted text shows a character, in characters
abbrev pub shown_char : ℕ → List ℕ
shown_char c =
    cond (c == 0x22) (92 ∷ 34 ∷ [])
    (cond (c == 0x5C) (92 ∷ 92 ∷ [])
    (cond (c == 0x0A) (92 ∷ 110 ∷ [])
    (cond (c == 0x09) (92 ∷ 116 ∷ [])
    (cond (nat_lt c 0x20 || c == 0x7F) (92 ∷ 117 ∷ 123 ∷ (digits 16 false c ++ 125 ∷ [])) (c ∷ [])))))

abbrev pub shown_text : List ℕ → List ℕ
shown_text t = 34 ∷ (flat_map shown_char (chars t) ++ 34 ∷ [])

scalar_low : (c : ℕ) → c < 128 → is_scalar c ≡ true
scalar_low c h = ap (λ b. b || nat_le 0xE000 c && nat_le c 0x10FFFF) (lt_true c 0xD800 (omega arith))

-- ---- hexadecimal digits

hex_low : (d : ℕ) → d < 10 → hex_value (48 + d) ≡ Some d
hex_low d h =
    if_true (nat_le 48 (48 + d) && nat_le (48 + d) 57) (Some (48 + d - 48)) _ (grind (arith, nat_tests))
    ∙ ap (λ n. Some n) (let e : 48 + d - 48 ≡ d = omega arith in e)

high_first : (d : ℕ) → 10 ≤ d → d < 16 → (nat_le 48 (87 + d) && nat_le (87 + d) 57) ≡ false
high_first d a h = grind (arith, nat_tests)

high_second : (d : ℕ) → 10 ≤ d → d < 16 → (nat_le 97 (87 + d) && nat_le (87 + d) 102) ≡ true
high_second d a h = grind (arith, nat_tests)

hex_high : (d : ℕ) → 10 ≤ d → d < 16 → hex_value (87 + d) ≡ Some d
hex_high d a h =
    if_false (nat_le 48 (87 + d) && nat_le (87 + d) 57) (Some (87 + d - 48)) _ (high_first d a h)
    ∙ if_true (nat_le 97 (87 + d) && nat_le (87 + d) 102) (Some (87 + d - 87)) _ (high_second d a h)
    ∙ ap (λ n. Some n) (let e : 87 + d - 87 ≡ d = omega arith in e)

not_below : (a b : ℕ) → b ≤ a → nat_lt a b ≡ false
not_below a b e = grind (arith, nat_tests)

glyph_value : (d : ℕ) → d < 16 → hex_value (digit_glyph false d) ≡ Some d
glyph_value d h = elim (cases_lt d 10) [
  | inl low ↦ ap hex_value (if_true (nat_lt d 10) (48 + d) (87 + d) (lt_true d 10 low)) ∙ hex_low d low
  | inr high ↦ ap hex_value (if_false (nat_lt d 10) (48 + d) (87 + d) (not_below d 10 high)) ∙ hex_high d high h
]

glyph_small : (d : ℕ) → d < 16 → nat_lt (digit_glyph false d) 128 ≡ true
glyph_small d h = elim (cases_lt d 10) [
  | inl low ↦ ap (λ n. nat_lt n 128) (if_true (nat_lt d 10) (48 + d) (87 + d) (lt_true d 10 low)) ∙ lt_true (48 + d) 128 (omega arith)
  | inr high ↦ ap (λ n. nat_lt n 128) (if_false (nat_lt d 10) (48 + d) (87 + d) (not_below d 10 high)) ∙ lt_true (87 + d) 128 (omega arith)
]

control_small : (c : ℕ) → (nat_lt c 0x20 || c == 0x7F) ≡ true → c < 128
control_small c e = grind (arith, nat_tests)

or_left : (a b : Bool) → (a || b) ≡ false → a ≡ false
or_left false b e = refl
or_left true b e = absurd cc

pub scalars_both : (xs ys : List ℕ) → scalars xs ≡ true → scalars ys ≡ true → scalars (xs ++ ys) ≡ true
scalars_both [] ys p q = q
scalars_both (c ∷ cs) ys p q = let h = and_parts (scalar c) (scalars cs) p in ap (λ y. y && scalars (cs ++ ys)) h.0 ∙ scalars_both cs ys h.1 q

-- ---- characters

-- how a text is read behind its opening quote, where nothing is escaped
record IsPlain (F : List ℕ → List ℕ → Option (List ℕ × List ℕ)) : Type 0 where
  start : (cs : List ℕ) → token (34 ∷ cs) ≡ quoted_token (F [] cs)
  ends : (found xs : List ℕ) → F found (34 ∷ xs) ≡ Some (found, xs)
  itself : (found xs : List ℕ) (c : ℕ) → (c == 34) ≡ false → (c == 92) ≡ false → nat_lt c 32 ≡ false → F found (c ∷ xs) ≡ F (found ++ encode_utf8 c) xs
  quote : (found xs : List ℕ) → F found (92 ∷ 34 ∷ xs) ≡ F (found ++ encode_utf8 34) xs
  backslash : (found xs : List ℕ) → F found (92 ∷ 92 ∷ xs) ≡ F (found ++ encode_utf8 92) xs
  line : (found xs : List ℕ) → F found (92 ∷ 110 ∷ xs) ≡ F (found ++ encode_utf8 10) xs
  tab : (found xs : List ℕ) → F found (92 ∷ 116 ∷ xs) ≡ F (found ++ encode_utf8 9) xs
  one : (found xs : List ℕ) (g d : ℕ) → hex_value g ≡ Some d → is_scalar (16 * 0 + d) ≡ true → F found (92 ∷ 117 ∷ 123 ∷ g ∷ 125 ∷ xs) ≡ F (found ++ encode_utf8 (16 * 0 + d)) xs
  two : (found xs : List ℕ) (g d h e : ℕ) → hex_value g ≡ Some d → nat_lt (16 * 0 + d) 0x100000 ≡ true → hex_value h ≡ Some e → is_scalar (16 * (16 * 0 + d) + e) ≡ true
      → F found (92 ∷ 117 ∷ 123 ∷ g ∷ h ∷ 125 ∷ xs) ≡ F (found ++ encode_utf8 (16 * (16 * 0 + d) + e)) xs

module _ (F : List ℕ → List ℕ → Option (List ℕ × List ℕ)) (plain : IsPlain F) where
  -- the characters w, of which these are the bytes, are read as the character c
  record Reads (c : ℕ) (w bytes : List ℕ) : Type 0 where
    same : encode_utf8_all w ≡ bytes
    proper : scalars w ≡ true
    reads : (found xs : List ℕ) → F found (w ++ xs) ≡ F (found ++ encode_utf8 c) xs

  reads_by : (c : ℕ) (b : Bool) (x y u v : List ℕ) → (b ≡ true → Reads c x u) → (b ≡ false → Reads c y v) → Reads c (cond b x y) (cond b u v)
  reads_by c true x y u v p q = p refl
  reads_by c false x y u v p q = q refl

  escape_at : (c k d : ℕ) → (c == k) ≡ true → ascii (92 ∷ d ∷ []) ≡ true → ((found xs : List ℕ) → F found (92 ∷ d ∷ xs) ≡ F (found ++ encode_utf8 k) xs) → Reads c (92 ∷ d ∷ []) (92 ∷ d ∷ [])
  escape_at c k d e small reads =
      subst (λ x. Reads x (92 ∷ d ∷ []) (92 ∷ d ∷ [])) (sym (same_number c k e))
      (record { same = ascii_bytes (92 ∷ d ∷ []) small; proper = ascii_scalars (92 ∷ d ∷ []) small; reads = reads })

  one_digit : (c : ℕ) → c < 16 → Reads c (92 ∷ 117 ∷ 123 ∷ (digits 16 false c ++ 125 ∷ [])) (codes "\\u{" ++ digits 16 false c ++ codes "}")
  one_digit c h =
      let small : ascii (92 ∷ 117 ∷ 123 ∷ digit_glyph false c ∷ 125 ∷ []) ≡ true = ap (λ b. b && true) (glyph_small c h) in
      let e : 16 * 0 + c ≡ c = omega arith in
      subst (λ ds. Reads c (92 ∷ 117 ∷ 123 ∷ (ds ++ 125 ∷ [])) (codes "\\u{" ++ ds ++ codes "}")) (sym (hex_one_digit false c h)) (record {
        same = ascii_bytes (92 ∷ 117 ∷ 123 ∷ digit_glyph false c ∷ 125 ∷ []) small;
        proper = ascii_scalars (92 ∷ 117 ∷ 123 ∷ digit_glyph false c ∷ 125 ∷ []) small;
        reads = λ found xs. plain.one found xs (digit_glyph false c) c (glyph_value c h) (ap is_scalar e ∙ scalar_low c (omega (arith, h))) ∙ ap (λ n. F (found ++ encode_utf8 n) xs) e;
      })

  two_digits : (c : ℕ) → 16 ≤ c → c < 128 → Reads c (92 ∷ 117 ∷ 123 ∷ (digits 16 false c ++ 125 ∷ [])) (codes "\\u{" ++ digits 16 false c ++ codes "}")
  two_digits c some h =
      let la : c / 16 < 16 = omega arith in
      let lb : c % 16 < 16 = omega arith in
      let small : ascii (92 ∷ 117 ∷ 123 ∷ digit_glyph false (c / 16) ∷ digit_glyph false (c % 16) ∷ 125 ∷ []) ≡ true =
      ap (λ b. b && (nat_lt (digit_glyph false (c % 16)) 128 && true)) (glyph_small (c / 16) la) ∙ ap (λ b. b && true) (glyph_small (c % 16) lb) in
      let e : 16 * (16 * 0 + c / 16) + c % 16 ≡ c = omega arith in
      subst (λ ds. Reads c (92 ∷ 117 ∷ 123 ∷ (ds ++ 125 ∷ [])) (codes "\\u{" ++ ds ++ codes "}")) (sym (hex_two_digits false c some (omega arith))) (record {
        same = ascii_bytes (92 ∷ 117 ∷ 123 ∷ digit_glyph false (c / 16) ∷ digit_glyph false (c % 16) ∷ 125 ∷ []) small;
        proper = ascii_scalars (92 ∷ 117 ∷ 123 ∷ digit_glyph false (c / 16) ∷ digit_glyph false (c % 16) ∷ 125 ∷ []) small;
        reads = λ found xs.
            plain.two found xs (digit_glyph false (c / 16)) (c / 16) (digit_glyph false (c % 16)) (c % 16) (glyph_value (c / 16) la) (lt_true (16 * 0 + c / 16) 0x100000 (omega (arith, la)))
            (glyph_value (c % 16) lb) (ap is_scalar e ∙ scalar_low c h)
            ∙ ap (λ n. F (found ++ encode_utf8 n) xs) e;
      })

  control_reads : (c : ℕ) → c < 128 → Reads c (92 ∷ 117 ∷ 123 ∷ (digits 16 false c ++ 125 ∷ [])) (codes "\\u{" ++ digits 16 false c ++ codes "}")
  control_reads c h = elim (cases_lt c 16) [ inl low ↦ one_digit c low | inr high ↦ two_digits c high h ]

  char_reads : (c : ℕ) → scalar c ≡ true → Reads c (shown_char c) (escaped c)
  char_reads c ok =
      reads_by c (c == 0x22) _ _ _ _ (λ e. escape_at c 34 34 e refl plain.quote) (λ q.
      reads_by c (c == 0x5C) _ _ _ _ (λ e. escape_at c 92 92 e refl plain.backslash) (λ b.
      reads_by c (c == 0x0A) _ _ _ _ (λ e. escape_at c 10 110 e refl plain.line) (λ l.
      reads_by c (c == 0x09) _ _ _ _ (λ e. escape_at c 9 116 e refl plain.tab) (λ t.
      reads_by c (nat_lt c 0x20 || c == 0x7F) _ _ _ _ (λ e. control_reads c (control_small c e)) (λ n. record {
        same = append-nil (encode_utf8 c);
        proper = ap (λ y. y && true) ok;
        reads = λ found xs. plain.itself found xs c q b (or_left (nat_lt c 0x20) (c == 0x7F) n);
      })))))

  -- ---- texts

  record Shown (cs : List ℕ) : Type 0 where
    same : encode_utf8_all (flat_map shown_char cs) ≡ flat_map escaped cs
    proper : scalars (flat_map shown_char cs) ≡ true
    reads : (found v : List ℕ) → F found (flat_map shown_char cs ++ 34 ∷ v) ≡ Some (found ++ encode_utf8_all cs, v)

  all_shown : (cs : List ℕ) → scalars cs ≡ true → Shown cs
  all_shown [] e = record { same = refl; proper = refl; reads = λ found v. plain.ends found v ∙ ap (λ x. Some (x, v)) (sym (append-nil found)) }
  all_shown (c ∷ cs) e =
      let p = and_parts (scalar c) (scalars cs) e in
      let one : Reads c (shown_char c) (escaped c) = char_reads c p.0 in
      let h : Shown cs = all_shown cs p.1 in
      record {
        same = encodes-append (shown_char c) (flat_map shown_char cs) ∙ ap (λ x. x ++ encode_utf8_all (flat_map shown_char cs)) one.same ∙ ap (λ x. escaped c ++ x) h.same;
        proper = scalars_both (shown_char c) (flat_map shown_char cs) one.proper h.proper;
        reads = λ found v.
            ap (F found) (append_assoc (shown_char c) (flat_map shown_char cs) (34 ∷ v))
            ∙ one.reads found (flat_map shown_char cs ++ 34 ∷ v) ∙ h.reads (found ++ encode_utf8 c) v
            ∙ ap (λ x. Some (x, v)) (append_assoc found (encode_utf8 c) (encode_utf8_all cs));
      }

  shows_by : (t : List ℕ) → IsUtf8 t → Shows (Str t) (shown_text t)
  shows_by t u =
      let h : Shown (chars t) = all_shown (chars t) (scalars-chars t u) in
      record {
        bytes =
            ap (λ x. x ++ encode_utf8_all (flat_map shown_char (chars t) ++ 34 ∷ [])) (encode_ascii 34 (omega arith))
            ∙ ap (λ x. 34 ∷ x) (encodes-append (flat_map shown_char (chars t)) (34 ∷ []) ∙ ap (λ x. x ++ encode_utf8_all (34 ∷ [])) h.same ∙ ap (λ x. flat_map escaped (chars t) ++ x) (ascii_bytes (34 ∷ []) refl));
        scalar = scalars_both (flat_map shown_char (chars t)) (34 ∷ []) h.proper refl;
        reads = λ v apart.
            plain.start ((flat_map shown_char (chars t) ++ 34 ∷ []) ++ v)
            ∙ ap (λ x. quoted_token (F [] x)) (append_assoc (flat_map shown_char (chars t)) (34 ∷ []) v)
            ∙ ap quoted_token (h.reads [] v) ∙ ap (λ x. Some (Str x, v)) (encodes-chars t u);
      }

pub shows_text : (t : List ℕ) → IsUtf8 t → Shows (Str t) (shown_text t)
shows_text = shows_by (quoted _) (record {
  start = λ cs. refl;
  ends = λ found xs. refl;
  itself = λ found xs c q b s. rw (q, b, s) refl;
  quote = λ found xs. refl;
  backslash = λ found xs. refl;
  line = λ found xs. refl;
  tab = λ found xs. refl;
  one = λ found xs g d e s. rw (e, s) refl;
  two = λ found xs g d h k e l f s. rw (e, f, l, s) refl;
})

-- ---- the text that characters stand for is UTF-8

pub scalars_left : (xs ys : List ℕ) → scalars (xs ++ ys) ≡ true → scalars xs ≡ true
scalars_left [] ys e = refl
scalars_left (c ∷ cs) ys e = let h = and_parts (scalar c) (scalars (cs ++ ys)) e in ap (λ y. y && scalars cs) h.0 ∙ scalars_left cs ys h.1

pub scalars_right : (xs ys : List ℕ) → scalars (xs ++ ys) ≡ true → scalars ys ≡ true
scalars_right [] ys e = e
scalars_right (c ∷ cs) ys e = scalars_right cs ys (and_parts (scalar c) (scalars (cs ++ ys)) e).1

scalar_is : (v : ℕ) → is_scalar v ≡ true → scalar v ≡ true
scalar_is v e = grind (arith, nat_tests)

escape_scalar : (c d : ℕ) → IsEscape c d → scalar d ≡ true
escape_scalar c d quote = refl
escape_scalar c d backslash = refl
escape_scalar c d line = refl
escape_scalar c d tab = refl

with_char : (c : ℕ) (t : List ℕ) → scalar c ≡ true → IsUtf8 t → IsUtf8 (encode_utf8 c ++ t)
with_char c t ok u = IsUtf8-append (encode_utf8 c) t (IsUtf8-encode c ok) u

pub means_utf8 : (t w : List ℕ) → Means t w → scalars w ≡ true → IsUtf8 t
means_utf8 t w no_text e = IsUtf8-nil
means_utf8 t w (itself c s u le q b h) e = let p = and_parts (scalar c) (scalars u) e in with_char c s p.0 (means_utf8 s u h p.1)
means_utf8 t w (escape c d s u is h) e = with_char d s (escape_scalar c d is) (means_utf8 s u h (and_parts (scalar c) (scalars u) e).1)
means_utf8 t w (by_number v hs s u some few is ok h) e = with_char v s (scalar_is v ok) (means_utf8 s u h (scalars_right hs (125 ∷ u) e))
