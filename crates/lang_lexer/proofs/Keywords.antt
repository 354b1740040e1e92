-- The keyword that some letters can be is the one that they are, or there is none.
use Rattle.std.proofs.Common.{◌≡◌, ◌↔◌, ℕ, Bool, true, false, List, [], ◌∷◌, refl, sym, ap, ◌∙◌}
use Rattle.std.specs.Prelude.{Option, Some, None, codes, ◌≢◌}
use Rattle.std.specs.Str.{encode_utf8_all}
use Rattle.std.specs.Char.{encode_utf8}
use Rattle.std.proofs.lemmas.Str.{encodes_same}
use Rattle.lang_lexer.specs.declared.token.Mark.{Mark}
use Rattle.lang_lexer.specs.declared.token.Mark.TheVariants.{Let, Produce, For, In, If, Else, Call, Fail, Get, All, New, Len, True, False, Null, Me, Static, Add, Print, Return, Semi, Comma, Dot, Colon, Open, Close, OpenList, CloseList, OpenBlock, CloseBlock, Assign, Equal, Less, Plus, Bang, And}
use Rattle.lang_lexer.specs.Marks.{written}
use Rattle.lang_lexer.specs.Words.{keyword, likely}
use Rattle.lang_lexer.proofs.Written.{keyword_is}

written_ascii : (m : Mark) → encode_utf8_all (written m) ≡ written m
unfolding encode_utf8
written_ascii Let = refl
written_ascii Produce = refl
written_ascii For = refl
written_ascii In = refl
written_ascii If = refl
written_ascii Else = refl
written_ascii Call = refl
written_ascii Fail = refl
written_ascii Get = refl
written_ascii All = refl
written_ascii New = refl
written_ascii Len = refl
written_ascii True = refl
written_ascii False = refl
written_ascii Null = refl
written_ascii Me = refl
written_ascii Static = refl
written_ascii Add = refl
written_ascii Print = refl
written_ascii Return = refl
written_ascii Semi = refl
written_ascii Comma = refl
written_ascii Dot = refl
written_ascii Colon = refl
written_ascii Open = refl
written_ascii Close = refl
written_ascii OpenList = refl
written_ascii CloseList = refl
written_ascii OpenBlock = refl
written_ascii CloseBlock = refl
written_ascii Assign = refl
written_ascii Equal = refl
written_ascii Less = refl
written_ascii Plus = refl
written_ascii Bang = refl
written_ascii And = refl

keyword_of : (m : Mark) → likely (written m) ≡ Some m → keyword (written m) ≡ Some m
keyword_of Let e = refl
keyword_of Produce e = refl
keyword_of For e = refl
keyword_of In e = refl
keyword_of If e = refl
keyword_of Else e = refl
keyword_of Call e = refl
keyword_of Fail e = refl
keyword_of Get e = refl
keyword_of All e = refl
keyword_of New e = refl
keyword_of Len e = refl
keyword_of True e = refl
keyword_of False e = refl
keyword_of Null e = refl
keyword_of Me e = refl
keyword_of Static e = refl
keyword_of Add e = refl
keyword_of Print e = refl
keyword_of Return e = refl
keyword_of Semi e = absurd cc
keyword_of Comma e = absurd cc
keyword_of Dot e = absurd cc
keyword_of Colon e = absurd cc
keyword_of Open e = absurd cc
keyword_of Close e = absurd cc
keyword_of OpenList e = absurd cc
keyword_of CloseList e = absurd cc
keyword_of OpenBlock e = absurd cc
keyword_of CloseBlock e = absurd cc
keyword_of Assign e = absurd cc
keyword_of Equal e = absurd cc
keyword_of Less e = absurd cc
keyword_of Plus e = absurd cc
keyword_of Bang e = absurd cc
keyword_of And e = absurd cc

likely_of : (m : Mark) → keyword (written m) ≡ Some m → likely (written m) ≡ Some m
likely_of Let e = refl
likely_of Produce e = refl
likely_of For e = refl
likely_of In e = refl
likely_of If e = refl
likely_of Else e = refl
likely_of Call e = refl
likely_of Fail e = refl
likely_of Get e = refl
likely_of All e = refl
likely_of New e = refl
likely_of Len e = refl
likely_of True e = refl
likely_of False e = refl
likely_of Null e = refl
likely_of Me e = refl
likely_of Static e = refl
likely_of Add e = refl
likely_of Print e = refl
likely_of Return e = refl
likely_of Semi e = absurd cc
likely_of Comma e = absurd cc
likely_of Dot e = absurd cc
likely_of Colon e = absurd cc
likely_of Open e = absurd cc
likely_of Close e = absurd cc
likely_of OpenList e = absurd cc
likely_of CloseList e = absurd cc
likely_of OpenBlock e = absurd cc
likely_of CloseBlock e = absurd cc
likely_of Assign e = absurd cc
likely_of Equal e = absurd cc
likely_of Less e = absurd cc
likely_of Plus e = absurd cc
likely_of Bang e = absurd cc
likely_of And e = absurd cc

-- these letters are the keyword that they can be
pub found : (cs : List ℕ) (m : Mark) → likely cs ≡ Some m → cs ≡ written m → keyword (encode_utf8_all cs) ≡ Some m
found cs m e is = ap (λ w. keyword (encode_utf8_all w)) is ∙ ap keyword (written_ascii m) ∙ keyword_of m (sym (ap likely is) ∙ e)

letters_are : (cs : List ℕ) (m : Mark) → keyword (encode_utf8_all cs) ≡ Some m → cs ≡ written m
letters_are cs m e = encodes_same cs (written m) (keyword_is (encode_utf8_all cs) m e ∙ sym (written_ascii m))

likely_is : (cs : List ℕ) (m : Mark) → keyword (encode_utf8_all cs) ≡ Some m → likely cs ≡ Some m
likely_is cs m e =
    let is : cs ≡ written m = letters_are cs m e in
    ap likely is ∙ likely_of m (sym (ap (λ w. keyword (encode_utf8_all w)) is ∙ ap keyword (written_ascii m)) ∙ e)

none_by : (cs : List ℕ) (o : Option Mark) → ((m : Mark) → keyword (encode_utf8_all cs) ≡ Some m → ⊥) → keyword (encode_utf8_all cs) ≡ o → o ≡ None
none_by cs None never e = refl
none_by cs (Some m) never e = absurd (never m e)

-- no keyword can be these letters
pub none_likely : (cs : List ℕ) → likely cs ≡ None → keyword (encode_utf8_all cs) ≡ None
none_likely cs e = none_by cs (keyword (encode_utf8_all cs)) (λ m h. let g : likely cs ≡ Some m = likely_is cs m h in cc) refl

-- they aren't the one that they can be
pub other_word : (cs : List ℕ) (m : Mark) → likely cs ≡ Some m → cs ≢ written m → keyword (encode_utf8_all cs) ≡ None
other_word cs m e other =
    none_by cs (keyword (encode_utf8_all cs))
    (λ k h. let same : k ≡ m = (let g : likely cs ≡ Some k = likely_is cs k h in cc) in other (letters_are cs k h ∙ ap written same)) refl
