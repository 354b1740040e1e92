-- Marks that are tested as the same are the same.
use Rattle.std.proofs.Common.{◌≡◌, ℕ, true, refl, sym, ap, ◌∙◌}
use Rattle.std.specs.Prelude.{◌==◌, if◌then◌else◌}
use Rattle.std.proofs.lemmas.Bool.{eqb-true}
use Rattle.lang_lexer.specs.declared.token.Mark.{Mark}
use Rattle.lang_lexer.specs.declared.token.Mark.TheVariants.{Let, Produce, For, In, If, Else, Call, Fail, Get, All, New, Len, True, False, Null, Me, Static, Add, Print, Return, Semi, Comma, Dot, Colon, Open, Close, OpenList, CloseList, OpenBlock, CloseBlock, Assign, Equal, Less, Plus, Bang, And}
use Rattle.lang_lexer.specs.Marks.{code, same}

abbrev mark_at : ℕ → Mark
mark_at n = (if n == 0 then Let else (if n == 1 then Produce else (if n == 2 then For else (if n == 3 then In else (if n == 4 then If else (if n == 5 then Else else (if n == 6 then Call else (if n == 7 then Fail else (if n == 8 then Get else (if n == 9 then All else (if n == 10 then New else (if n == 11 then Len else (if n == 12 then True else (if n == 13 then False else (if n == 14 then Null else (if n == 15 then Me else (if n == 16 then Static else (if n == 17 then Add else (if n == 18 then Print else (if n == 19 then Return else (if n == 20 then Semi else (if n == 21 then Comma else (if n == 22 then Dot else (if n == 23 then Colon else (if n == 24 then Open else (if n == 25 then Close else (if n == 26 then OpenList else (if n == 27 then CloseList else (if n == 28 then OpenBlock else (if n == 29 then CloseBlock else (if n == 30 then Assign else (if n == 31 then Equal else (if n == 32 then Less else (if n == 33 then Plus else (if n == 34 then Bang else And)))))))))))))))))))))))))))))))))))

mark_back : (m : Mark) → mark_at (code m) ≡ m
mark_back Let = refl
mark_back Produce = refl
mark_back For = refl
mark_back In = refl
mark_back If = refl
mark_back Else = refl
mark_back Call = refl
mark_back Fail = refl
mark_back Get = refl
mark_back All = refl
mark_back New = refl
mark_back Len = refl
mark_back True = refl
mark_back False = refl
mark_back Null = refl
mark_back Me = refl
mark_back Static = refl
mark_back Add = refl
mark_back Print = refl
mark_back Return = refl
mark_back Semi = refl
mark_back Comma = refl
mark_back Dot = refl
mark_back Colon = refl
mark_back Open = refl
mark_back Close = refl
mark_back OpenList = refl
mark_back CloseList = refl
mark_back OpenBlock = refl
mark_back CloseBlock = refl
mark_back Assign = refl
mark_back Equal = refl
mark_back Less = refl
mark_back Plus = refl
mark_back Bang = refl
mark_back And = refl

pub same_is : (x m : Mark) → same x m ≡ true → x ≡ m
same_is x m e = sym (mark_back x) ∙ ap mark_at (eqb-true (code x) (code m) e) ∙ mark_back m

pub same_self : (m : Mark) → same m m ≡ true
same_self Let = refl
same_self Produce = refl
same_self For = refl
same_self In = refl
same_self If = refl
same_self Else = refl
same_self Call = refl
same_self Fail = refl
same_self Get = refl
same_self All = refl
same_self New = refl
same_self Len = refl
same_self True = refl
same_self False = refl
same_self Null = refl
same_self Me = refl
same_self Static = refl
same_self Add = refl
same_self Print = refl
same_self Return = refl
same_self Semi = refl
same_self Comma = refl
same_self Dot = refl
same_self Colon = refl
same_self Open = refl
same_self Close = refl
same_self OpenList = refl
same_self CloseList = refl
same_self OpenBlock = refl
same_self CloseBlock = refl
same_self Assign = refl
same_self Equal = refl
same_self Less = refl
same_self Plus = refl
same_self Bang = refl
same_self And = refl
