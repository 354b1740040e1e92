-- Keywords and signs: how each is written, and when two are the same. This project's own.
use Rattle.std.specs.Prelude.{ℕ, Bool, ◌==◌, List, codes}
use Rattle.lang_lexer.specs.declared.token.Mark.{Mark}
use Rattle.lang_lexer.specs.declared.token.Mark.TheVariants.{Let, Produce, For, In, If, Else, Call, Fail, Get, All, New, Len, True, False, Null, Me, Static, Add, Print, Return, Semi, Comma, Dot, Colon, Open, Close, OpenList, CloseList, OpenBlock, CloseBlock, Assign, Equal, Less, Plus, Bang, And}

-- how it is written
abbrev pub written : Mark → List ℕ
written Let = codes "let"
written Produce = codes "produce"
written For = codes "for"
written In = codes "in"
written If = codes "if"
written Else = codes "else"
written Call = codes "call"
written Fail = codes "fail"
written Get = codes "get"
written All = codes "all"
written New = codes "new"
written Len = codes "len"
written True = codes "true"
written False = codes "false"
written Null = codes "null"
written Me = codes "self"
written Static = codes "static"
written Add = codes "add"
written Print = codes "print"
written Return = codes "return"
written Semi = codes ";"
written Comma = codes ","
written Dot = codes "."
written Colon = codes ":"
written Open = codes "("
written Close = codes ")"
written OpenList = codes "["
written CloseList = codes "]"
written OpenBlock = codes "{"
written CloseBlock = codes "}"
written Assign = codes "="
written Equal = codes "=="
written Less = codes "<"
written Plus = codes "+"
written Bang = codes "!"
written And = codes "&&"

-- its number
abbrev pub code : Mark → ℕ
code Let = 0
code Produce = 1
code For = 2
code In = 3
code If = 4
code Else = 5
code Call = 6
code Fail = 7
code Get = 8
code All = 9
code New = 10
code Len = 11
code True = 12
code False = 13
code Null = 14
code Me = 15
code Static = 16
code Add = 17
code Print = 18
code Return = 19
code Semi = 20
code Comma = 21
code Dot = 22
code Colon = 23
code Open = 24
code Close = 25
code OpenList = 26
code CloseList = 27
code OpenBlock = 28
code CloseBlock = 29
code Assign = 30
code Equal = 31
code Less = 32
code Plus = 33
code Bang = 34
code And = 35

abbrev pub same : Mark → Mark → Bool
same a b = code a == code b
