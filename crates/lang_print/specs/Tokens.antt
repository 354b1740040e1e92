-- The tokens of a tree, by its forms. This project's own.
use Rattle.std.specs.Prelude.{ℕ, Bool, true, false, List, [], ◌∷◌, ◌++◌, map, Option, Some, None, slice_get}
use Rattle.item_types.specs.declared.decl.Names.{Names}
use Rattle.item_types.specs.Named.{bean_name}
use Rattle.lang_lexer.specs.declared.token.Mark.{Mark}
use Rattle.lang_lexer.specs.declared.token.Mark.TheVariants.{Let, Produce, For, In, If, Else, Call, Fail, Get, All, New, Len, True, False, Null, Me, Static, Add, Print, Return, Semi, Comma, Dot, Colon, Open, Close, OpenList, CloseList, OpenBlock, CloseBlock, Assign, Equal, Less, Plus, Bang, And}
use Rattle.lang_lexer.specs.declared.token.Token.{Token}
use Rattle.lang_lexer.specs.declared.token.Token.TheVariants.{Sign, Number, Str, Name}
use Rattle.syntax_tree.specs.declared.tree.Link.{Link}
use Rattle.syntax_tree.specs.declared.tree.Invoke.{Invoke}
use Rattle.syntax_tree.specs.declared.tree.Expr.{Expr, fold-Expr}
use Rattle.syntax_tree.specs.declared.tree.Expr.TheOpen.{Expr-F}
use Rattle.syntax_tree.specs.declared.tree.Expr.TheOpen as e
use Rattle.syntax_tree.specs.declared.tree.Stmt.{Stmt, fold-Stmt}
use Rattle.syntax_tree.specs.declared.tree.Stmt.TheOpen.{Stmt-F}
use Rattle.syntax_tree.specs.declared.tree.Stmt.TheOpen as b
use Rattle.lang_print.specs.Naming.{item_name, recorder_name, method_name}

-- this sign where the truth value holds
abbrev pub sign_if : Bool → Mark → List Token
sign_if true m = Sign m ∷ []
sign_if false m = []

-- parts with a sign between two; where the truth value holds, also before the first
abbrev pub parted : Mark → Bool → List (List Token) → List Token
parted m later [] = []
parted m later (x ∷ xs) = sign_if later m ++ (x ++ parted m true xs)

-- one behind the other
abbrev pub together : List (List Token) → List Token
together [] = []
together (x ∷ xs) = x ++ together xs

-- a sign and a name
abbrev pub marked : Mark → List ℕ → List Token
marked m x = Sign m ∷ Name x ∷ []

abbrev pub link_tokens : Link → List Token
link_tokens l = marked Dot l.field

abbrev pub field_tokens : List ℕ × List Token → List Token
field_tokens f = Name f.0 ∷ Sign Colon ∷ f.1

abbrev pub bool_mark : Bool → Mark
bool_mark true = True
bool_mark false = False

abbrev pub new_tokens : Names → ℕ → List (List ℕ × List Token) → List Token
new_tokens names bean fs = Sign New ∷ Name (bean_name (slice_get names.beans bean)) ∷ Sign OpenBlock ∷ (parted Comma false (map field_tokens fs) ++ Sign CloseBlock ∷ [])

-- `(e)`
abbrev pub paren_tokens : List Token → List Token
paren_tokens inner = Sign Open ∷ (inner ++ Sign Close ∷ [])

-- `a == b` and the like
abbrev pub compared : Mark → List Token → List Token → List Token
compared m left right = left ++ Sign m ∷ right

-- `e.f.g`
abbrev pub linked : List Token → List Link → List Token
linked inner links = inner ++ together (map link_tokens links)

-- `[e, ..]`
abbrev pub listed : List (List Token) → List Token
listed parts = Sign OpenList ∷ (parted Comma false parts ++ Sign CloseList ∷ [])

abbrev pub expr_step : Names → Expr-F (List Token) → List Token
expr_step names (e.Null at) = Sign Null ∷ []
expr_step names (e.Bool at v) = Sign (bool_mark v) ∷ []
expr_step names (e.Long at v) = Number v ∷ []
expr_step names (e.Str at v) = Str v ∷ []
expr_step names (e.Name at x) = Name x ∷ []
expr_step names (e.Get at item) = Sign Get ∷ Name (item_name names item) ∷ []
expr_step names (e.All at item) = Sign All ∷ Name (item_name names item) ∷ []
expr_step names (e.New at bean fs) = new_tokens names bean fs
expr_step names (e.ListOf at parts) = listed parts
expr_step names (e.Fields inner links) = linked inner links
expr_step names (e.Len at inner) = Sign Len ∷ inner
expr_step names (e.Not at inner) = Sign Bang ∷ inner
expr_step names (e.Sum parts signs) = parted Plus false parts
expr_step names (e.Both parts signs) = parted And false parts
expr_step names (e.Equal left sign right) = compared Equal left right
expr_step names (e.Less left sign right) = compared Less left right
expr_step names (e.Paren at inner) = paren_tokens inner
expr_step names (e.Me at) = Sign Me ∷ []
expr_step names (e.StaticOf at f) = Sign Static ∷ Sign Dot ∷ Name f ∷ []

abbrev pub expr_tokens : Names → Expr → List Token
expr_tokens names = fold-Expr (List Token) (expr_step names)

-- fields with the tokens of their values
abbrev pub with_tokens : Names → List (List ℕ × Expr) → List (List ℕ × List Token)
with_tokens names fs = map (λ (f : List ℕ × Expr). (f.0, expr_tokens names f.1)) fs

abbrev pub fields_tokens : Names → Bool → List (List ℕ × Expr) → List Token
fields_tokens names later fs = parted Comma later (map field_tokens (with_tokens names fs))

-- `e;`
abbrev pub ended : Names → Expr → List Token
ended names v = expr_tokens names v ++ Sign Semi ∷ []

-- a keyword, and `e;`
abbrev pub said : Names → Mark → Expr → List Token
said names m v = Sign m ∷ ended names v

-- `let n =`
abbrev pub let_to : List ℕ → List Token
let_to x = Sign Let ∷ Name x ∷ Sign Assign ∷ []

-- `.f = e;`
abbrev pub set_to : Names → List ℕ → Expr → List Token
set_to names f v = Sign Dot ∷ Name f ∷ Sign Assign ∷ ended names v

-- `for n in e`
abbrev pub over : Names → List ℕ → Expr → List Token
over names x l = Sign For ∷ Name x ∷ Sign In ∷ expr_tokens names l

-- `produce T(e);`
abbrev pub produce_tokens : Names → ℕ → Expr → List Token
produce_tokens names item v = Sign Produce ∷ Name (item_name names item) ∷ Sign Open ∷ (expr_tokens names v ++ Sign Close ∷ Sign Semi ∷ [])

-- `add(l, e);`
abbrev pub add_tokens : Names → Expr → Expr → List Token
add_tokens names l v = Sign Add ∷ Sign Open ∷ (expr_tokens names l ++ Sign Comma ∷ (expr_tokens names v ++ Sign Close ∷ Sign Semi ∷ []))

-- `call R.m(e, ..)`
abbrev pub call_tokens : Names → Invoke → List Token
call_tokens names c =
    Sign Call ∷ Name (recorder_name names c.recorder) ∷ Sign Dot ∷ Name (method_name names c.recorder c.method) ∷ Sign Open ∷
    (parted Comma false (map (expr_tokens names) c.args) ++ Sign Close ∷ [])

-- `call R.m(e, ..);`
abbrev pub called : Names → Invoke → List Token
called names c = call_tokens names c ++ Sign Semi ∷ []

abbrev pub let_called : Names → List ℕ → Invoke → List Token
let_called names x c = let_to x ++ called names c

abbrev pub let_tokens : Names → List ℕ → Expr → List Token
let_tokens names x v = let_to x ++ ended names v

abbrev pub block_tokens : List (List Token) → List Token
block_tokens ts = Sign OpenBlock ∷ (together ts ++ Sign CloseBlock ∷ [])

-- `for n in e { .. }`
abbrev pub for_tokens : Names → List ℕ → Expr → List (List Token) → List Token
for_tokens names x l block = over names x l ++ block_tokens block

-- `if e { .. }`
abbrev pub if_tokens : Names → Expr → List (List Token) → List Token
if_tokens names x block = Sign If ∷ (expr_tokens names x ++ block_tokens block)

abbrev pub else_tokens : List (List Token) → List Token
else_tokens ts = Sign Else ∷ block_tokens ts

abbrev pub other_tokens : Option (List (List Token)) → List Token
other_tokens None = []
other_tokens (Some ts) = else_tokens ts

abbrev pub stmt_step : Names → Stmt-F (List Token) → List Token
stmt_step names (b.Let at x v) = let_tokens names x v
stmt_step names (b.LetCall at x c) = let_called names x c
stmt_step names (b.CallOf c) = called names c
stmt_step names (b.Produce at item v) = produce_tokens names item v
stmt_step names (b.For at x l block) = for_tokens names x l block
stmt_step names (b.If at x block other) = if_tokens names x block ++ other_tokens other
stmt_step names (b.FailWith at v) = said names Fail v
stmt_step names (b.Print at v) = said names Print v
stmt_step names (b.Return at v) = said names Return v
stmt_step names (b.Add at l v) = add_tokens names l v
stmt_step names (b.SetStatic at f v) = Sign Static ∷ set_to names f v
stmt_step names (b.SetSelf at dot f v) = Sign Me ∷ set_to names f v
stmt_step names (b.SetField at dot x f v) = Name x ∷ set_to names f v

abbrev pub stmt_tokens : Names → Stmt → List Token
stmt_tokens names = fold-Stmt (List Token) (stmt_step names)

abbrev pub other_of : Names → Option (List Stmt) → List Token
other_of names None = []
other_of names (Some c) = else_tokens (map (stmt_tokens names) c)

abbrev pub body_tokens : Names → List Stmt → List Token
body_tokens names c = together (map (stmt_tokens names) c)
