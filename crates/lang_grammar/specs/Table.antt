-- The table of forms of the language: bodies of steps and of recorders' methods. This project's own.
use Rattle.std.specs.Prelude.{ℕ, zero, suc, Bool, true, false, not, ◌||◌, List, [], ◌∷◌, Option, Some, None}
use Rattle.lang_lexer.specs.declared.token.Mark.TheVariants.{Let, Produce, For, In, If, Else, Call, Fail, Get, All, New, Len, True, False, Null, Me, Static, Add, Print, Return, Semi, Comma, Dot, Colon, Open, Close, OpenList, CloseList, OpenBlock, CloseBlock, Assign, Equal, Less, Plus, Bang, And}
use Rattle.lang_lexer.specs.declared.token.Token.{Token}
use Rattle.lang_lexer.specs.declared.token.Token.TheVariants.{Sign, Number, Str, Name}
use Rattle.syntax_tree.specs.declared.tree.Link.{Link}
use Rattle.syntax_tree.specs.declared.tree.Invoke.{Invoke}
use Rattle.syntax_tree.specs.declared.tree.Expr.{Expr}
use Rattle.syntax_tree.specs.declared.tree.Expr.TheVariants as e
use Rattle.syntax_tree.specs.declared.tree.Stmt.{Stmt}
use Rattle.syntax_tree.specs.declared.tree.Stmt.TheVariants as b
use Rattle.item_types.specs.declared.decl.Names.{Names}
use Rattle.lang_grammar.specs.Place.{is}
use Rattle.lang_grammar.specs.Forms.{Form, nothing, give, number_here, sign, name, number, text, ◌⟫=◌, by_first, optional, choose, more, many, allowed, opening, listing, chain}
use Rattle.syntax_tree.specs.Naming.{item_number, bean_number, recorder_number, method_number}

-- the signs of a comparison
abbrev pub compares : Token → Bool
compares t = is Equal t || is Less t

-- The truth value says whether the text is a step's body; else it is a method's. A number n says how many more forms may be open.
module _ (step : Bool) (names : Names) where
  -- ---- primaries; inner is an expression in one more open form

  unfoldable pub paren : ℕ → Form Expr → Form Expr
  paren n inner = opening n Open (λ m at. inner ⟫= λ x. sign m Close ⟫= λ _. give (e.Paren at x))

  unfoldable pub listed : ℕ → Form Expr → Form Expr
  listed n inner = opening n OpenList (λ m at. listing m CloseList inner ⟫= λ xs. give (e.ListOf at xs))

  unfoldable pub field : ℕ → Form Expr → Form (List ℕ × Expr)
  field n inner = name n ⟫= λ f. sign n Colon ⟫= λ _. inner ⟫= λ x. give (f, x)

  unfoldable pub made : ℕ → Form Expr → Form Expr
  made n inner = sign n New ⟫= λ at. name n ⟫= λ w. opening n OpenBlock (λ m _. listing m CloseBlock (field m inner)) ⟫= λ fs. give (e.New at (bean_number names w) fs)

  unfoldable pub got : ℕ → Form Expr
  got n = sign n Get ⟫= λ at. name n ⟫= λ w. give (e.Get at (item_number names w))

  unfoldable pub all_of : ℕ → Form Expr
  all_of n = sign n All ⟫= λ at. name n ⟫= λ w. give (e.All at (item_number names w))

  unfoldable pub static_of : ℕ → Form Expr
  static_of n = sign n Static ⟫= λ at. sign n Dot ⟫= λ _. name n ⟫= λ f. give (e.StaticOf at f)

  abbrev pub primary_of : ℕ → Form Expr → Token → Form Expr
  primary_of n inner (Sign Null) = sign n Null ⟫= λ at. give (e.Null at)
  primary_of n inner (Sign True) = sign n True ⟫= λ at. give (e.Bool at true)
  primary_of n inner (Sign False) = sign n False ⟫= λ at. give (e.Bool at false)
  primary_of n inner (Number v) = number_here ⟫= λ at. number n ⟫= λ x. give (e.Long at x)
  primary_of n inner (Str v) = number_here ⟫= λ at. text n ⟫= λ x. give (e.Str at x)
  primary_of n inner (Name v) = number_here ⟫= λ at. name n ⟫= λ x. give (e.Name at x)
  primary_of n inner (Sign Open) = paren n inner
  primary_of n inner (Sign OpenList) = listed n inner
  primary_of n inner (Sign New) = made n inner
  primary_of n inner (Sign Get) = allowed step n (got n)
  primary_of n inner (Sign All) = allowed step n (all_of n)
  primary_of n inner (Sign Me) = allowed (not step) n (sign n Me ⟫= λ at. give (e.Me at))
  primary_of n inner (Sign Static) = allowed (not step) n (static_of n)
  primary_of n inner _ = nothing n

  unfoldable pub primary : ℕ → Form Expr → Form Expr
  primary n inner = by_first n (primary_of n inner)

  -- ---- expressions

  unfoldable pub link : ℕ → Form Link
  link n = sign n Dot ⟫= λ dot. name n ⟫= λ f. give (record { dot = dot; field = f })

  unfoldable pub postfix : ℕ → Form Expr → Form Expr
  postfix n inner = primary n inner ⟫= λ x. optional (is Dot) (link n ⟫= λ l. more (is Dot) (link n) (l ∷ []) ⟫= λ ls. give (e.Fields x ls)) x

  abbrev pub compared_of : ℕ → Form Expr → Expr → Token → Form Expr
  compared_of n sum x (Sign Equal) = sign n Equal ⟫= λ s. sum ⟫= λ y. give (e.Equal x s y)
  compared_of n sum x (Sign Less) = sign n Less ⟫= λ s. sum ⟫= λ y. give (e.Less x s y)
  compared_of n sum x _ = nothing n

  unfoldable pub comparison : ℕ → Form Expr → Form Expr
  comparison n sum = sum ⟫= λ x. optional compares (by_first n (compared_of n sum x)) x

  unfoldable pub sum : ℕ → Form Expr → Form Expr
  sum n unary = chain n Plus e.Sum unary

  unfoldable pub expr_of : ℕ → Form Expr → Form Expr
  expr_of n unary = chain n And e.Both (comparison n (sum n unary))

  abbrev pub unary_of : ℕ → Form Expr → Token → Form Expr
  unary_of n u (Sign Bang) = sign (suc n) Bang ⟫= λ at. u ⟫= λ x. give (e.Not at x)
  unary_of n u (Sign Len) = sign (suc n) Len ⟫= λ at. u ⟫= λ x. give (e.Len at x)
  unary_of n u _ = postfix (suc n) (expr_of n u)

  unfoldable pub unary : ℕ → Form Expr
  unary zero = postfix 0 (nothing 0)
  unary (suc n) = by_first (suc n) (unary_of n (unary n))

  unfoldable pub expr : ℕ → Form Expr
  expr n = expr_of n (unary n)

  -- an expression in one more open form
  unfoldable pub inner : ℕ → Form Expr
  inner zero = nothing 0
  inner (suc n) = expr n

  -- ---- statements

  unfoldable pub invoke : ℕ → Form Invoke
  invoke n =
      sign n Call ⟫= λ at. name n ⟫= λ r. sign n Dot ⟫= λ _. name n ⟫= λ m. opening n Open (λ j _. listing j Close (inner n)) ⟫= λ args.
      give (record { at = at; recorder = recorder_number names r; method = method_number names r m; args = args })

  abbrev pub let_behind : Bool → ℕ → ℕ → List ℕ → Form Stmt
  let_behind true n at x = choose (is Call) (invoke n ⟫= λ c. sign n Semi ⟫= λ _. give (b.LetCall at x c)) (expr n ⟫= λ v. sign n Semi ⟫= λ _. give (b.Let at x v))
  let_behind false n at x = expr n ⟫= λ v. sign n Semi ⟫= λ _. give (b.Let at x v)

  unfoldable pub let_form : ℕ → Form Stmt
  let_form n = sign n Let ⟫= λ at. name n ⟫= λ x. sign n Assign ⟫= λ _. let_behind step n at x

  unfoldable pub call_form : ℕ → Form Stmt
  call_form n = invoke n ⟫= λ c. sign n Semi ⟫= λ _. give (b.CallOf c)

  unfoldable pub produce_form : ℕ → Form Stmt
  produce_form n =
      sign n Produce ⟫= λ at. name n ⟫= λ w. opening n Open (λ m _. inner n ⟫= λ v. sign m Close ⟫= λ _. give v) ⟫= λ v. sign n Semi ⟫= λ _.
      give (b.Produce at (item_number names w) v)

  unfoldable pub for_form : ℕ → Form (List Stmt) → Form Stmt
  for_form n block = sign n For ⟫= λ at. name n ⟫= λ x. sign n In ⟫= λ _. expr n ⟫= λ l. block ⟫= λ c. give (b.For at x l c)

  unfoldable pub other : ℕ → Form (List Stmt) → Form (Option (List Stmt))
  other n block = optional (is Else) (sign n Else ⟫= λ _. block ⟫= λ c. give (Some c)) None

  unfoldable pub if_form : ℕ → Form (List Stmt) → Form Stmt
  if_form n block = sign n If ⟫= λ at. expr n ⟫= λ x. block ⟫= λ c. other n block ⟫= λ o. give (b.If at x c o)

  unfoldable pub fail_form : ℕ → Form Stmt
  fail_form n = sign n Fail ⟫= λ at. expr n ⟫= λ v. sign n Semi ⟫= λ _. give (b.FailWith at v)

  unfoldable pub print_form : ℕ → Form Stmt
  print_form n = sign n Print ⟫= λ at. expr n ⟫= λ v. sign n Semi ⟫= λ _. give (b.Print at v)

  unfoldable pub return_form : ℕ → Form Stmt
  return_form n = sign n Return ⟫= λ at. expr n ⟫= λ v. sign n Semi ⟫= λ _. give (b.Return at v)

  unfoldable pub pair : ℕ → Form (Expr × Expr)
  pair n = opening n Open (λ m _. inner n ⟫= λ l. sign m Comma ⟫= λ _. inner n ⟫= λ v. sign m Close ⟫= λ _. give (l, v))

  unfoldable pub add_form : ℕ → Form Stmt
  add_form n = sign n Add ⟫= λ at. pair n ⟫= λ z. sign n Semi ⟫= λ _. give (b.Add at z.0 z.1)

  -- `= e ;`
  unfoldable pub assigned : ℕ → Form Expr
  assigned n = sign n Assign ⟫= λ _. expr n ⟫= λ v. sign n Semi ⟫= λ _. give v

  unfoldable pub set_static : ℕ → Form Stmt
  set_static n = sign n Static ⟫= λ at. sign n Dot ⟫= λ _. name n ⟫= λ f. assigned n ⟫= λ v. give (b.SetStatic at f v)

  unfoldable pub set_self : ℕ → Form Stmt
  set_self n = sign n Me ⟫= λ at. sign n Dot ⟫= λ dot. name n ⟫= λ f. assigned n ⟫= λ v. give (b.SetSelf at dot f v)

  unfoldable pub set_field : ℕ → Form Stmt
  set_field n = number_here ⟫= λ at. name n ⟫= λ x. sign n Dot ⟫= λ dot. name n ⟫= λ f. assigned n ⟫= λ v. give (b.SetField at dot x f v)

  abbrev pub stmt_of : ℕ → Form (List Stmt) → Token → Form Stmt
  stmt_of n block (Sign Let) = let_form n
  stmt_of n block (Sign For) = for_form n block
  stmt_of n block (Sign If) = if_form n block
  stmt_of n block (Sign Fail) = fail_form n
  stmt_of n block (Sign Call) = allowed step n (call_form n)
  stmt_of n block (Sign Produce) = allowed step n (produce_form n)
  stmt_of n block (Sign Print) = allowed (not step) n (print_form n)
  stmt_of n block (Sign Return) = allowed (not step) n (return_form n)
  stmt_of n block (Sign Add) = allowed (not step) n (add_form n)
  stmt_of n block (Sign Static) = allowed (not step) n (set_static n)
  stmt_of n block (Sign Me) = allowed (not step) n (set_self n)
  stmt_of n block (Name x) = allowed (not step) n (set_field n)
  stmt_of n block _ = nothing n

  -- the tokens that begin a statement
  abbrev pub begins_stmt : Token → Bool
  begins_stmt (Sign Let) = true
  begins_stmt (Sign For) = true
  begins_stmt (Sign If) = true
  begins_stmt (Sign Fail) = true
  begins_stmt (Sign Call) = step
  begins_stmt (Sign Produce) = step
  begins_stmt (Sign Print) = not step
  begins_stmt (Sign Return) = not step
  begins_stmt (Sign Add) = not step
  begins_stmt (Sign Static) = not step
  begins_stmt (Sign Me) = not step
  begins_stmt (Name x) = not step
  begins_stmt _ = false

  unfoldable pub stmt : ℕ → Form (List Stmt) → Form Stmt
  stmt n block = by_first n (stmt_of n block)

  unfoldable pub block : ℕ → Form (List Stmt)
  block zero = nothing 0
  block (suc n) = sign (suc n) OpenBlock ⟫= λ _. many begins_stmt (stmt n (block n)) ⟫= λ c. sign n CloseBlock ⟫= λ _. give c

  unfoldable pub body : ℕ → Form (List Stmt)
  body n = many begins_stmt (stmt n (block n))
