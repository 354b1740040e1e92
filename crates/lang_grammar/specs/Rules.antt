-- The forms as functions on places, from left to right. The number is how many more forms may be open.
use Rattle.std.specs.Prelude.{ℕ, ℤ, zero, suc, ◌+◌, Bool, true, false, if◌then◌else◌, List, [], ◌∷◌, ◌++◌, length, Option, Some, None, Result, Ok, Err}
use Rattle.lang_lexer.specs.declared.token.Mark.{Mark}
use Rattle.lang_lexer.specs.declared.token.Mark.TheVariants.{Let, Produce, For, In, If, Else, Call, Fail, Get, All, New, Len, True, False, Null, Me, Static, Add, Print, Return, Semi, Comma, Dot, Colon, Open, Close, OpenList, CloseList, OpenBlock, CloseBlock, Assign, Equal, Less, Plus, Bang, And}
use Rattle.lang_lexer.specs.declared.token.Token.{Token}
use Rattle.lang_lexer.specs.declared.token.Token.TheVariants.{Sign, Number, Str, Name}
use Rattle.syntax_tree.specs.declared.tree.Link.{Link}
use Rattle.syntax_tree.specs.declared.tree.Invoke.{Invoke}
use Rattle.syntax_tree.specs.declared.tree.Expr.{Expr}
use Rattle.syntax_tree.specs.declared.tree.Expr.TheVariants as e
use Rattle.syntax_tree.specs.declared.tree.Stmt.{Stmt}
use Rattle.syntax_tree.specs.declared.tree.Stmt.TheVariants as b
use Rattle.item_types.specs.declared.decl.Names.{Names}
use Rattle.lang_grammar.specs.declared.fault.Fault.{Fault}
use Rattle.lang_grammar.specs.Place.{Place, place, Outcome, Parser, is, begins, first, next, sees, refusal, refuse, ◌>>=◌, pure}
use Rattle.syntax_tree.specs.Naming.{item_number, bean_number, recorder_number, method_number}
use Rattle.lang_grammar.specs.Table.{begins_stmt, compares}

-- ---- words

unfoldable pub sign : ℕ → Mark → Parser ℕ
sign left m = λ p. if sees m p then Ok (p.at, next p) else Err (refusal left p)

abbrev pub name_by : ℕ → Option Token → Parser (List ℕ)
name_by left (Some (Name w)) = λ p. Ok (w, next p)
name_by left _ = refuse left

unfoldable pub name : ℕ → Parser (List ℕ)
name left = λ p. name_by left (first p) p

abbrev pub number_by : ℕ → Option Token → Parser ℤ
number_by left (Some (Number v)) = λ p. Ok (v, next p)
number_by left _ = refuse left

unfoldable pub number : ℕ → Parser ℤ
number left = λ p. number_by left (first p) p

abbrev pub text_by : ℕ → Option Token → Parser (List ℕ)
text_by left (Some (Str v)) = λ p. Ok (v, next p)
text_by left _ = refuse left

unfoldable pub text : ℕ → Parser (List ℕ)
text left = λ p. text_by left (first p) p

abbrev pub here : Parser ℕ
here = λ p. Ok (p.at, p)

unfoldable pub many_from : {A : Type 0} → (Token → Bool) → ℕ → Parser A → ℕ → List A → Parser (List A)
many_from kind left item zero found = refuse left
many_from kind left item (suc turns) found = λ p. if begins kind p.rest then (item >>= λ x. many_from kind left item turns (found ++ x ∷ [])) p else Ok (found, p)

-- the turns are enough: each takes a token
abbrev pub more : {A : Type 0} → (Token → Bool) → ℕ → Parser A → List A → Parser (List A)
more kind left item found = λ p. many_from kind left item (length p.rest + 1) found p

unfoldable pub chain_from : {A : Type 0} → ℕ → Mark → (List A → List ℕ → A) → Parser A → ℕ → List A → List ℕ → Parser A
chain_from left m make part zero parts signs = refuse left
chain_from left m make part (suc turns) parts signs = λ p. if sees m p then (sign left m >>= λ s. part >>= λ x. chain_from left m make part turns (parts ++ x ∷ []) (signs ++ s ∷ [])) p else Ok (make parts signs, p)

unfoldable pub chain_behind : {A : Type 0} → ℕ → Mark → (List A → List ℕ → A) → Parser A → A → Parser A
chain_behind left m make part x = sign left m >>= λ s. part >>= λ y. λ p. chain_from left m make part (length p.rest + 1) (x ∷ y ∷ []) (s ∷ []) p

unfoldable pub chain : {A : Type 0} → ℕ → Mark → (List A → List ℕ → A) → Parser A → Parser A
chain left m make part = part >>= λ x. λ p. if sees m p then chain_behind left m make part x p else Ok (x, p)

-- a comma and a part
abbrev pub next_part : {A : Type 0} → ℕ → Parser A → Parser A
next_part left part = sign left Comma >>= λ _. part

unfoldable pub listing : {A : Type 0} → ℕ → Mark → Parser A → Parser (List A)
listing left close part =
    λ p. if sees close p then (sign left close >>= λ _. pure []) p
    else (part >>= λ x. more (is Comma) left (next_part left part) (x ∷ []) >>= λ xs. sign left close >>= λ _. pure xs) p

module _ (step : Bool) (names : Names) where
  -- ---- primaries; inner reads an expression in one more open form

  unfoldable pub paren : ℕ → Parser Expr → Parser Expr
  paren zero inner = refuse 0
  paren (suc n) inner = sign (suc n) Open >>= λ at. inner >>= λ x. sign n Close >>= λ _. pure (e.Paren at x)

  unfoldable pub listed : ℕ → Parser Expr → Parser Expr
  listed zero inner = refuse 0
  listed (suc n) inner = sign (suc n) OpenList >>= λ at. listing n CloseList inner >>= λ xs. pure (e.ListOf at xs)

  unfoldable pub field : ℕ → Parser Expr → Parser (List ℕ × Expr)
  field left inner = name left >>= λ f. sign left Colon >>= λ _. inner >>= λ x. pure (f, x)

  unfoldable pub fields : ℕ → Parser Expr → Parser (List (List ℕ × Expr))
  fields zero inner = refuse 0
  fields (suc n) inner = sign (suc n) OpenBlock >>= λ _. listing n CloseBlock (field n inner)

  unfoldable pub made : ℕ → Parser Expr → Parser Expr
  made left inner = sign left New >>= λ at. name left >>= λ w. fields left inner >>= λ fs. pure (e.New at (bean_number names w) fs)

  unfoldable pub got : ℕ → Parser Expr
  got left = sign left Get >>= λ at. name left >>= λ w. pure (e.Get at (item_number names w))

  unfoldable pub all_of : ℕ → Parser Expr
  all_of left = sign left All >>= λ at. name left >>= λ w. pure (e.All at (item_number names w))

  unfoldable pub static_of : ℕ → Parser Expr
  static_of left = sign left Static >>= λ at. sign left Dot >>= λ _. name left >>= λ f. pure (e.StaticOf at f)

  unfoldable pub null : ℕ → Parser Expr
  null left = sign left Null >>= λ at. pure (e.Null at)

  unfoldable pub truth : ℕ → Mark → Bool → Parser Expr
  truth left m v = sign left m >>= λ at. pure (e.Bool at v)

  unfoldable pub long : ℕ → Parser Expr
  long left = here >>= λ at. number left >>= λ x. pure (e.Long at x)

  unfoldable pub quoted : ℕ → Parser Expr
  quoted left = here >>= λ at. text left >>= λ x. pure (e.Str at x)

  unfoldable pub variable : ℕ → Parser Expr
  variable left = here >>= λ at. name left >>= λ x. pure (e.Name at x)

  unfoldable pub me : ℕ → Parser Expr
  me left = sign left Me >>= λ at. pure (e.Me at)

  abbrev pub simple_by : ℕ → Option Token → Parser Expr
  simple_by left (Some (Sign Null)) = null left
  simple_by left (Some (Sign True)) = truth left True true
  simple_by left (Some (Sign False)) = truth left False false
  simple_by left (Some (Number v)) = long left
  simple_by left (Some (Str v)) = quoted left
  simple_by left (Some (Name v)) = variable left
  simple_by left (Some (Sign Get)) = λ p. if step then got left p else Err (refusal left p)
  simple_by left (Some (Sign All)) = λ p. if step then all_of left p else Err (refusal left p)
  simple_by left (Some (Sign Me)) = λ p. if step then Err (refusal left p) else me left p
  simple_by left (Some (Sign Static)) = λ p. if step then Err (refusal left p) else static_of left p
  simple_by left _ = refuse left

  unfoldable pub simple : ℕ → Parser Expr
  simple left = λ p. simple_by left (first p) p

  abbrev pub primary_by : ℕ → Parser Expr → Option Token → Parser Expr
  primary_by left inner (Some (Sign Open)) = paren left inner
  primary_by left inner (Some (Sign OpenList)) = listed left inner
  primary_by left inner (Some (Sign New)) = made left inner
  primary_by left inner o = simple_by left o

  unfoldable pub primary : ℕ → Parser Expr → Parser Expr
  primary left inner = λ p. primary_by left inner (first p) p

  -- ---- expressions

  unfoldable pub link : ℕ → Parser Link
  link left = sign left Dot >>= λ dot. name left >>= λ f. pure (record { dot = dot; field = f })

  unfoldable pub links : ℕ → Parser (List Link)
  links left = link left >>= λ l. more (is Dot) left (link left) (l ∷ [])

  unfoldable pub postfix : ℕ → Parser Expr → Parser Expr
  postfix left inner = primary left inner >>= λ x. λ p. if sees Dot p then (links left >>= λ ls. pure (e.Fields x ls)) p else Ok (x, p)

  abbrev pub compared_by : ℕ → Parser Expr → Expr → Option Token → Parser Expr
  compared_by left sum x (Some (Sign Equal)) = sign left Equal >>= λ s. sum >>= λ y. pure (e.Equal x s y)
  compared_by left sum x (Some (Sign Less)) = sign left Less >>= λ s. sum >>= λ y. pure (e.Less x s y)
  compared_by left sum x _ = refuse left

  unfoldable pub compared : ℕ → Parser Expr → Expr → Parser Expr
  compared left sum x = λ p. compared_by left sum x (first p) p

  unfoldable pub comparison : ℕ → Parser Expr → Parser Expr
  comparison left sum = sum >>= λ x. λ p. if begins compares p.rest then compared left sum x p else Ok (x, p)

  unfoldable pub sum : ℕ → Parser Expr → Parser Expr
  sum left unary = chain left Plus e.Sum unary

  unfoldable pub expr_of : ℕ → Parser Expr → Parser Expr
  expr_of left unary = chain left And e.Both (comparison left (sum left unary))

  abbrev pub unary_by : ℕ → Parser Expr → Option Token → Parser Expr
  unary_by n u None = refuse (suc n)
  unary_by n u (Some (Sign Bang)) = sign (suc n) Bang >>= λ at. u >>= λ x. pure (e.Not at x)
  unary_by n u (Some (Sign Len)) = sign (suc n) Len >>= λ at. u >>= λ x. pure (e.Len at x)
  unary_by n u _ = postfix (suc n) (expr_of n u)

  unfoldable pub unary : ℕ → Parser Expr
  unary zero = postfix 0 (refuse 0)
  unary (suc n) = λ p. unary_by n (unary n) (first p) p

  unfoldable pub expr : ℕ → Parser Expr
  expr left = expr_of left (unary left)

  -- an expression in one more open form
  abbrev pub inner : ℕ → Parser Expr
  inner zero = refuse 0
  inner (suc n) = expr n

  -- ---- statements

  -- the arguments of a call
  unfoldable pub arguments : ℕ → Parser (List Expr)
  arguments zero = refuse 0
  arguments (suc n) = sign (suc n) Open >>= λ _. listing n Close (expr n)

  unfoldable pub invoke : ℕ → Parser Invoke
  invoke left =
      sign left Call >>= λ at. name left >>= λ r. sign left Dot >>= λ _. name left >>= λ m. arguments left >>= λ args.
      pure (record { at = at; recorder = recorder_number names r; method = method_number names r m; args = args })

  -- an expression and a semicolon
  unfoldable pub value : ℕ → Parser Expr
  value left = expr left >>= λ v. sign left Semi >>= λ _. pure v

  unfoldable pub let_call : ℕ → ℕ → List ℕ → Parser Stmt
  let_call left at x = invoke left >>= λ c. sign left Semi >>= λ _. pure (b.LetCall at x c)

  unfoldable pub let_value : ℕ → ℕ → List ℕ → Parser Stmt
  let_value left at x = expr left >>= λ v. sign left Semi >>= λ _. pure (b.Let at x v)

  unfoldable pub let_behind : ℕ → ℕ → List ℕ → Parser Stmt
  let_behind left at x = λ p. if step then (if sees Call p then let_call left at x p else let_value left at x p) else let_value left at x p

  unfoldable pub let_form : ℕ → Parser Stmt
  let_form left = sign left Let >>= λ at. name left >>= λ x. sign left Assign >>= λ _. let_behind left at x

  unfoldable pub call_form : ℕ → Parser Stmt
  call_form left = invoke left >>= λ c. sign left Semi >>= λ _. pure (b.CallOf c)

  unfoldable pub argument : ℕ → Parser Expr
  argument zero = refuse 0
  argument (suc n) = sign (suc n) Open >>= λ _. expr n >>= λ v. sign n Close >>= λ _. pure v

  unfoldable pub produce_form : ℕ → Parser Stmt
  produce_form left = sign left Produce >>= λ at. name left >>= λ w. argument left >>= λ v. sign left Semi >>= λ _. pure (b.Produce at (item_number names w) v)

  unfoldable pub for_form : ℕ → Parser (List Stmt) → Parser Stmt
  for_form left block = sign left For >>= λ at. name left >>= λ x. sign left In >>= λ _. expr left >>= λ l. block >>= λ c. pure (b.For at x l c)

  unfoldable pub other : ℕ → Parser (List Stmt) → Parser (Option (List Stmt))
  other left block = λ p. if sees Else p then (sign left Else >>= λ _. block >>= λ c. pure (Some c)) p else Ok (None, p)

  unfoldable pub if_form : ℕ → Parser (List Stmt) → Parser Stmt
  if_form left block = sign left If >>= λ at. expr left >>= λ x. block >>= λ c. other left block >>= λ o. pure (b.If at x c o)

  unfoldable pub fail_form : ℕ → Parser Stmt
  fail_form left = sign left Fail >>= λ at. expr left >>= λ v. sign left Semi >>= λ _. pure (b.FailWith at v)

  unfoldable pub print_form : ℕ → Parser Stmt
  print_form left = sign left Print >>= λ at. expr left >>= λ v. sign left Semi >>= λ _. pure (b.Print at v)

  unfoldable pub return_form : ℕ → Parser Stmt
  return_form left = sign left Return >>= λ at. expr left >>= λ v. sign left Semi >>= λ _. pure (b.Return at v)

  unfoldable pub pair : ℕ → Parser (Expr × Expr)
  pair zero = refuse 0
  pair (suc n) = sign (suc n) Open >>= λ _. expr n >>= λ l. sign n Comma >>= λ _. expr n >>= λ v. sign n Close >>= λ _. pure (l, v)

  unfoldable pub add_form : ℕ → Parser Stmt
  add_form left = sign left Add >>= λ at. pair left >>= λ z. sign left Semi >>= λ _. pure (b.Add at z.0 z.1)

  unfoldable pub assigned : ℕ → Parser Expr
  assigned left = sign left Assign >>= λ _. expr left >>= λ v. sign left Semi >>= λ _. pure v

  unfoldable pub set_static : ℕ → Parser Stmt
  set_static left = sign left Static >>= λ at. sign left Dot >>= λ _. name left >>= λ f. assigned left >>= λ v. pure (b.SetStatic at f v)

  unfoldable pub set_self : ℕ → Parser Stmt
  set_self left = sign left Me >>= λ at. sign left Dot >>= λ dot. name left >>= λ f. assigned left >>= λ v. pure (b.SetSelf at dot f v)

  unfoldable pub set_field : ℕ → Parser Stmt
  set_field left = here >>= λ at. name left >>= λ x. sign left Dot >>= λ dot. name left >>= λ f. assigned left >>= λ v. pure (b.SetField at dot x f v)

  abbrev pub plain_by : ℕ → Option Token → Parser Stmt
  plain_by left (Some (Sign Let)) = let_form left
  plain_by left (Some (Sign Fail)) = fail_form left
  plain_by left (Some (Sign Call)) = λ p. if step then call_form left p else Err (refusal left p)
  plain_by left (Some (Sign Produce)) = λ p. if step then produce_form left p else Err (refusal left p)
  plain_by left (Some (Sign Print)) = λ p. if step then Err (refusal left p) else print_form left p
  plain_by left (Some (Sign Return)) = λ p. if step then Err (refusal left p) else return_form left p
  plain_by left (Some (Sign Add)) = λ p. if step then Err (refusal left p) else add_form left p
  plain_by left (Some (Sign Static)) = λ p. if step then Err (refusal left p) else set_static left p
  plain_by left (Some (Sign Me)) = λ p. if step then Err (refusal left p) else set_self left p
  plain_by left (Some (Name x)) = λ p. if step then Err (refusal left p) else set_field left p
  plain_by left _ = refuse left

  -- a statement without a block
  unfoldable pub plain : ℕ → Parser Stmt
  plain left = λ p. plain_by left (first p) p

  abbrev pub stmt_by : ℕ → Parser (List Stmt) → Option Token → Parser Stmt
  stmt_by left block (Some (Sign For)) = for_form left block
  stmt_by left block (Some (Sign If)) = if_form left block
  stmt_by left block o = plain_by left o

  unfoldable pub stmt : ℕ → Parser (List Stmt) → Parser Stmt
  stmt left block = λ p. stmt_by left block (first p) p

  unfoldable pub stmts : ℕ → Parser (List Stmt) → Parser (List Stmt)
  stmts left block = more (begins_stmt step names) left (stmt left block) []

  unfoldable pub block : ℕ → Parser (List Stmt)
  block zero = refuse 0
  block (suc n) = sign (suc n) OpenBlock >>= λ _. stmts n (block n) >>= λ c. sign n CloseBlock >>= λ _. pure c

  unfoldable pub body : ℕ → Parser (List Stmt)
  body left = stmts left (block left)

  -- a body that was read, where it is all
  abbrev pub all_read : ℕ → List Stmt → Place → Option Token → Result (List Stmt) Fault
  all_read left c p None = Ok c
  all_read left c p (Some t) = Err (refusal left p)

  abbrev pub ended : ℕ → Outcome (List Stmt) → Result (List Stmt) Fault
  ended left (Ok r) = all_read left r.0 r.1 (first r.1)
  ended left (Err f) = Err f

  -- the whole text
  unfoldable pub whole : ℕ → List Token → Result (List Stmt) Fault
  whole left tokens = ended left (body left (place 0 tokens))

-- how many forms may be open
abbrev pub limit : ℕ
limit = 64
