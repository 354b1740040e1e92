-- Statements are read, and are stuck, for the tokens up to the next alone.
use Rattle.std.proofs.Common.{ℕ, zero, suc, Bool, true, false, List, []}
use Rattle.std.specs.Prelude.{not, Some, None}
use Rattle.lang_lexer.specs.declared.token.Mark.TheVariants.{Let, Produce, For, In, If, Else, Call, Fail, Me, Static, Add, Print, Return, Semi, Comma, Dot, Open, Close, OpenBlock, CloseBlock, Assign}
use Rattle.lang_lexer.specs.declared.token.Token.{Token}
use Rattle.lang_lexer.specs.declared.token.Token.TheVariants.{Sign, Name}
use Rattle.syntax_tree.specs.declared.tree.Invoke.{Invoke}
use Rattle.syntax_tree.specs.declared.tree.Expr.{Expr}
use Rattle.syntax_tree.specs.declared.tree.Stmt.{Stmt}
use Rattle.syntax_tree.specs.declared.tree.Stmt.TheVariants as b
use Rattle.item_types.specs.declared.decl.Names.{Names}
use Rattle.lang_grammar.specs.Place.{is}
use Rattle.syntax_tree.specs.Naming.{item_number, recorder_number, method_number}
use Rattle.lang_grammar.specs.Forms.{Form, give, sign, ◌⟫=◌}
use Rattle.lang_grammar.specs.Table as table
use Rattle.lang_grammar.specs.Table.{begins_stmt}
use Rattle.lang_grammar.proofs.Local.{Local, local_nothing, local_give, local_here, local_sign, local_name, local_then, local_last, local_first, local_optional, local_choose, local_more, local_allowed, local_opening, local_listing}
use Rattle.lang_grammar.proofs.LocalTabled.{local_expr, local_inner}

-- a form, a semicolon and a tree of it
local_closed : {A B : Type 0} {a : Form A} (n : ℕ) (f : A → B) → Local a → Local (a ⟫= λ x. sign n Semi ⟫= λ _. give (f x))
local_closed n f la = local_then la (λ x. local_then (local_sign n Semi) (λ _. local_give (f x)))

module _ (step : Bool) (names : Names) where
  local_value : {A : Type 0} (n : ℕ) (f : Expr → A) → Local (table.expr step names n ⟫= λ v. sign n Semi ⟫= λ _. give (f v))
  local_value n f = local_closed n f (local_expr step names n)

  local_invoke : (n : ℕ) → Local (table.invoke step names n)
  unfolding table.invoke
  local_invoke n =
      local_then (local_sign n Call) (λ at.
      local_then (local_name n) (λ r.
      local_then (local_sign n Dot) (λ _.
      local_then (local_name n) (λ m.
      local_last {B = Invoke} (λ args. record { at = at; recorder = recorder_number names r; method = method_number names r m; args = args })
      (local_opening n Open (λ j _. local_listing j Close (local_inner step names n)))))))

  local_let_behind : (s : Bool) (n at : ℕ) (x : List ℕ) → Local (table.let_behind step names s n at x)
  local_let_behind true n at x =
      local_choose (is Call) (table.invoke step names n ⟫= λ c. sign n Semi ⟫= λ _. give (b.LetCall at x c)) (table.expr step names n ⟫= λ v. sign n Semi ⟫= λ _. give (b.Let at x v))
      (local_closed n (λ c. b.LetCall at x c) (local_invoke n)) (local_value n (λ v. b.Let at x v))
  local_let_behind false n at x = local_value n (λ v. b.Let at x v)

  local_let_form : (n : ℕ) → Local (table.let_form step names n)
  unfolding table.let_form
  local_let_form n = local_then (local_sign n Let) (λ at. local_then (local_name n) (λ x. local_then (local_sign n Assign) (λ _. local_let_behind step n at x)))

  local_call_form : (n : ℕ) → Local (table.call_form step names n)
  unfolding table.call_form
  local_call_form n = local_closed n (λ c. b.CallOf c) (local_invoke n)

  local_produce_form : (n : ℕ) → Local (table.produce_form step names n)
  unfolding table.produce_form
  local_produce_form n =
      local_then (local_sign n Produce) (λ at.
      local_then (local_name n) (λ w.
      local_closed n (λ v. b.Produce at (item_number names w) v) (local_opening n Open (λ m _. local_then (local_inner step names n) (λ v. local_then (local_sign m Close) (λ _. local_give v))))))

  local_fail_form : (n : ℕ) → Local (table.fail_form step names n)
  unfolding table.fail_form
  local_fail_form n = local_then (local_sign n Fail) (λ at. local_value n (λ v. b.FailWith at v))

  local_print_form : (n : ℕ) → Local (table.print_form step names n)
  unfolding table.print_form
  local_print_form n = local_then (local_sign n Print) (λ at. local_value n (λ v. b.Print at v))

  local_return_form : (n : ℕ) → Local (table.return_form step names n)
  unfolding table.return_form
  local_return_form n = local_then (local_sign n Return) (λ at. local_value n (λ v. b.Return at v))

  local_pair : (n : ℕ) → Local (table.pair step names n)
  unfolding table.pair
  local_pair n =
      local_opening n Open (λ m _.
      local_then (local_inner step names n) (λ l.
      local_then (local_sign m Comma) (λ _.
      local_then (local_inner step names n) (λ v.
      local_then (local_sign m Close) (λ _. local_give {A = Expr × Expr} (l, v))))))

  local_add_form : (n : ℕ) → Local (table.add_form step names n)
  unfolding table.add_form
  local_add_form n = local_then (local_sign n Add) (λ at. local_closed n (λ z. b.Add at z.0 z.1) (local_pair n))

  local_assigned : (n : ℕ) → Local (table.assigned step names n)
  unfolding table.assigned
  local_assigned n = local_then (local_sign n Assign) (λ _. local_value n (λ v. v))

  local_set_static : (n : ℕ) → Local (table.set_static step names n)
  unfolding table.set_static
  local_set_static n =
      local_then (local_sign n Static) (λ at. local_then (local_sign n Dot) (λ _. local_then (local_name n) (λ f. local_last (λ v. b.SetStatic at f v) (local_assigned n))))

  local_set_self : (n : ℕ) → Local (table.set_self step names n)
  unfolding table.set_self
  local_set_self n =
      local_then (local_sign n Me) (λ at. local_then (local_sign n Dot) (λ dot. local_then (local_name n) (λ f. local_last (λ v. b.SetSelf at dot f v) (local_assigned n))))

  local_set_field : (n : ℕ) → Local (table.set_field step names n)
  unfolding table.set_field
  local_set_field n =
      local_then local_here (λ at.
      local_then (local_name n) (λ x. local_then (local_sign n Dot) (λ dot. local_then (local_name n) (λ f. local_last (λ v. b.SetField at dot x f v) (local_assigned n)))))

  -- ---- statements with blocks

  module _ (n : ℕ) (block : Form (List Stmt)) (lb : Local block) where
    local_for_form : Local (table.for_form step names n block)
    unfolding table.for_form
    local_for_form =
        local_then (local_sign n For) (λ at.
        local_then (local_name n) (λ x.
        local_then (local_sign n In) (λ _.
        local_then (local_expr step names n) (λ l. local_last (λ c. b.For at x l c) lb))))

    local_other : Local (table.other step names n block)
    unfolding table.other
    local_other =
        local_optional (is Else) (sign n Else ⟫= λ _. block ⟫= λ c. give (Some c)) None (local_then (local_sign n Else) (λ _. local_last (λ c. Some c) lb))

    local_if_form : Local (table.if_form step names n block)
    unfolding table.if_form
    local_if_form =
        local_then (local_sign n If) (λ at.
        local_then (local_expr step names n) (λ x.
        local_then lb (λ c. local_last (λ o. b.If at x c o) local_other)))

    local_stmt_of : (t : Token) → Local (table.stmt_of step names n block t)
    local_stmt_of (Sign Let) = local_let_form n
    local_stmt_of (Sign For) = local_for_form
    local_stmt_of (Sign If) = local_if_form
    local_stmt_of (Sign Fail) = local_fail_form n
    local_stmt_of (Sign Call) = local_allowed step n (local_call_form n)
    local_stmt_of (Sign Produce) = local_allowed step n (local_produce_form n)
    local_stmt_of (Sign Print) = local_allowed (not step) n (local_print_form n)
    local_stmt_of (Sign Return) = local_allowed (not step) n (local_return_form n)
    local_stmt_of (Sign Add) = local_allowed (not step) n (local_add_form n)
    local_stmt_of (Sign Static) = local_allowed (not step) n (local_set_static n)
    local_stmt_of (Sign Me) = local_allowed (not step) n (local_set_self n)
    local_stmt_of (Name x) = local_allowed (not step) n (local_set_field n)
    local_stmt_of _ = local_nothing n

    local_stmt : Local (table.stmt step names n block)
    unfolding table.stmt
    local_stmt = local_first n (table.stmt_of step names n block) local_stmt_of

  local_block : (n : ℕ) → Local (table.block step names n)
  unfolding table.block
  local_block zero = local_nothing 0
  local_block (suc n) =
      local_then (local_sign (suc n) OpenBlock) (λ _.
      local_then (local_more (begins_stmt step names) (table.stmt step names n (table.block step names n)) (local_stmt n (table.block step names n) (local_block n)) []) (λ c.
      local_then (local_sign n CloseBlock) (λ _. local_give c)))

  pub local_body : (n : ℕ) → Local (table.body step names n)
  unfolding table.body
  local_body n = local_more (begins_stmt step names) (table.stmt step names n (table.block step names n)) (local_stmt n (table.block step names n) (local_block n)) []
