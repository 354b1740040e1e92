-- The statements are read rightly by the rules, form by form.
use Rattle.std.proofs.Common.{◌≡◌, ℕ, zero, suc, Bool, true, false, List, [], refl, if◌then◌else◌}
use Rattle.std.specs.Prelude.{◌||◌, not, Some, None}
use Rattle.lang_lexer.specs.declared.token.Mark.TheVariants.{Let, Produce, For, In, If, Else, Call, Fail, Me, Static, Add, Print, Return, Semi, Comma, Dot, Open, Close, OpenBlock, CloseBlock, Assign}
use Rattle.lang_lexer.specs.declared.token.Token.{Token}
use Rattle.lang_lexer.specs.declared.token.Token.TheVariants.{Sign, Name}
use Rattle.syntax_tree.specs.declared.tree.Invoke.{Invoke}
use Rattle.syntax_tree.specs.declared.tree.Expr.{Expr}
use Rattle.syntax_tree.specs.declared.tree.Stmt.{Stmt}
use Rattle.syntax_tree.specs.declared.tree.Stmt.TheVariants as b
use Rattle.item_types.specs.declared.decl.Names.{Names}
use Rattle.lang_grammar.specs.Place.{Parser, is, sees, ◌>>=◌, pure}
use Rattle.syntax_tree.specs.Naming.{item_number, recorder_number, method_number}
use Rattle.lang_grammar.specs.Forms.{Form, give, sign, name, ◌⟫=◌, many, allowed, opening, listing}
use Rattle.lang_grammar.specs.Table as table
use Rattle.lang_grammar.specs.Rules as rules
use Rattle.lang_grammar.proofs.Right.{Right, Starts, none, right_nothing, right_give, right_here, right_sign, right_name, right_then, right_till, right_last}
use Rattle.lang_grammar.proofs.Words.{any, starts_any, starts_sign, starts_bind, starts_first, starts_here, starts_allowed, right_first, right_optional, right_choose, right_more, right_listing, right_allowed, right_denied, right_opened, starts_one, starts_any_name, right_any, apart_sign}
use Rattle.lang_grammar.proofs.Tabled.{carries_expr, begins_expr, right_expr, starts_expr}
use Rattle.lang_grammar.specs.Table.{begins_stmt}

module _ (step : Bool) (names : Names) where
  -- an expression, a semicolon and a tree of it
  right_value : {A : Type 0} (n : ℕ) (f : Expr → A) → Right (table.expr step names n ⟫= λ v. sign n Semi ⟫= λ _. give (f v)) (rules.expr step names n >>= λ v. rules.sign n Semi >>= λ _. pure (f v)) none
  right_value n f = right_till Semi carries_expr none (right_expr step names n) refl (λ v. starts_sign n Semi (λ _. give (f v))) (λ v. right_then none (right_sign n Semi none) (λ _. right_give (f v)))

  -- a form behind which nothing carries on, a semicolon and a tree of it
  right_closed : {A B : Type 0} (n : ℕ) (a : Form A) (r : Parser A) (f : A → B) → Right a r none → Right (a ⟫= λ x. sign n Semi ⟫= λ _. give (f x)) (r >>= λ x. rules.sign n Semi >>= λ _. pure (f x)) none
  right_closed n a r f ra = right_then none ra (λ x. right_then none (right_sign n Semi none) (λ _. right_give (f x)))

  right_arguments : (n : ℕ) → Right (opening n Open (λ j _. listing j Close (table.inner step names n))) (rules.arguments step names n) none
  unfolding rules.arguments table.inner
  right_arguments zero = right_nothing 0
  right_arguments (suc n) =
      right_then none (right_opened n Open) (λ _.
      right_listing n Close (table.expr step names n) (rules.expr step names n) carries_expr begins_expr (right_expr step names n) (starts_expr step names n) refl refl refl)

  right_invoke : (n : ℕ) → Right (table.invoke step names n) (rules.invoke step names n) none
  unfolding table.invoke rules.invoke
  right_invoke n =
      right_then none (right_sign n Call none) (λ at.
      right_then none (right_name n none) (λ r.
      right_then none (right_sign n Dot none) (λ _.
      right_then none (right_name n none) (λ m.
      right_last {B = Invoke} (λ args. record { at = at; recorder = recorder_number names r; method = method_number names r m; args = args }) none (right_arguments n)))))

  starts_invoke : (n : ℕ) → Starts (is Call) (table.invoke step names n)
  unfolding table.invoke
  starts_invoke n =
      starts_sign n Call (λ at. name n ⟫= λ r. sign n Dot ⟫= λ _. name n ⟫= λ m. opening n Open (λ j _. listing j Close (table.inner step names n)) ⟫= λ args.
      give (let c : Invoke = record { at = at; recorder = recorder_number names r; method = method_number names r m; args = args } in c))

  right_let_call : (n at : ℕ) (x : List ℕ) → Right (table.invoke step names n ⟫= λ c. sign n Semi ⟫= λ _. give (b.LetCall at x c)) (rules.let_call step names n at x) none
  unfolding rules.let_call
  right_let_call n at x = right_closed n (table.invoke step names n) (rules.invoke step names n) (λ c. b.LetCall at x c) (right_invoke n)

  right_let_value : (n at : ℕ) (x : List ℕ) → Right (table.expr step names n ⟫= λ v. sign n Semi ⟫= λ _. give (b.Let at x v)) (rules.let_value step names n at x) none
  unfolding rules.let_value
  right_let_value n at x = right_value n (λ v. b.Let at x v)

  right_let_behind : (s : Bool) (n at : ℕ) (x : List ℕ) → Right (table.let_behind step names s n at x)
      (λ p. if s then (if sees Call p then rules.let_call step names n at x p else rules.let_value step names n at x p) else rules.let_value step names n at x p) none
  right_let_behind true n at x =
      right_choose (is Call) begins_expr (table.invoke step names n ⟫= λ c. sign n Semi ⟫= λ _. give (b.LetCall at x c)) (table.expr step names n ⟫= λ v. sign n Semi ⟫= λ _. give (b.Let at x v))
      (rules.let_call step names n at x) (rules.let_value step names n at x) none (right_let_call n at x) (right_let_value n at x)
      (starts_bind (is Call) (table.invoke step names n) (λ c. sign n Semi ⟫= λ _. give (b.LetCall at x c)) (starts_invoke n))
      (starts_bind begins_expr (table.expr step names n) (λ v. sign n Semi ⟫= λ _. give (b.Let at x v)) (starts_expr step names n))
      (apart_sign Call begins_expr refl)
  right_let_behind false n at x = right_let_value n at x

  right_let_form : (n : ℕ) → Right (table.let_form step names n) (rules.let_form step names n) none
  unfolding table.let_form rules.let_form rules.let_behind
  right_let_form n =
      right_then none (right_sign n Let none) (λ at.
      right_then none (right_name n none) (λ x.
      right_then none (right_sign n Assign none) (λ _. right_let_behind step n at x)))

  right_call_form : (n : ℕ) → Right (table.call_form step names n) (rules.call_form step names n) none
  unfolding table.call_form rules.call_form
  right_call_form n = right_closed n (table.invoke step names n) (rules.invoke step names n) (λ c. b.CallOf c) (right_invoke n)

  right_argument : (n : ℕ) → Right (opening n Open (λ m _. table.inner step names n ⟫= λ v. sign m Close ⟫= λ _. give v)) (rules.argument step names n) none
  unfolding rules.argument table.inner
  right_argument zero = right_nothing 0
  right_argument (suc n) =
      right_then none (right_opened n Open) (λ _.
      right_till Close carries_expr none (right_expr step names n) refl (λ v. starts_sign n Close (λ _. give v)) (λ v.
      right_then none (right_sign n Close none) (λ _. right_give v)))

  right_produce_form : (n : ℕ) → Right (table.produce_form step names n) (rules.produce_form step names n) none
  unfolding table.produce_form rules.produce_form
  right_produce_form n =
      right_then none (right_sign n Produce none) (λ at.
      right_then none (right_name n none) (λ w.
      right_closed n (opening n Open (λ m _. table.inner step names n ⟫= λ v. sign m Close ⟫= λ _. give v)) (rules.argument step names n) (λ v. b.Produce at (item_number names w) v) (right_argument n)))

  right_fail_form : (n : ℕ) → Right (table.fail_form step names n) (rules.fail_form step names n) none
  unfolding table.fail_form rules.fail_form
  right_fail_form n = right_then none (right_sign n Fail none) (λ at. right_value n (λ v. b.FailWith at v))

  right_print_form : (n : ℕ) → Right (table.print_form step names n) (rules.print_form step names n) none
  unfolding table.print_form rules.print_form
  right_print_form n = right_then none (right_sign n Print none) (λ at. right_value n (λ v. b.Print at v))

  right_return_form : (n : ℕ) → Right (table.return_form step names n) (rules.return_form step names n) none
  unfolding table.return_form rules.return_form
  right_return_form n = right_then none (right_sign n Return none) (λ at. right_value n (λ v. b.Return at v))

  right_pair : (n : ℕ) → Right (table.pair step names n) (rules.pair step names n) none
  unfolding table.pair rules.pair table.inner
  right_pair zero = right_nothing 0
  right_pair (suc n) =
      right_then none (right_opened n Open) (λ _.
      right_till Comma carries_expr none (right_expr step names n) refl (λ l. starts_sign n Comma (λ _. table.expr step names n ⟫= λ v. sign n Close ⟫= λ _. give (let z : Expr × Expr = (l, v) in z))) (λ l.
      right_then none (right_sign n Comma none) (λ _.
      right_till Close carries_expr none (right_expr step names n) refl (λ v. starts_sign n Close (λ _. give (let z : Expr × Expr = (l, v) in z))) (λ v.
      right_then none (right_sign n Close none) (λ _. right_give {A = Expr × Expr} (l, v))))))

  right_add_form : (n : ℕ) → Right (table.add_form step names n) (rules.add_form step names n) none
  unfolding table.add_form rules.add_form
  right_add_form n = right_then none (right_sign n Add none) (λ at. right_closed n (table.pair step names n) (rules.pair step names n) (λ z. b.Add at z.0 z.1) (right_pair n))

  right_assigned : (n : ℕ) → Right (table.assigned step names n) (rules.assigned step names n) none
  unfolding table.assigned rules.assigned
  right_assigned n = right_then none (right_sign n Assign none) (λ _. right_value n (λ v. v))

  right_set_static : (n : ℕ) → Right (table.set_static step names n) (rules.set_static step names n) none
  unfolding table.set_static rules.set_static
  right_set_static n =
      right_then none (right_sign n Static none) (λ at.
      right_then none (right_sign n Dot none) (λ _.
      right_then none (right_name n none) (λ f. right_last (λ v. b.SetStatic at f v) none (right_assigned n))))

  right_set_self : (n : ℕ) → Right (table.set_self step names n) (rules.set_self step names n) none
  unfolding table.set_self rules.set_self
  right_set_self n =
      right_then none (right_sign n Me none) (λ at.
      right_then none (right_sign n Dot none) (λ dot.
      right_then none (right_name n none) (λ f. right_last (λ v. b.SetSelf at dot f v) none (right_assigned n))))

  right_set_field : (n : ℕ) → Right (table.set_field step names n) (rules.set_field step names n) none
  unfolding table.set_field rules.set_field
  right_set_field n =
      right_then none right_here (λ at.
      right_then none (right_name n none) (λ x.
      right_then none (right_sign n Dot none) (λ dot.
      right_then none (right_name n none) (λ f. right_last (λ v. b.SetField at dot x f v) none (right_assigned n)))))

  -- ---- statements with blocks

  -- an else may carry on an if
  abbrev pub carries_stmt : Token → Bool
  carries_stmt t = none t || is Else t

  module _ (n : ℕ) (block : Form (List Stmt)) (rb : Parser (List Stmt)) (right_block : Right block rb none) (starts_block : Starts (is OpenBlock) block) where
    right_for_form : Right (table.for_form step names n block) (rules.for_form step names n rb) none
    unfolding table.for_form rules.for_form
    right_for_form =
        right_then none (right_sign n For none) (λ at.
        right_then none (right_name n none) (λ x.
        right_then none (right_sign n In none) (λ _.
        right_till OpenBlock carries_expr none (right_expr step names n) refl (λ l. starts_bind (is OpenBlock) block (λ c. give (b.For at x l c)) starts_block) (λ l.
        right_last (λ c. b.For at x l c) none right_block))))

    right_other : Right (table.other step names n block) (rules.other step names n rb) carries_stmt
    unfolding table.other rules.other
    right_other =
        right_optional (is Else) (sign n Else ⟫= λ _. block ⟫= λ c. give (Some c)) None (rules.sign n Else >>= λ _. rb >>= λ c. pure (Some c)) none
        (right_then none (right_sign n Else none) (λ _. right_last (λ c. Some c) none right_block)) (starts_sign n Else (λ _. block ⟫= λ c. give (Some c)))

    right_if_form : Right (table.if_form step names n block) (rules.if_form step names n rb) carries_stmt
    unfolding table.if_form rules.if_form
    right_if_form =
        right_then carries_stmt (right_sign n If none) (λ at.
        right_till OpenBlock carries_expr carries_stmt (right_expr step names n) refl (λ x. starts_bind (is OpenBlock) block (λ c. table.other step names n block ⟫= λ o. give (b.If at x c o)) starts_block) (λ x.
        right_then carries_stmt right_block (λ c.
        right_last (λ o. b.If at x c o) carries_stmt right_other)))

    right_stmt_of : (t : Token) → Right (table.stmt_of step names n block t) (rules.stmt_by step names n rb (Some t)) carries_stmt
    right_stmt_of (Sign Let) = right_any carries_stmt (right_let_form n)
    right_stmt_of (Sign For) = right_any carries_stmt right_for_form
    right_stmt_of (Sign If) = right_if_form
    right_stmt_of (Sign Fail) = right_any carries_stmt (right_fail_form n)
    right_stmt_of (Sign Call) = right_allowed n step (right_any carries_stmt (right_call_form n))
    right_stmt_of (Sign Produce) = right_allowed n step (right_any carries_stmt (right_produce_form n))
    right_stmt_of (Sign Print) = right_denied n step (right_any carries_stmt (right_print_form n))
    right_stmt_of (Sign Return) = right_denied n step (right_any carries_stmt (right_return_form n))
    right_stmt_of (Sign Add) = right_denied n step (right_any carries_stmt (right_add_form n))
    right_stmt_of (Sign Static) = right_denied n step (right_any carries_stmt (right_set_static n))
    right_stmt_of (Sign Me) = right_denied n step (right_any carries_stmt (right_set_self n))
    right_stmt_of (Name x) = right_denied n step (right_any carries_stmt (right_set_field n))
    right_stmt_of _ = right_nothing n

  starts_let_form : (n : ℕ) → Starts any (table.let_form step names n)
  unfolding table.let_form
  starts_let_form n = starts_bind any (sign n Let) (λ at. name n ⟫= λ x. sign n Assign ⟫= λ _. table.let_behind step names step n at x) (starts_one n Let)

  starts_call_form : (n : ℕ) → Starts any (table.call_form step names n)
  unfolding table.call_form
  starts_call_form n = starts_bind any (table.invoke step names n) (λ c. sign n Semi ⟫= λ _. give (b.CallOf c)) (starts_any (is Call) (table.invoke step names n) (starts_invoke n))

  starts_produce_form : (n : ℕ) → Starts any (table.produce_form step names n)
  unfolding table.produce_form
  starts_produce_form n =
      starts_bind any (sign n Produce) (λ at. name n ⟫= λ w. opening n Open (λ m _. table.inner step names n ⟫= λ v. sign m Close ⟫= λ _. give v) ⟫= λ v. sign n Semi ⟫= λ _. give (b.Produce at (item_number names w) v)) (starts_one n Produce)

  starts_fail_form : (n : ℕ) → Starts any (table.fail_form step names n)
  unfolding table.fail_form
  starts_fail_form n = starts_bind any (sign n Fail) (λ at. table.expr step names n ⟫= λ v. sign n Semi ⟫= λ _. give (b.FailWith at v)) (starts_one n Fail)

  starts_print_form : (n : ℕ) → Starts any (table.print_form step names n)
  unfolding table.print_form
  starts_print_form n = starts_bind any (sign n Print) (λ at. table.expr step names n ⟫= λ v. sign n Semi ⟫= λ _. give (b.Print at v)) (starts_one n Print)

  starts_return_form : (n : ℕ) → Starts any (table.return_form step names n)
  unfolding table.return_form
  starts_return_form n = starts_bind any (sign n Return) (λ at. table.expr step names n ⟫= λ v. sign n Semi ⟫= λ _. give (b.Return at v)) (starts_one n Return)

  starts_add_form : (n : ℕ) → Starts any (table.add_form step names n)
  unfolding table.add_form
  starts_add_form n = starts_bind any (sign n Add) (λ at. table.pair step names n ⟫= λ z. sign n Semi ⟫= λ _. give (b.Add at z.0 z.1)) (starts_one n Add)

  starts_set_static : (n : ℕ) → Starts any (table.set_static step names n)
  unfolding table.set_static
  starts_set_static n = starts_bind any (sign n Static) (λ at. sign n Dot ⟫= λ _. name n ⟫= λ f. table.assigned step names n ⟫= λ v. give (b.SetStatic at f v)) (starts_one n Static)

  starts_set_self : (n : ℕ) → Starts any (table.set_self step names n)
  unfolding table.set_self
  starts_set_self n = starts_bind any (sign n Me) (λ at. sign n Dot ⟫= λ dot. name n ⟫= λ f. table.assigned step names n ⟫= λ v. give (b.SetSelf at dot f v)) (starts_one n Me)

  starts_set_field : (n : ℕ) → Starts any (table.set_field step names n)
  unfolding table.set_field
  starts_set_field n =
      starts_here any (λ at. name n ⟫= λ x. sign n Dot ⟫= λ dot. name n ⟫= λ f. table.assigned step names n ⟫= λ v. give (b.SetField at dot x f v))
      (λ at. starts_bind any (name n) (λ x. sign n Dot ⟫= λ dot. name n ⟫= λ f. table.assigned step names n ⟫= λ v. give (b.SetField at dot x f v)) (starts_any_name n))

  module _ (n : ℕ) (block : Form (List Stmt)) where
    starts_for_form : Starts any (table.for_form step names n block)
    unfolding table.for_form
    starts_for_form = starts_bind any (sign n For) (λ at. name n ⟫= λ x. sign n In ⟫= λ _. table.expr step names n ⟫= λ l. block ⟫= λ c. give (b.For at x l c)) (starts_one n For)

    starts_if_form : Starts any (table.if_form step names n block)
    unfolding table.if_form
    starts_if_form = starts_bind any (sign n If) (λ at. table.expr step names n ⟫= λ x. block ⟫= λ c. table.other step names n block ⟫= λ o. give (b.If at x c o)) (starts_one n If)

    starts_stmt_of : (t : Token) → Starts any (table.stmt_of step names n block t)
    starts_stmt_of (Sign Let) = starts_let_form n
    starts_stmt_of (Sign For) = starts_for_form
    starts_stmt_of (Sign If) = starts_if_form
    starts_stmt_of (Sign Fail) = starts_fail_form n
    starts_stmt_of (Sign Call) = starts_allowed (table.call_form step names n) any n step (starts_call_form n)
    starts_stmt_of (Sign Produce) = starts_allowed (table.produce_form step names n) any n step (starts_produce_form n)
    starts_stmt_of (Sign Print) = starts_allowed (table.print_form step names n) any n (not step) (starts_print_form n)
    starts_stmt_of (Sign Return) = starts_allowed (table.return_form step names n) any n (not step) (starts_return_form n)
    starts_stmt_of (Sign Add) = starts_allowed (table.add_form step names n) any n (not step) (starts_add_form n)
    starts_stmt_of (Sign Static) = starts_allowed (table.set_static step names n) any n (not step) (starts_set_static n)
    starts_stmt_of (Sign Me) = starts_allowed (table.set_self step names n) any n (not step) (starts_set_self n)
    starts_stmt_of (Name x) = starts_allowed (table.set_field step names n) any n (not step) (starts_set_field n)
    starts_stmt_of _ = λ k x xs h. absurd h

    -- where a form that needs a truth value has a sentence, it holds
    allowed_true : {A : Type 0} (a : Form A) (c : Bool) (k : ℕ) (x : A) (xs : List Token) → (allowed c n a).Is k x xs → c ≡ true
    allowed_true a true k x xs h = refl
    allowed_true a false k x xs h = absurd h

    begun_stmt : (t : Token) (k : ℕ) (x : Stmt) (xs : List Token) → (table.stmt_of step names n block t).Is k x xs → begins_stmt step names t ≡ true
    begun_stmt (Sign Let) k x xs h = refl
    begun_stmt (Sign For) k x xs h = refl
    begun_stmt (Sign If) k x xs h = refl
    begun_stmt (Sign Fail) k x xs h = refl
    begun_stmt (Sign Call) k x xs h = allowed_true (table.call_form step names n) step k x xs h
    begun_stmt (Sign Produce) k x xs h = allowed_true (table.produce_form step names n) step k x xs h
    begun_stmt (Sign Print) k x xs h = allowed_true (table.print_form step names n) (not step) k x xs h
    begun_stmt (Sign Return) k x xs h = allowed_true (table.return_form step names n) (not step) k x xs h
    begun_stmt (Sign Add) k x xs h = allowed_true (table.add_form step names n) (not step) k x xs h
    begun_stmt (Sign Static) k x xs h = allowed_true (table.set_static step names n) (not step) k x xs h
    begun_stmt (Sign Me) k x xs h = allowed_true (table.set_self step names n) (not step) k x xs h
    begun_stmt (Name w) k x xs h = allowed_true (table.set_field step names n) (not step) k x xs h
    begun_stmt _ k x xs h = absurd h

  stmts_apart : (t : Token) → begins_stmt step names t ≡ true → carries_stmt t ≡ false
  stmts_apart (Sign Else) h = cc
  stmts_apart _ h = refl

  module _ (n : ℕ) (block : Form (List Stmt)) (rb : Parser (List Stmt)) (right_block : Right block rb none) (starts_block : Starts (is OpenBlock) block) where
    right_stmt : Right (table.stmt step names n block) (rules.stmt step names n rb) carries_stmt
    unfolding table.stmt rules.stmt
    right_stmt = right_first n (table.stmt_of step names n block) (rules.stmt_by step names n rb) carries_stmt (λ k. refl) (right_stmt_of n block rb right_block starts_block) (starts_stmt_of n block)

    starts_stmt : Starts (begins_stmt step names) (table.stmt step names n block)
    unfolding table.stmt
    starts_stmt = starts_first (begins_stmt step names) n (table.stmt_of step names n block) (begun_stmt n block)

    right_stmts : Right (many (begins_stmt step names) (table.stmt step names n block)) (rules.stmts step names n rb) (λ t. carries_stmt t || begins_stmt step names t)
    unfolding rules.stmts
    right_stmts = right_more (begins_stmt step names) n (table.stmt step names n block) (rules.stmt step names n rb) carries_stmt right_stmt starts_stmt stmts_apart []

  right_block : (n : ℕ) → Right (table.block step names n) (rules.block step names n) none × Starts (is OpenBlock) (table.block step names n)
  unfolding table.block rules.block
  right_block zero = (right_nothing 0, (λ k x xs h. absurd h))
  right_block (suc n) =
      let r = right_block n in (
        right_then none (right_opened n OpenBlock) (λ _.
            right_till CloseBlock (λ t. carries_stmt t || begins_stmt step names t) none (right_stmts n (table.block step names n) (rules.block step names n) r.0 r.1) refl
            (λ c. starts_sign n CloseBlock (λ _. give c)) (λ c. right_then none (right_sign n CloseBlock none) (λ _. right_give c))),
        starts_sign (suc n) OpenBlock (λ _. many (begins_stmt step names) (table.stmt step names n (table.block step names n)) ⟫= λ c. sign n CloseBlock ⟫= λ _. give c),
      )

  pub right_body : (n : ℕ) → Right (table.body step names n) (rules.body step names n) (λ t. carries_stmt t || begins_stmt step names t)
  unfolding table.body rules.body
  right_body n = right_stmts n (table.block step names n) (rules.block step names n) (right_block n).0 (right_block n).1
