-- Statements that were read, all of whose names are right, are right.
use Rattle.std.proofs.Common.{◌≡◌, ℕ, zero, suc, Bool, true, false, List, [], ◌∷◌, ◌++◌, length, map, Ok, refl, sym, ◌∙◌}
use Rattle.std.specs.Prelude.{not, ◌&&◌, ◌==◌, Option, Some, None, slice_get}
use Rattle.std.specs.List.{list_all}
use Rattle.item_types.specs.declared.decl.Names.{Names}
use Rattle.item_types.specs.declared.decl.MethodSig.{MethodSig}
use Rattle.item_types.specs.declared.decl.RecorderDecl.{RecorderDecl}
use Rattle.item_types.specs.declared.step.StepDecl.{StepDecl}
use Rattle.lang_lexer.specs.declared.token.Mark.TheVariants.{Let, Produce, For, In, If, Else, Call, Fail, Me, Static, Add, Print, Return, Semi, Comma, Dot, Open, Close, OpenBlock, CloseBlock, Assign}
use Rattle.lang_lexer.specs.declared.token.Token.{Token}
use Rattle.lang_lexer.specs.declared.token.Token.TheVariants.{Sign, Name}
use Rattle.syntax_tree.specs.Undeclared.{no_number}
use Rattle.syntax_tree.specs.Naming.{place_of, item_number, recorder_number, methods_by, method_number}
use Rattle.syntax_tree.specs.Known.{Known, contains, produced, kind_is, carries_value, method_of, params_of, of_step, of_decl}
use Rattle.syntax_tree.specs.Right.{takes, is_right_expr, is_right_call, all_right, other_right, is_right_stmt, are_right}
use Rattle.syntax_tree.specs.declared.tree.Invoke.{Invoke}
use Rattle.syntax_tree.specs.declared.tree.Expr.{Expr}
use Rattle.syntax_tree.specs.declared.tree.Stmt.{Stmt}
use Rattle.syntax_tree.specs.declared.tree.Stmt.TheVariants as b
use Rattle.syntax_tree.proofs.CallerLemmas.{At, at_place, other_rights, right_let, right_letcall, right_callof, right_produce, right_for, right_failwith, right_print, right_return, right_add, right_setstatic, right_setself, right_setfield, right_if}
use Rattle.lang_grammar.specs.Place.{is}
use Rattle.lang_grammar.specs.Forms.{Form, give, sign, ◌⟫=◌, many, opening, listing}
use Rattle.lang_grammar.specs.Table as table
use Rattle.lang_grammar.specs.Sentence.{IsBody}
use Rattle.lang_grammar.proofs.CallerLemmas.{Holds, holds_nothing, holds_give, holds_form, holds_last, holds_sign, holds_name, holds_here, holds_first, holds_optional, holds_choose, holds_where, holds_opening, Parts, holds_more, holds_each}
use Rattle.lang_names.specs.Checked.{right, known, fitting, and_also, later}
use Rattle.lang_names.specs.Exprs.{told_of, all_checked, expr_right}
use Rattle.lang_names.specs.Stmts.{run, block_right, call_right, produce_right, other_right as other_checked, passing, names_right}
use Rattle.lang_names.specs.Names.{body_right, method_right, names_of_params}
use Rattle.lang_names.proofs.CallerLemmas.{both_left, both_right, is_known, is_fitting, known_number, leaves_right, Went, went, Ends, ends, passes_let, passes_letcall, passes_callof, passes_produce, passes_for, passes_failwith, passes_print, passes_return, passes_add, passes_setstatic, passes_setself, passes_setfield, others, passes_if}
use Rattle.step_lang.proofs.Trees.{and_true, all_mapped, Tree, Each, holds_listed}
use Rattle.step_lang.proofs.RightExprs.{Fine, holds_expr, holds_inner}

-- ---- methods that are declared

record Declared (o : Option MethodSig) : Type 0 where
  found : MethodSig
  is : o ≡ Some found

method_at : (o : Option RecorderDecl) (m : List ℕ) → (place_of (λ (x : MethodSig). x.name) 0 (methods_by o) m == no_number) ≡ false → Declared (method_of o (place_of (λ (x : MethodSig). x.name) 0 (methods_by o) m))
method_at None m some = absurd cc
method_at (Some d) m some = let h : At (λ (x : MethodSig). x.name) d.methods m (place_of (λ (x : MethodSig). x.name) 0 d.methods m) = at_place (λ (x : MethodSig). x.name) d.methods m some in record { found = h.x; is = h.gets }

takes_is : (o : Option MethodSig) (count : ℕ) → Declared o → (params_of o == count) ≡ true → takes o count ≡ true
takes_is None count h g = absurd (let e = h.is in cc)
takes_is (Some m) count h g = g

module _ (step : Bool) (k : Known) where
  abbrev ok : Expr → Bool
  ok = is_right_expr step k

  abbrev FineExpr : Expr → Type 0
  FineExpr x = (s : List (List ℕ)) → Fine step k s x

  abbrev FineStmt : Stmt → Type 0
  FineStmt x = (s t : List (List ℕ)) → passing k x s ≡ Ok t → is_right_stmt step k x ≡ true

  abbrev StmtTree : Stmt → List Token → Type 0
  StmtTree = Tree FineStmt

  abbrev FineCall : Invoke → Type 0
  FineCall c = (s : List (List ℕ)) → call_right k s c ≡ right → is_right_call step k c ≡ true

  abbrev all_ok : List Stmt → Bool
  all_ok c = all_right step k (map (is_right_stmt step k) c)

  abbrev FineBlock : List Stmt → Type 0
  FineBlock c = (s : List (List ℕ)) → block_right (map (passing k) c) s ≡ right → all_ok c ≡ true

  abbrev FineOther : Option (List Stmt) → Type 0
  FineOther o = (s : List (List ℕ)) → other_checked (others k o) s ≡ right → other_right step k (other_rights step k o) ≡ true

  fine_expr : (n : ℕ) → Holds (table.expr step k.names n) (Tree FineExpr)
  fine_expr n = holds_each (λ s. holds_expr step k s n)

  fine_inner : (n : ℕ) → Holds (table.inner step k.names n) (Tree FineExpr)
  fine_inner n = holds_each (λ s. holds_inner step k s n)

  holds_value : {B : Type 0} {P : B → Type 0} (n : ℕ) (f : Expr → B) → ((v : Expr) → FineExpr v → P (f v)) → Holds (table.expr step k.names n ⟫= λ v. sign n Semi ⟫= λ _. give (f v)) (Tree P)
  holds_value n f h = holds_form (fine_expr n) (λ v us q. holds_sign n Semi (λ _. holds_give (f v) (h v q)))

  -- ---- calls

  args_right : (s : List (List ℕ)) (args : List Expr) → Each FineExpr args → all_checked (map (told_of k) args) s ≡ right → list_all ok args ≡ true
  args_right s [] h g = refl
  args_right s (x ∷ xs) h g =
      and_true (ok x) (list_all ok xs) ((h.0 s).1 (both_left ((told_of k x).check s) (all_checked (map (told_of k) xs) s) g))
      (args_right s xs h.1 (both_right ((told_of k x).check s) (all_checked (map (told_of k) xs) s) g))

  module _ (at : ℕ) (r m : List ℕ) (args : List Expr) where
    abbrev call : Invoke
    call = record { at = at; recorder = recorder_number k.names r; method = method_number k.names r m; args = args }

    abbrev callee : Option MethodSig
    callee = method_of (slice_get k.names.recorders (recorder_number k.names r)) (method_number k.names r m)

    call_is : step ≡ true → Each FineExpr args → FineCall call
    call_is e q s g =
        let h2 = both_right (fitting k.records at) _ g in
        let h3 = both_right (known (not (recorder_number k.names r == no_number)) (later at 1)) _ h2 in
        let h4 = both_right (known (not (method_number k.names r m == no_number)) (later at 3)) _ h3 in
        let km : (method_number k.names r m == no_number) ≡ false = known_number (method_number k.names r m) (later at 3) (both_left _ _ h3) in
        let count : (params_of callee == length args) ≡ true = is_fitting (params_of callee == length args) (later at 3) (both_left _ _ h4) in
        and_true (step && k.records && takes callee (length args)) (list_all ok args)
        (and_true (step && k.records) (takes callee (length args)) (and_true step k.records e (is_fitting k.records at (both_left _ _ g)))
        (takes_is callee (length args) (method_at (slice_get k.names.recorders (recorder_number k.names r)) m km) count))
        (args_right s args q (both_right _ _ h4))

  holds_arguments : (n : ℕ) → Holds (opening n Open (λ j _. listing j Close (table.inner step k.names n))) (λ args zs. Each FineExpr args)
  holds_arguments n = holds_opening n Open (λ j _. holds_listed FineExpr j Close (fine_inner n))

  holds_invoke : step ≡ true → (n : ℕ) → Holds (table.invoke step k.names n) (Tree FineCall)
  unfolding table.invoke
  holds_invoke e n =
      holds_sign n Call (λ at.
      holds_name n (λ r.
      holds_sign n Dot (λ _.
      holds_name n (λ m.
      holds_last {B = Invoke} {Q = λ args zs. Each FineExpr args} (λ args. record { at = at; recorder = recorder_number k.names r; method = method_number k.names r m; args = args }) (holds_arguments n) (λ args zs q. call_is at r m args e q)))))

  -- ---- statements without blocks

  let_is : (at : ℕ) (x : List ℕ) (v : Expr) → FineExpr v → FineStmt (b.Let at x v)
  let_is at x v q s t g = right_let step k at x v ∙ (q s).1 (leaves_right (expr_right k s v) (s ++ x ∷ []) t (sym (passes_let k s at x v) ∙ g))

  let_call_is : (at : ℕ) (x : List ℕ) (c : Invoke) → FineCall c → FineStmt (b.LetCall at x c)
  let_call_is at x c q s t g = right_letcall step k at x c ∙ q s (leaves_right (call_right k s c) (s ++ x ∷ []) t (sym (passes_letcall k s at x c) ∙ g))

  holds_let_behind : (a : Bool) → step ≡ a → (n at : ℕ) (x : List ℕ) → Holds (table.let_behind step k.names a n at x) StmtTree
  holds_let_behind true e n at x =
      holds_choose (is Call)
      (holds_form (holds_invoke e n) (λ c us q. holds_sign n Semi (λ _. holds_give (b.LetCall at x c) (let_call_is at x c q))))
      (holds_value {P = FineStmt} n (λ v. b.Let at x v) (let_is at x))
  holds_let_behind false e n at x = holds_value {P = FineStmt} n (λ v. b.Let at x v) (let_is at x)

  holds_let : (n : ℕ) → Holds (table.let_form step k.names n) StmtTree
  unfolding table.let_form
  holds_let n = holds_sign n Let (λ at. holds_name n (λ x. holds_sign n Assign (λ _. holds_let_behind step refl n at x)))

  holds_call : step ≡ true → (n : ℕ) → Holds (table.call_form step k.names n) StmtTree
  unfolding table.call_form
  holds_call e n =
      holds_form (holds_invoke e n) (λ c us q.
      holds_sign n Semi (λ _. holds_give (b.CallOf c) (λ s t g. right_callof step k c ∙ q s (leaves_right (call_right k s c) s t (sym (passes_callof k s c) ∙ g)))))

  produce_is : step ≡ true → (at item : ℕ) (v : Expr) → FineExpr v → FineStmt (b.Produce at item v)
  produce_is e at item v q s t g =
      let h1 : produce_right k s at item v ≡ right = leaves_right (produce_right k s at item v) s t (sym (passes_produce k s at item v) ∙ g) in
      let h2 = both_right (known (not (item == no_number)) (later at 1)) _ h1 in
      let h3 = both_right (fitting (produced k.produces item) (later at 1)) _ h2 in
      right_produce step k at item v
      ∙ and_true (step && produced k.produces item && kind_is carries_value (slice_get k.names.items item)) (ok v)
      (and_true (step && produced k.produces item) (kind_is carries_value (slice_get k.names.items item))
      (and_true step (produced k.produces item) e (is_fitting (produced k.produces item) (later at 1) (both_left _ _ h2)))
      (is_fitting (kind_is carries_value (slice_get k.names.items item)) (later at 1) (both_left _ _ h3)))
      ((q s).1 (both_right _ _ h3))

  holds_produce : step ≡ true → (n : ℕ) → Holds (table.produce_form step k.names n) StmtTree
  unfolding table.produce_form
  holds_produce e n =
      holds_sign n Produce (λ at.
      holds_name n (λ w.
      holds_form {Q = Tree FineExpr} (holds_opening n Open (λ m _. holds_form (fine_inner n) (λ v us q. holds_sign m Close (λ _. holds_give v q)))) (λ v zs q.
      holds_sign n Semi (λ _. holds_give (b.Produce at (item_number k.names w) v) (produce_is e at (item_number k.names w) v q)))))

  holds_fail : (n : ℕ) → Holds (table.fail_form step k.names n) StmtTree
  unfolding table.fail_form
  holds_fail n = holds_sign n Fail (λ at. holds_value {P = FineStmt} n (λ v. b.FailWith at v) (λ v q s t g. right_failwith step k at v ∙ (q s).1 (leaves_right (expr_right k s v) s t (sym (passes_failwith k s at v) ∙ g))))

  holds_print : not step ≡ true → (n : ℕ) → Holds (table.print_form step k.names n) StmtTree
  unfolding table.print_form
  holds_print e n =
      holds_sign n Print (λ at. holds_value {P = FineStmt} n (λ v. b.Print at v) (λ v q s t g. right_print step k at v ∙ and_true (not step) (ok v) e ((q s).1 (leaves_right (expr_right k s v) s t (sym (passes_print k s at v) ∙ g)))))

  holds_return : not step ≡ true → (n : ℕ) → Holds (table.return_form step k.names n) StmtTree
  unfolding table.return_form
  holds_return e n =
      holds_sign n Return (λ at. holds_value {P = FineStmt} n (λ v. b.Return at v) (λ v q s t g. right_return step k at v ∙ and_true (not step) (ok v) e ((q s).1 (leaves_right (expr_right k s v) s t (sym (passes_return k s at v) ∙ g)))))

  abbrev FinePair : Expr × Expr → Type 0
  FinePair z = FineExpr z.0 × FineExpr z.1

  holds_pair : (n : ℕ) → Holds (table.pair step k.names n) (Tree FinePair)
  unfolding table.pair
  holds_pair n =
      holds_opening n Open (λ m _.
      holds_form (fine_inner n) (λ l us p.
      holds_sign m Comma (λ _.
      holds_form (fine_inner n) (λ v vs q.
      holds_sign m Close (λ _. holds_give {A = Expr × Expr} (l, v) (p, q))))))

  add_is : not step ≡ true → (at : ℕ) (l v : Expr) → FineExpr l → FineExpr v → FineStmt (b.Add at l v)
  add_is e at l v p q s t g =
      let h : and_also (expr_right k s l) (expr_right k s v) ≡ right = leaves_right (and_also (expr_right k s l) (expr_right k s v)) s t (sym (passes_add k s at l v) ∙ g) in
      right_add step k at l v
      ∙ and_true (not step && ok l) (ok v) (and_true (not step) (ok l) e ((p s).1 (both_left (expr_right k s l) (expr_right k s v) h))) ((q s).1 (both_right (expr_right k s l) (expr_right k s v) h))

  holds_add : not step ≡ true → (n : ℕ) → Holds (table.add_form step k.names n) StmtTree
  unfolding table.add_form
  holds_add e n = holds_sign n Add (λ at. holds_form (holds_pair n) (λ z zs q. holds_sign n Semi (λ _. holds_give (b.Add at z.0 z.1) (add_is e at z.0 z.1 q.0 q.1))))

  -- ---- assignments

  holds_assigned : (n : ℕ) → Holds (table.assigned step k.names n) (Tree FineExpr)
  unfolding table.assigned
  holds_assigned n = holds_sign n Assign (λ _. holds_value {P = FineExpr} n (λ v. v) (λ v q. q))

  holds_set_static : not step ≡ true → (n : ℕ) → Holds (table.set_static step k.names n) StmtTree
  unfolding table.set_static
  holds_set_static e n =
      holds_sign n Static (λ at.
      holds_sign n Dot (λ _.
      holds_name n (λ f.
      holds_last {Q = Tree FineExpr} (λ v. b.SetStatic at f v) (holds_assigned n) (λ v zs q s t g.
      let h : and_also (known (contains k.statics f) (later at 2)) (expr_right k s v) ≡ right = leaves_right (and_also (known (contains k.statics f) (later at 2)) (expr_right k s v)) s t (sym (passes_setstatic k s at f v) ∙ g) in
      right_setstatic step k at f v
      ∙ and_true (not step && contains k.statics f) (ok v) (and_true (not step) (contains k.statics f) e (is_known (contains k.statics f) (later at 2) (both_left _ _ h)))
      ((q s).1 (both_right (known (contains k.statics f) (later at 2)) (expr_right k s v) h))))))

  holds_set_self : not step ≡ true → (n : ℕ) → Holds (table.set_self step k.names n) StmtTree
  unfolding table.set_self
  holds_set_self e n =
      holds_sign n Me (λ at.
      holds_sign n Dot (λ dot.
      holds_name n (λ f.
      holds_last {Q = Tree FineExpr} (λ v. b.SetSelf at dot f v) (holds_assigned n) (λ v zs q s t g.
      let h : and_also (known (contains k.fields f) (later dot 1)) (expr_right k s v) ≡ right = leaves_right (and_also (known (contains k.fields f) (later dot 1)) (expr_right k s v)) s t (sym (passes_setself k s at dot f v) ∙ g) in
      right_setself step k at dot f v
      ∙ and_true (not step && contains k.fields f) (ok v) (and_true (not step) (contains k.fields f) e (is_known (contains k.fields f) (later dot 1) (both_left _ _ h)))
      ((q s).1 (both_right (known (contains k.fields f) (later dot 1)) (expr_right k s v) h))))))

  holds_set_field : not step ≡ true → (n : ℕ) → Holds (table.set_field step k.names n) StmtTree
  unfolding table.set_field
  holds_set_field e n =
      holds_here (λ at.
      holds_name n (λ x.
      holds_sign n Dot (λ dot.
      holds_name n (λ f.
      holds_last {Q = Tree FineExpr} (λ v. b.SetField at dot x f v) (holds_assigned n) (λ v zs q s t g.
      let h : and_also (known (contains s x) at) (expr_right k s v) ≡ right = leaves_right (and_also (known (contains s x) at) (expr_right k s v)) s t (sym (passes_setfield k s at dot x f v) ∙ g) in
      right_setfield step k at dot x f v ∙ and_true (not step) (ok v) e ((q s).1 (both_right (known (contains s x) at) (expr_right k s v) h)))))))

  -- ---- statements with blocks

  module _ (block : Form (List Stmt)) (fine : Holds block (Tree FineBlock)) where
    for_is : (at : ℕ) (x : List ℕ) (l : Expr) (c : List Stmt) → FineExpr l → FineBlock c → FineStmt (b.For at x l c)
    for_is at x l c p q s t g =
        let h : and_also (expr_right k s l) (block_right (map (passing k) c) (s ++ x ∷ [])) ≡ right = leaves_right (and_also (expr_right k s l) (block_right (map (passing k) c) (s ++ x ∷ []))) s t (sym (passes_for k s at x l c) ∙ g) in
        right_for step k at x l c
        ∙ and_true (ok l) (all_ok c) ((p s).1 (both_left (expr_right k s l) (block_right (map (passing k) c) (s ++ x ∷ [])) h))
        (q (s ++ x ∷ []) (both_right (expr_right k s l) (block_right (map (passing k) c) (s ++ x ∷ [])) h))

    holds_for : (n : ℕ) → Holds (table.for_form step k.names n block) StmtTree
    unfolding table.for_form
    holds_for n =
        holds_sign n For (λ at.
        holds_name n (λ x.
        holds_sign n In (λ _.
        holds_form (fine_expr n) (λ l us p.
        holds_last {Q = Tree FineBlock} (λ c. b.For at x l c) fine (λ c vs q. for_is at x l c p q)))))

    holds_other : (n : ℕ) → Holds (table.other step k.names n block) (Tree FineOther)
    unfolding table.other
    holds_other n = holds_optional (is Else) None (holds_sign n Else (λ _. holds_last {Q = Tree FineBlock} (λ c. Some c) fine (λ c us q. q))) (λ s g. refl)

    if_is : (at : ℕ) (x : Expr) (c : List Stmt) (o : Option (List Stmt)) → FineExpr x → FineBlock c → FineOther o → FineStmt (b.If at x c o)
    if_is at x c o p q r s t g =
        let h : and_also (and_also (expr_right k s x) (block_right (map (passing k) c) s)) (other_checked (others k o) s) ≡ right =
        leaves_right (and_also (and_also (expr_right k s x) (block_right (map (passing k) c) s)) (other_checked (others k o) s)) s t (sym (passes_if k s at x c o) ∙ g) in
        let l : and_also (expr_right k s x) (block_right (map (passing k) c) s) ≡ right = both_left (and_also (expr_right k s x) (block_right (map (passing k) c) s)) (other_checked (others k o) s) h in
        right_if step k at x c o
        ∙ and_true (ok x && all_ok c) (other_right step k (other_rights step k o))
        (and_true (ok x) (all_ok c) ((p s).1 (both_left (expr_right k s x) (block_right (map (passing k) c) s) l)) (q s (both_right (expr_right k s x) (block_right (map (passing k) c) s) l)))
        (r s (both_right (and_also (expr_right k s x) (block_right (map (passing k) c) s)) (other_checked (others k o) s) h))

    holds_if : (n : ℕ) → Holds (table.if_form step k.names n block) StmtTree
    unfolding table.if_form
    holds_if n =
        holds_sign n If (λ at.
        holds_form (fine_expr n) (λ x us p.
        holds_form fine (λ c vs q.
        holds_last {Q = Tree FineOther} (λ o. b.If at x c o) (holds_other n) (λ o ws r. if_is at x c o p q r))))

    holds_stmt_of : (n : ℕ) (t : Token) → Holds (table.stmt_of step k.names n block t) StmtTree
    holds_stmt_of n (Sign Let) = holds_let n
    holds_stmt_of n (Sign For) = holds_for n
    holds_stmt_of n (Sign If) = holds_if n
    holds_stmt_of n (Sign Fail) = holds_fail n
    holds_stmt_of n (Sign Call) = holds_where step n (λ e. holds_call e n)
    holds_stmt_of n (Sign Produce) = holds_where step n (λ e. holds_produce e n)
    holds_stmt_of n (Sign Print) = holds_where (not step) n (λ e. holds_print e n)
    holds_stmt_of n (Sign Return) = holds_where (not step) n (λ e. holds_return e n)
    holds_stmt_of n (Sign Add) = holds_where (not step) n (λ e. holds_add e n)
    holds_stmt_of n (Sign Static) = holds_where (not step) n (λ e. holds_set_static e n)
    holds_stmt_of n (Sign Me) = holds_where (not step) n (λ e. holds_set_self e n)
    holds_stmt_of n (Name x) = holds_where (not step) n (λ e. holds_set_field e n)
    holds_stmt_of n _ = holds_nothing n

    holds_stmt : (n : ℕ) → Holds (table.stmt step k.names n block) StmtTree
    unfolding table.stmt
    holds_stmt n = holds_first n (holds_stmt_of n)

  -- ---- statements one behind the other

  run_is : (c : List Stmt) (zs : List Token) → Parts StmtTree c zs → (s t : List (List ℕ)) → run (map (passing k) c) s ≡ Ok t → all_ok c ≡ true
  run_is [] zs h s t g = refl
  run_is (x ∷ xs) zs h s t g =
      let w : Went (passing k x s) (run (map (passing k) xs)) t = went (passing k x s) (run (map (passing k) xs)) t g in
      and_true (is_right_stmt step k x) (all_ok xs) (h.3 s w.u w.first) (run_is xs h.1 h.4 w.u t w.then)

  body_is : (c : List Stmt) (zs : List Token) → Parts StmtTree c zs → FineBlock c
  body_is c zs h s g = let d : Ends (run (map (passing k) c) s) = ends (run (map (passing k) c) s) g in run_is c zs h s d.u d.is

  holds_many : (n : ℕ) (block : Form (List Stmt)) → Holds block (Tree FineBlock) → Holds (many (table.begins_stmt step k.names) (table.stmt step k.names n block)) (Tree FineBlock)
  holds_many n block fine = holds_more {Q = StmtTree} (table.begins_stmt step k.names) [] (holds_stmt block fine n) body_is

  holds_block : (n : ℕ) → Holds (table.block step k.names n) (Tree FineBlock)
  unfolding table.block
  holds_block zero = holds_nothing 0
  holds_block (suc n) = holds_sign (suc n) OpenBlock (λ _. holds_form {Q = Tree FineBlock} (holds_many n (table.block step k.names n) (holds_block n)) (λ c us q. holds_sign n CloseBlock (λ _. holds_give c q)))

  holds_body : (n : ℕ) → Holds (table.body step k.names n) (Tree FineBlock)
  unfolding table.body
  holds_body n = holds_many n (table.block step k.names n) (holds_block n)

  whole : (s : List (List ℕ)) (n : ℕ) (c : List Stmt) (xs : List Token) → IsBody step k.names n c xs → names_right k s c ≡ right → are_right step k c ≡ true
  whole s n c xs h g = all_mapped (is_right_stmt step k) c ((holds_body n).all 0 c xs h s g)

pub right_body : (names : Names) (decl : StepDecl) (n : ℕ) (c : List Stmt) (xs : List Token) → IsBody true names n c xs → body_right names decl c ≡ right → are_right true (of_step names decl) c ≡ true
right_body names decl n c xs h g = whole true (of_step names decl) [] n c xs h g

by_recorder : (names : Names) (o : Option RecorderDecl) (s : List (List ℕ)) (n : ℕ) (c : List Stmt) (xs : List Token) → IsBody false names n c xs → names_right (of_decl names o) s c ≡ right → are_right false (of_decl names o) c ≡ true
by_recorder names None s n c xs h g = whole false (of_decl names None) s n c xs h g
by_recorder names (Some d) s n c xs h g = whole false (of_decl names (Some d)) s n c xs h g

pub right_method : (names : Names) (recorder method n : ℕ) (c : List Stmt) (xs : List Token) → IsBody false names n c xs → method_right names recorder method c ≡ right → are_right false (of_decl names (slice_get names.recorders recorder)) c ≡ true
right_method names recorder method n c xs h g = by_recorder names (slice_get names.recorders recorder) (names_of_params (method_of (slice_get names.recorders recorder) method)) n c xs h g
