-- The tokens of statements that were read, all of whose names are right, are those they were read from.
use Rattle.std.proofs.Common.{◌≡◌, ℕ, zero, suc, Bool, true, false, List, [], ◌∷◌, ◌++◌, map, Ok, refl, sym, ap, ◌∙◌, append_assoc}
use Rattle.std.specs.Prelude.{not, ◌==◌, Option, Some, None, slice_get}
use Rattle.item_types.specs.declared.decl.Names.{Names}
use Rattle.item_types.specs.declared.decl.RecorderDecl.{RecorderDecl}
use Rattle.item_types.specs.declared.step.StepDecl.{StepDecl}
use Rattle.lang_names.specs.Names.{body_right, method_right, names_of_params}
use Rattle.lang_lexer.specs.declared.token.Mark.TheVariants.{Let, Produce, For, In, If, Else, Call, Fail, Me, Static, Add, Print, Return, Semi, Comma, Dot, Open, Close, OpenBlock, CloseBlock, Assign}
use Rattle.lang_lexer.specs.declared.token.Token.{Token}
use Rattle.lang_lexer.specs.declared.token.Token.TheVariants.{Sign, Name}
use Rattle.syntax_tree.specs.declared.tree.Invoke.{Invoke}
use Rattle.syntax_tree.specs.declared.tree.Expr.{Expr}
use Rattle.syntax_tree.specs.declared.tree.Stmt.{Stmt}
use Rattle.syntax_tree.specs.declared.tree.Stmt.TheVariants as b
use Rattle.lang_grammar.specs.Place.{is}
use Rattle.syntax_tree.specs.Naming.{item_number, recorder_number, method_number}
use Rattle.lang_grammar.specs.Forms.{Form, give, sign, ◌⟫=◌, many, opening, listing}
use Rattle.lang_grammar.specs.Table as table
use Rattle.lang_grammar.specs.Sentence.{IsBody}
use Rattle.lang_names.specs.Checked.{right, later, known, fitting, and_also}
use Rattle.syntax_tree.specs.Undeclared.{no_number}
use Rattle.syntax_tree.specs.Known.{Known, contains, of_step, of_decl, method_of}
use Rattle.lang_names.specs.Exprs.{expr_right}
use Rattle.lang_names.specs.Stmts.{run, block_right, call_right, produce_right, other_right, passing, names_right}
use Rattle.lang_print.specs.Naming.{method_name}
use Rattle.lang_print.specs.Tokens.{parted, together, expr_tokens, call_tokens, block_tokens, other_of, stmt_tokens, body_tokens}
use Rattle.lang_names.proofs.CallerLemmas.{leaves_right, Went, went, Ends, ends, both_left, both_right, known_number, passes_let, passes_letcall, passes_callof, passes_produce, passes_for, passes_failwith, passes_print, passes_return, passes_add, passes_setstatic, passes_setself, passes_setfield, others, passes_if}
use Rattle.lang_grammar.proofs.CallerLemmas.{Holds, holds_nothing, holds_give, holds_form, holds_last, holds_sign, holds_name, holds_here, holds_first, holds_optional, holds_choose, holds_allowed, holds_opening, Parts, holds_more, holds_each}
use Rattle.lang_round.proofs.Holding.{AllGood, holds_listing}
use Rattle.lang_round.proofs.Placed.{item_named, recorder_named, method_named}
use Rattle.lang_round.proofs.Exprs.{Good, all_good, holds_expr, holds_inner}
use Rattle.lang_round.proofs.Unfolded.{tokens_let, tokens_letcall, tokens_callof, tokens_produce, tokens_for, tokens_failwith, tokens_print, tokens_return, tokens_add, tokens_setstatic, tokens_setself, tokens_setfield, tokens_if}

module _ (step : Bool) (k : Known) where
  abbrev pr : Expr → List Token
  pr = expr_tokens k.names

  abbrev prs : Stmt → List Token
  prs = stmt_tokens k.names

  -- its names are right in some scope
  abbrev Fine : Expr → List Token → Type 0
  Fine x us = (s : List (List ℕ)) → expr_right k s x ≡ right → pr x ≡ us

  abbrev FineStmt : Stmt → List Token → Type 0
  FineStmt x us = (s t : List (List ℕ)) → passing k x s ≡ Ok t → prs x ≡ us

  abbrev FineCall : Invoke → List Token → Type 0
  FineCall c us = (s : List (List ℕ)) → call_right k s c ≡ right → call_tokens k.names c ≡ us

  abbrev FineBlock : List Stmt → List Token → Type 0
  FineBlock c us = (s : List (List ℕ)) → block_right (map (passing k) c) s ≡ right → block_tokens (map prs c) ≡ us

  abbrev FineOther : Option (List Stmt) → List Token → Type 0
  FineOther o us = (s : List (List ℕ)) → other_right (others k o) s ≡ right → other_of k.names o ≡ us

  fine_expr : (n : ℕ) → Holds (table.expr step k.names n) Fine
  fine_expr n = holds_each (λ s. holds_expr step k s n)

  fine_inner : (n : ℕ) → Holds (table.inner step k.names n) Fine
  fine_inner n = holds_each (λ s. holds_inner step k s n)

  holds_value : {B : Type 0} {P : B → List Token → Type 0} (n : ℕ) (f : Expr → B) → ((v : Expr) (us : List Token) → Fine v us → P (f v) (us ++ Sign Semi ∷ [])) → Holds (table.expr step k.names n ⟫= λ v. sign n Semi ⟫= λ _. give (f v)) P
  holds_value n f h = holds_form (fine_expr n) (λ v us q. holds_sign n Semi (λ _. holds_give (f v) (h v us q)))

  -- ---- calls

  abbrev Arguments : List (List ℕ) → List Expr → List Token → Type 0
  Arguments s args zs = AllGood (Good step k s) pr args → Sign Open ∷ (parted Comma false (map pr args) ++ Sign Close ∷ []) ≡ zs

  holds_arguments : (n : ℕ) → Holds (opening n Open (λ j _. listing j Close (table.inner step k.names n))) (λ args zs. (s : List (List ℕ)) → Arguments s args zs)
  holds_arguments n = holds_each {P = Arguments} (λ s. holds_opening n Open (λ j _. holds_listing (Good step k s) pr j Close (holds_inner step k s n) (λ ys zs q g. ap (λ w. Sign Open ∷ w) (q g))))

  module _ (at : ℕ) (r m : List ℕ) (args : List Expr) where
    abbrev call : Invoke
    call = record { at = at; recorder = recorder_number k.names r; method = method_number k.names r m; args = args }

    call_is : (zs : List Token) → ((s : List (List ℕ)) → Arguments s args zs) → FineCall call (Sign Call ∷ Name r ∷ Sign Dot ∷ Name m ∷ zs)
    call_is zs q s g =
        let h2 = both_right (fitting k.records at) _ g in
        let h3 = both_right (known (not (recorder_number k.names r == no_number)) (later at 1)) _ h2 in
        let h4 = both_right (known (not (method_number k.names r m == no_number)) (later at 3)) _ h3 in
        let kr : (recorder_number k.names r == no_number) ≡ false = known_number (recorder_number k.names r) (later at 1) (both_left _ _ h2) in
        let km : (method_number k.names r m == no_number) ≡ false = known_number (method_number k.names r m) (later at 3) (both_left _ _ h3) in
        ap (λ x. Sign Call ∷ Name x ∷ Sign Dot ∷ Name (method_name k.names (recorder_number k.names r) (method_number k.names r m)) ∷ Sign Open ∷ (parted Comma false (map pr args) ++ Sign Close ∷ [])) (recorder_named k.names r kr)
        ∙ ap (λ x. Sign Call ∷ Name r ∷ Sign Dot ∷ Name x ∷ Sign Open ∷ (parted Comma false (map pr args) ++ Sign Close ∷ [])) (method_named k.names r m km)
        ∙ ap (λ x. Sign Call ∷ Name r ∷ Sign Dot ∷ Name m ∷ x) (q s (all_good step k s args (both_right _ _ h4)))

  holds_invoke : (n : ℕ) → Holds (table.invoke step k.names n) FineCall
  unfolding table.invoke
  holds_invoke n =
      holds_sign n Call (λ at.
      holds_name n (λ r.
      holds_sign n Dot (λ _.
      holds_name n (λ m.
      holds_last {B = Invoke} (λ args. record { at = at; recorder = recorder_number k.names r; method = method_number k.names r m; args = args }) (holds_arguments n) (λ args zs q. call_is at r m args zs q)))))

  -- ---- statements without blocks

  let_is : (at : ℕ) (x : List ℕ) (v : Expr) (us : List Token) → Fine v us → FineStmt (b.Let at x v) (Sign Let ∷ Name x ∷ Sign Assign ∷ (us ++ Sign Semi ∷ []))
  let_is at x v us q s t g = tokens_let k at x v ∙ ap (λ w. Sign Let ∷ Name x ∷ Sign Assign ∷ (w ++ Sign Semi ∷ [])) (q s (leaves_right (expr_right k s v) (s ++ x ∷ []) t (sym (passes_let k s at x v) ∙ g)))

  let_call_is : (at : ℕ) (x : List ℕ) (c : Invoke) (us : List Token) → FineCall c us → FineStmt (b.LetCall at x c) (Sign Let ∷ Name x ∷ Sign Assign ∷ (us ++ Sign Semi ∷ []))
  let_call_is at x c us q s t g = tokens_letcall k at x c ∙ ap (λ w. Sign Let ∷ Name x ∷ Sign Assign ∷ (w ++ Sign Semi ∷ [])) (q s (leaves_right (call_right k s c) (s ++ x ∷ []) t (sym (passes_letcall k s at x c) ∙ g)))

  holds_let_behind : (a : Bool) (n at : ℕ) (x : List ℕ) → Holds (table.let_behind step k.names a n at x) (λ y ys. FineStmt y (Sign Let ∷ Name x ∷ Sign Assign ∷ ys))
  holds_let_behind true n at x =
      holds_choose (is Call)
      (holds_form (holds_invoke n) (λ c us q. holds_sign n Semi (λ _. holds_give (b.LetCall at x c) (let_call_is at x c us q))))
      (holds_value n (λ v. b.Let at x v) (let_is at x))
  holds_let_behind false n at x = holds_value n (λ v. b.Let at x v) (let_is at x)

  holds_let : (n : ℕ) → Holds (table.let_form step k.names n) FineStmt
  unfolding table.let_form
  holds_let n = holds_sign n Let (λ at. holds_name n (λ x. holds_sign n Assign (λ _. holds_let_behind step n at x)))

  holds_call : (n : ℕ) → Holds (table.call_form step k.names n) FineStmt
  unfolding table.call_form
  holds_call n =
      holds_form (holds_invoke n) (λ c us q.
      holds_sign n Semi (λ _.
      holds_give (b.CallOf c) (λ s t g. tokens_callof k c ∙ ap (λ w. w ++ Sign Semi ∷ []) (q s (leaves_right (call_right k s c) s t (sym (passes_callof k s c) ∙ g))))))

  produce_is : (at : ℕ) (w : List ℕ) (v : Expr) (zs : List Token) → ((s : List (List ℕ)) → expr_right k s v ≡ right → Sign Open ∷ (pr v ++ Sign Close ∷ []) ≡ zs)
      → FineStmt (b.Produce at (item_number k.names w) v) (Sign Produce ∷ Name w ∷ (zs ++ Sign Semi ∷ []))
  produce_is at w v zs q s t g =
      let h1 : produce_right k s at (item_number k.names w) v ≡ right = leaves_right (produce_right k s at (item_number k.names w) v) s t (sym (passes_produce k s at (item_number k.names w) v) ∙ g) in
      let ki : (item_number k.names w == no_number) ≡ false = known_number (item_number k.names w) (later at 1) (both_left _ _ h1) in
      let h2 = both_right (known (not (item_number k.names w == no_number)) (later at 1)) _ h1 in
      let kv : expr_right k s v ≡ right = both_right _ _ (both_right _ _ h2) in
      tokens_produce k at (item_number k.names w) v
      ∙ ap (λ x. Sign Produce ∷ Name x ∷ Sign Open ∷ (pr v ++ Sign Close ∷ Sign Semi ∷ [])) (item_named k.names w ki)
      ∙ ap (λ x. Sign Produce ∷ Name w ∷ Sign Open ∷ x) (sym (append_assoc (pr v) (Sign Close ∷ []) (Sign Semi ∷ [])))
      ∙ ap (λ x. Sign Produce ∷ Name w ∷ (x ++ Sign Semi ∷ [])) (q s kv)

  holds_produce : (n : ℕ) → Holds (table.produce_form step k.names n) FineStmt
  unfolding table.produce_form
  holds_produce n =
      holds_sign n Produce (λ at.
      holds_name n (λ w.
      holds_form {Q = λ v zs. (s : List (List ℕ)) → expr_right k s v ≡ right → Sign Open ∷ (pr v ++ Sign Close ∷ []) ≡ zs}
      (holds_opening n Open (λ m _. holds_form (fine_inner n) (λ v us q. holds_sign m Close (λ _. holds_give v (λ s g. ap (λ x. Sign Open ∷ (x ++ Sign Close ∷ [])) (q s g)))))) (λ v zs q.
      holds_sign n Semi (λ _. holds_give (b.Produce at (item_number k.names w) v) (produce_is at w v zs q)))))

  holds_fail : (n : ℕ) → Holds (table.fail_form step k.names n) FineStmt
  unfolding table.fail_form
  holds_fail n = holds_sign n Fail (λ at. holds_value n (λ v. b.FailWith at v) (λ v us q s t g. tokens_failwith k at v ∙ ap (λ w. Sign Fail ∷ (w ++ Sign Semi ∷ [])) (q s (leaves_right (expr_right k s v) s t (sym (passes_failwith k s at v) ∙ g)))))

  holds_print : (n : ℕ) → Holds (table.print_form step k.names n) FineStmt
  unfolding table.print_form
  holds_print n = holds_sign n Print (λ at. holds_value n (λ v. b.Print at v) (λ v us q s t g. tokens_print k at v ∙ ap (λ w. Sign Print ∷ (w ++ Sign Semi ∷ [])) (q s (leaves_right (expr_right k s v) s t (sym (passes_print k s at v) ∙ g)))))

  holds_return : (n : ℕ) → Holds (table.return_form step k.names n) FineStmt
  unfolding table.return_form
  holds_return n = holds_sign n Return (λ at. holds_value n (λ v. b.Return at v) (λ v us q s t g. tokens_return k at v ∙ ap (λ w. Sign Return ∷ (w ++ Sign Semi ∷ [])) (q s (leaves_right (expr_right k s v) s t (sym (passes_return k s at v) ∙ g)))))

  abbrev FinePair : Expr × Expr → List Token → Type 0
  FinePair z zs = (s : List (List ℕ)) → expr_right k s z.0 ≡ right → expr_right k s z.1 ≡ right → Sign Open ∷ (pr z.0 ++ Sign Comma ∷ (pr z.1 ++ Sign Close ∷ [])) ≡ zs

  holds_pair : (n : ℕ) → Holds (table.pair step k.names n) FinePair
  unfolding table.pair
  holds_pair n =
      holds_opening n Open (λ m _.
      holds_form (fine_inner n) (λ l us p.
      holds_sign m Comma (λ _.
      holds_form (fine_inner n) (λ v vs q.
      holds_sign m Close (λ _.
      holds_give {A = Expr × Expr} (l, v) (λ s f g. ap (λ x. Sign Open ∷ (x ++ Sign Comma ∷ (pr v ++ Sign Close ∷ []))) (p s f) ∙ ap (λ x. Sign Open ∷ (us ++ Sign Comma ∷ (x ++ Sign Close ∷ []))) (q s g)))))))

  add_is : (at : ℕ) (z : Expr × Expr) (zs : List Token) → FinePair z zs → FineStmt (b.Add at z.0 z.1) (Sign Add ∷ (zs ++ Sign Semi ∷ []))
  add_is at z zs q s t g =
      let h : and_also (expr_right k s z.0) (expr_right k s z.1) ≡ right = leaves_right (and_also (expr_right k s z.0) (expr_right k s z.1)) s t (sym (passes_add k s at z.0 z.1) ∙ g) in
      tokens_add k at z.0 z.1
      ∙ ap (λ x. Sign Add ∷ Sign Open ∷ (pr z.0 ++ Sign Comma ∷ x)) (sym (append_assoc (pr z.1) (Sign Close ∷ []) (Sign Semi ∷ [])))
      ∙ ap (λ x. Sign Add ∷ Sign Open ∷ x) (sym (append_assoc (pr z.0) (Sign Comma ∷ (pr z.1 ++ Sign Close ∷ [])) (Sign Semi ∷ [])))
      ∙ ap (λ x. Sign Add ∷ (x ++ Sign Semi ∷ [])) (q s (both_left (expr_right k s z.0) (expr_right k s z.1) h) (both_right (expr_right k s z.0) (expr_right k s z.1) h))

  holds_add : (n : ℕ) → Holds (table.add_form step k.names n) FineStmt
  unfolding table.add_form
  holds_add n = holds_sign n Add (λ at. holds_form (holds_pair n) (λ z zs q. holds_sign n Semi (λ _. holds_give (b.Add at z.0 z.1) (add_is at z zs q))))

  -- ---- assignments

  holds_assigned : (n : ℕ) → Holds (table.assigned step k.names n) (λ v zs. (s : List (List ℕ)) → expr_right k s v ≡ right → Sign Assign ∷ (pr v ++ Sign Semi ∷ []) ≡ zs)
  unfolding table.assigned
  holds_assigned n = holds_sign n Assign (λ _. holds_value n (λ v. v) (λ v us q s g. ap (λ w. Sign Assign ∷ (w ++ Sign Semi ∷ [])) (q s g)))

  holds_set_static : (n : ℕ) → Holds (table.set_static step k.names n) FineStmt
  unfolding table.set_static
  holds_set_static n =
      holds_sign n Static (λ at.
      holds_sign n Dot (λ _.
      holds_name n (λ f.
      holds_last (λ v. b.SetStatic at f v) (holds_assigned n) (λ v zs q s t g.
      tokens_setstatic k at f v
      ∙ ap (λ w. Sign Static ∷ Sign Dot ∷ Name f ∷ w)
      (q s (both_right (known (contains k.statics f) (later at 2)) (expr_right k s v) (leaves_right (and_also (known (contains k.statics f) (later at 2)) (expr_right k s v)) s t (sym (passes_setstatic k s at f v) ∙ g))))))))

  holds_set_self : (n : ℕ) → Holds (table.set_self step k.names n) FineStmt
  unfolding table.set_self
  holds_set_self n =
      holds_sign n Me (λ at.
      holds_sign n Dot (λ dot.
      holds_name n (λ f.
      holds_last (λ v. b.SetSelf at dot f v) (holds_assigned n) (λ v zs q s t g.
      tokens_setself k at dot f v
      ∙ ap (λ w. Sign Me ∷ Sign Dot ∷ Name f ∷ w)
      (q s (both_right (known (contains k.fields f) (later dot 1)) (expr_right k s v) (leaves_right (and_also (known (contains k.fields f) (later dot 1)) (expr_right k s v)) s t (sym (passes_setself k s at dot f v) ∙ g))))))))

  holds_set_field : (n : ℕ) → Holds (table.set_field step k.names n) FineStmt
  unfolding table.set_field
  holds_set_field n =
      holds_here (λ at.
      holds_name n (λ x.
      holds_sign n Dot (λ dot.
      holds_name n (λ f.
      holds_last (λ v. b.SetField at dot x f v) (holds_assigned n) (λ v zs q s t g.
      tokens_setfield k at dot x f v
      ∙ ap (λ w. Name x ∷ Sign Dot ∷ Name f ∷ w)
      (q s (both_right (known (contains s x) at) (expr_right k s v) (leaves_right (and_also (known (contains s x) at) (expr_right k s v)) s t (sym (passes_setfield k s at dot x f v) ∙ g)))))))))

  -- ---- statements with blocks

  module _ (block : Form (List Stmt)) (fine : Holds block FineBlock) where
    for_is : (at : ℕ) (x : List ℕ) (l : Expr) (c : List Stmt) (us vs : List Token) → Fine l us → FineBlock c vs → FineStmt (b.For at x l c) (Sign For ∷ Name x ∷ Sign In ∷ (us ++ vs))
    for_is at x l c us vs p q s t g =
        let h : and_also (expr_right k s l) (block_right (map (passing k) c) (s ++ x ∷ [])) ≡ right = leaves_right (and_also (expr_right k s l) (block_right (map (passing k) c) (s ++ x ∷ []))) s t (sym (passes_for k s at x l c) ∙ g) in
        tokens_for k at x l c
        ∙ ap (λ w. Sign For ∷ Name x ∷ Sign In ∷ (w ++ block_tokens (map prs c))) (p s (both_left (expr_right k s l) (block_right (map (passing k) c) (s ++ x ∷ [])) h))
        ∙ ap (λ w. Sign For ∷ Name x ∷ Sign In ∷ (us ++ w)) (q (s ++ x ∷ []) (both_right (expr_right k s l) (block_right (map (passing k) c) (s ++ x ∷ [])) h))

    holds_for : (n : ℕ) → Holds (table.for_form step k.names n block) FineStmt
    unfolding table.for_form
    holds_for n =
        holds_sign n For (λ at.
        holds_name n (λ x.
        holds_sign n In (λ _.
        holds_form (fine_expr n) (λ l us p.
        holds_last (λ c. b.For at x l c) fine (λ c vs q. for_is at x l c us vs p q)))))

    holds_other : (n : ℕ) → Holds (table.other step k.names n block) FineOther
    unfolding table.other
    holds_other n = holds_optional (is Else) None (holds_sign n Else (λ _. holds_last (λ c. Some c) fine (λ c us q s g. ap (λ w. Sign Else ∷ w) (q s g)))) (λ s g. refl)

    if_is : (at : ℕ) (x : Expr) (c : List Stmt) (o : Option (List Stmt)) (us vs ws : List Token) → Fine x us → FineBlock c vs → FineOther o ws → FineStmt (b.If at x c o) (Sign If ∷ (us ++ (vs ++ ws)))
    if_is at x c o us vs ws p q r s t g =
        let h : and_also (and_also (expr_right k s x) (block_right (map (passing k) c) s)) (other_right (others k o) s) ≡ right =
        leaves_right (and_also (and_also (expr_right k s x) (block_right (map (passing k) c) s)) (other_right (others k o) s)) s t (sym (passes_if k s at x c o) ∙ g) in
        let l : and_also (expr_right k s x) (block_right (map (passing k) c) s) ≡ right = both_left (and_also (expr_right k s x) (block_right (map (passing k) c) s)) (other_right (others k o) s) h in
        tokens_if k at x c o
        ∙ ap (λ w. Sign If ∷ w) (append_assoc (pr x) (block_tokens (map prs c)) (other_of k.names o))
        ∙ ap (λ w. Sign If ∷ (w ++ (block_tokens (map prs c) ++ other_of k.names o))) (p s (both_left (expr_right k s x) (block_right (map (passing k) c) s) l))
        ∙ ap (λ w. Sign If ∷ (us ++ (w ++ other_of k.names o))) (q s (both_right (expr_right k s x) (block_right (map (passing k) c) s) l))
        ∙ ap (λ w. Sign If ∷ (us ++ (vs ++ w))) (r s (both_right (and_also (expr_right k s x) (block_right (map (passing k) c) s)) (other_right (others k o) s) h))

    holds_if : (n : ℕ) → Holds (table.if_form step k.names n block) FineStmt
    unfolding table.if_form
    holds_if n =
        holds_sign n If (λ at.
        holds_form (fine_expr n) (λ x us p.
        holds_form fine (λ c vs q.
        holds_last (λ o. b.If at x c o) (holds_other n) (λ o ws r. if_is at x c o us vs ws p q r))))

    holds_stmt_of : (n : ℕ) (t : Token) → Holds (table.stmt_of step k.names n block t) FineStmt
    holds_stmt_of n (Sign Let) = holds_let n
    holds_stmt_of n (Sign For) = holds_for n
    holds_stmt_of n (Sign If) = holds_if n
    holds_stmt_of n (Sign Fail) = holds_fail n
    holds_stmt_of n (Sign Call) = holds_allowed step n (holds_call n)
    holds_stmt_of n (Sign Produce) = holds_allowed step n (holds_produce n)
    holds_stmt_of n (Sign Print) = holds_allowed (not step) n (holds_print n)
    holds_stmt_of n (Sign Return) = holds_allowed (not step) n (holds_return n)
    holds_stmt_of n (Sign Add) = holds_allowed (not step) n (holds_add n)
    holds_stmt_of n (Sign Static) = holds_allowed (not step) n (holds_set_static n)
    holds_stmt_of n (Sign Me) = holds_allowed (not step) n (holds_set_self n)
    holds_stmt_of n (Name x) = holds_allowed (not step) n (holds_set_field n)
    holds_stmt_of n _ = holds_nothing n

    holds_stmt : (n : ℕ) → Holds (table.stmt step k.names n block) FineStmt
    unfolding table.stmt
    holds_stmt n = holds_first n (holds_stmt_of n)

  -- ---- statements one behind the other

  abbrev FineBody : List Stmt → List Token → Type 0
  FineBody c us = (s : List (List ℕ)) → block_right (map (passing k) c) s ≡ right → body_tokens k.names c ≡ us

  run_is : (c : List Stmt) (zs : List Token) → Parts FineStmt c zs → (s t : List (List ℕ)) → run (map (passing k) c) s ≡ Ok t → together (map prs c) ≡ zs
  run_is [] zs h s t e = sym h
  run_is (x ∷ xs) zs h s t e =
      let w : Went (passing k x s) (run (map (passing k) xs)) t = went (passing k x s) (run (map (passing k) xs)) t e in
      ap (λ y. y ++ together (map prs xs)) (h.3 s w.u w.first) ∙ ap (λ y. h.0 ++ y) (run_is xs h.1 h.4 w.u t w.then) ∙ sym h.2

  body_is : (c : List Stmt) (zs : List Token) → Parts FineStmt c zs → FineBody c zs
  body_is c zs h s e = let d : Ends (run (map (passing k) c) s) = ends (run (map (passing k) c) s) e in run_is c zs h s d.u d.is

  holds_many : (n : ℕ) (block : Form (List Stmt)) → Holds block FineBlock → Holds (many (table.begins_stmt step k.names) (table.stmt step k.names n block)) FineBody
  holds_many n block fine = holds_more (table.begins_stmt step k.names) [] (holds_stmt block fine n) body_is

  holds_block : (n : ℕ) → Holds (table.block step k.names n) FineBlock
  unfolding table.block
  holds_block zero = holds_nothing 0
  holds_block (suc n) =
      holds_sign (suc n) OpenBlock (λ _.
      holds_form (holds_many n (table.block step k.names n) (holds_block n)) (λ c us q.
      holds_sign n CloseBlock (λ _. holds_give c (λ s g. ap (λ w. Sign OpenBlock ∷ (w ++ Sign CloseBlock ∷ [])) (q s g)))))

  holds_body : (n : ℕ) → Holds (table.body step k.names n) FineBody
  unfolding table.body
  holds_body n = holds_many n (table.block step k.names n) (holds_block n)

  whole : (s : List (List ℕ)) (n : ℕ) (c : List Stmt) (xs : List Token) → IsBody step k.names n c xs → names_right k s c ≡ right → body_tokens k.names c ≡ xs
  whole s n c xs h g = (holds_body n).all 0 c xs h s g

pub of_body : (names : Names) (decl : StepDecl) (n : ℕ) (c : List Stmt) (xs : List Token) → IsBody true names n c xs → body_right names decl c ≡ right → body_tokens names c ≡ xs
of_body names decl n c xs h g = whole true (of_step names decl) [] n c xs h g

by_recorder : (names : Names) (o : Option RecorderDecl) (s : List (List ℕ)) (n : ℕ) (c : List Stmt) (xs : List Token) → IsBody false names n c xs → names_right (of_decl names o) s c ≡ right → body_tokens names c ≡ xs
by_recorder names None s n c xs h g = whole false (of_decl names None) s n c xs h g
by_recorder names (Some d) s n c xs h g = whole false (of_decl names (Some d)) s n c xs h g

pub of_method : (names : Names) (recorder method n : ℕ) (c : List Stmt) (xs : List Token) → IsBody false names n c xs → method_right names recorder method c ≡ right → body_tokens names c ≡ xs
of_method names recorder method n c xs h g = by_recorder names (slice_get names.recorders recorder) (names_of_params (method_of (slice_get names.recorders recorder) method)) n c xs h g
