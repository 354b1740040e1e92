-- What a right body produces and records fits the declared names, where what its step took does.
use Rattle.std.proofs.Common.{◌≡◌, ◌≤◌, ◌<◌, ◌↔◌, ◌&&◌, ◌==◌, ℕ, ℤ, Bool, true, false, if◌then◌else◌, is_some, IsTrue, List, [], ◌∷◌, length, map, Option, Some, None, Ok, Err, refl, sym, ap, subst, ◌∙◌, slice_get, arith}
use Rattle.std.specs.List.{All, list_all}
use Rattle.std.proofs.lemmas.Bool.Decides.{nat_tests}
use Rattle.std.proofs.lemmas.List.Elements.{All-weaker}
use Rattle.std.proofs.lemmas.Option.{slice_get_within}
use Rattle.item_types.specs.Fitting.{ValueFits}
use Rattle.item_types.specs.Measure.{longest, longest_step}
use Rattle.item_types.specs.Modified.{modified_len}
use Rattle.item_types.specs.Named.{fits, fits_step, has_fields, fields_of, key, method_params, recorder_methods}
use Rattle.item_types.specs.declared.decl.BeanDecl.{BeanDecl}
use Rattle.item_types.specs.declared.decl.ItemDecl.{ItemDecl}
use Rattle.item_types.specs.declared.decl.ItemKind.{ItemKind}
use Rattle.item_types.specs.declared.decl.ItemKind.TheVariants as kind
use Rattle.item_types.specs.declared.decl.MethodSig.{MethodSig}
use Rattle.item_types.specs.declared.decl.Names.{Names}
use Rattle.item_types.specs.declared.decl.RecorderDecl.{RecorderDecl}
use Rattle.item_types.specs.declared.step.StepDecl.{StepDecl}
use Rattle.item_types.specs.declared.value.NodeId.{NodeId}
use Rattle.item_types.specs.declared.value.Proxy.{Proxy}
use Rattle.item_types.specs.declared.value.Value.{Value, out-Value, map-Value, fold-roll-Value, fold_out-Value}
use Rattle.item_types.specs.declared.value.Value.TheOpen as one
use Rattle.item_types.specs.declared.value.Value.TheOpen.{Value-F}
use Rattle.item_types.specs.declared.value.Value.TheVariants as value
use Rattle.recorder_proxy.specs.Fitting.{CallFits, methods_at}
use Rattle.recorder_proxy.specs.declared.call.Call.{Call}
use Rattle.syntax_tree.specs.Known.{of_step, carries_value, kind_is, method_of}
use Rattle.syntax_tree.specs.Right.{Part, all_parts, each_field_once, is_right_call, is_right_expr, is_right_stmt, part_of, right_expr_step, right_stmt_step, takes, IsRightBody}
use Rattle.syntax_tree.specs.declared.tree.Body.{Body}
use Rattle.syntax_tree.specs.declared.tree.Expr.{Expr, roll-Expr, map-Expr, fold-roll-Expr}
use Rattle.syntax_tree.specs.declared.tree.Expr.TheOpen.{Expr-F}
use Rattle.syntax_tree.specs.declared.tree.Expr.TheOpen as form
use Rattle.syntax_tree.specs.declared.tree.Invoke.{Invoke}
use Rattle.syntax_tree.specs.declared.tree.Stmt.{Stmt, roll-Stmt, map-Stmt, fold-roll-Stmt}
use Rattle.syntax_tree.specs.declared.tree.Stmt.TheOpen.{Stmt-F}
use Rattle.syntax_tree.specs.declared.tree.Stmt.TheOpen as stmt
use Rattle.step_state.specs.declared.outcome.Inputs.{Inputs}
use Rattle.step_state.specs.declared.outcome.Reason.TheVariants.{Twice}
use Rattle.step_state.specs.declared.state.State.{State}
use Rattle.step_state.specs.Evaluation.{Checked}
use Rattle.step_state.specs.Spending.{fits_item, fits_kind, is_put, keyed, start}
use Rattle.step_eval.specs.BodyMeaning.{body_of, ended, given, meaning_of_a_body}
use Rattle.step_eval.specs.FittingOutcome.{OutcomeFits, PutFits}
use Rattle.step_eval.specs.Statements.{doing}
use Rattle.step_eval.proofs.Closed.{IsClosed, Only}
use Rattle.step_eval.proofs.Kept.{Holds, body_holds}
use Rattle.step_eval.proofs.Leaves.{Leaves, IsSized}
use Rattle.step_eval.proofs.Rightly.{AllRight, NamedRight, Opens}
use Rattle.step_eval.proofs.RightStatements.{AllRightStmts, OpensStmt, RightCall}
use Rattle.value_order.specs.Found.{kind_in, kind_of, HasKey}

and_both : (a b : Bool) → (a && b) ≡ true → (a ≡ true) × (b ≡ true)
and_both true b e = (refl, e)
and_both false b e = cc

same_number : (n m : ℕ) → (n == m) ≡ true → n ≡ m
same_number n m e = grind (arith, nat_tests)

number_itself : (n : ℕ) → (n == n) ≡ true
number_itself n = grind (arith, nat_tests)

-- the bean is declared, and has so many fields
abbrev Whole : Names → ℕ → ℕ → Type 0
Whole names bean count = IsTrue (has_fields (slice_get names.beans bean) count)

-- the recorder and its method are declared, and the method has so many parameters
record MayCall (names : Names) (recorder method count : ℕ) : Type 0 where
  recorder_in : recorder < length names.recorders
  method_in : method < length (methods_at names recorder)
  arity : count ≡ length (method_params (slice_get (methods_at names recorder) method))

abbrev MayPut : Names → ℕ → Type 0
MayPut names item = item < length names.items

-- the item is declared, and the value has a key where it is ordered
abbrev IsPutOf : Names → ℕ → Value → Type 0
IsPutOf names item v = (item < length names.items) × HasKey names (kind_of names item) v

kind_tested : (names : Names) (item : ℕ) (v : Value) (puts : List (ℕ × Value)) (k : ItemKind) → Only (λ u. HasKey names k v) (fits_kind names item v puts k)
kind_tested names item v puts kind.Simple = by (is_put item puts)
  where
    by : (b : Bool) → Only (λ (u : Unit {0}). HasKey names kind.Simple v) (if b then Err (Twice item) else Ok tt)
    by true = tt
    by false = tt
kind_tested names item v puts kind.Multi = tt
kind_tested names item v puts (kind.Ordered field) = by (key names field v) refl
  where
    by : (o : Option ℤ) → key names field v ≡ o → Only (λ u. HasKey names (kind.Ordered field) v) (keyed item o)
    by (Some n) e = ap is_some e
    by None e = tt
kind_tested names item v puts kind.Empty = tt

put_tested : (names : Names) (item : ℕ) (v : Value) (puts : List (ℕ × Value)) → MayPut names item → Only (λ u. IsPutOf names item v) (fits_item names item v puts (slice_get names.items item))
put_tested names item v puts may = by (slice_get names.items item) refl
  where
    both : (o : Checked (Unit {0})) → Only (λ u. HasKey names (kind_of names item) v) o → Only (λ u. IsPutOf names item v) o
    both (Ok u) h = (may, h)
    both (Err e) h = tt

    by : (o : Option ItemDecl) → slice_get names.items item ≡ o → Only (λ u. IsPutOf names item v) (fits_item names item v puts o)
    by None e = (may, subst (λ (p : Option ItemDecl). HasKey names (kind_in p) v) (sym e) tt)
    by (Some d) e = both (fits_kind names item v puts d.kind) (subst (λ (p : Option ItemDecl). Only (λ u. HasKey names (kind_in p) v) (fits_kind names item v puts d.kind)) (sym e) (kind_tested names item v puts d.kind))

module _ (names : Names)
    (text_law : (t : List ℕ) → ValueFits names (value.Str t) ↔ (modified_len t ≤ 65535))
    (list_law : (id : NodeId) (parts : List Value) → ValueFits names (value.List id parts) ↔ All (ValueFits names) parts)
    (bean_law : (id : NodeId) (bean : ℕ) (parts : List Value) → ValueFits names (value.Bean id bean parts) ↔ (IsTrue (has_fields (slice_get names.beans bean) (length parts)) × All (ValueFits names) parts)) where
  -- a value without parts
  plain : (v : Value) → fits names v ≡ true → longest v ≡ 0 → ValueFits names v
  plain v h k = record { beans_fit = h; texts_fit = subst (λ n. n ≤ 65535) (sym k) (omega arith) }

  -- a value of the same form
  moved : (v w : Value) → out-Value v ≡ out-Value w → ValueFits names v → ValueFits names w
  moved v w e h = record {
    beans_fit = fold_out-Value Bool (fits_step names) w ∙ (ap (λ (z : Value-F Value). fits_step names (map-Value Value Bool (fits names) z)) (sym e) ∙ (sym (fold_out-Value Bool (fits_step names) v) ∙ h.beans_fit));
    texts_fit = subst (λ n. n ≤ 65535) (fold_out-Value ℕ longest_step v ∙ (ap (λ (z : Value-F Value). longest_step (map-Value Value ℕ longest z)) e ∙ sym (fold_out-Value ℕ longest_step w))) h.texts_fit;
  }

  fits_closed : IsClosed (Whole names) (ValueFits names)
  fits_closed = record {
    null = plain value.Null (ap (fits names) (sym value.rolls-Null) ∙ fold-roll-Value Bool (fits_step names) one.Null) (ap longest (sym value.rolls-Null) ∙ fold-roll-Value ℕ longest_step one.Null);
    truth = λ b. plain (value.Bool b) (ap (fits names) (sym (value.rolls-Bool b)) ∙ fold-roll-Value Bool (fits_step names) (one.Bool b)) (ap longest (sym (value.rolls-Bool b)) ∙ fold-roll-Value ℕ longest_step (one.Bool b));
    number = λ n. plain (value.Long n) (ap (fits names) (sym (value.rolls-Long n)) ∙ fold-roll-Value Bool (fits_step names) (one.Long n)) (ap longest (sym (value.rolls-Long n)) ∙ fold-roll-Value ℕ longest_step (one.Long n));
    short = λ t h. (text_law t).1 h;
    list = λ id parts h. (list_law id parts).1 h;
    bean = λ id bean parts w h. (bean_law id bean parts).1 (w, h);
    of_list = λ v id parts e h. (list_law id parts).0 (moved v (value.List id parts) (e ∙ sym (value.outs-List id parts)) h);
    of_bean = λ v id bean parts e h. ((bean_law id bean parts).0 (moved v (value.Bean id bean parts) (e ∙ sym (value.outs-Bean id bean parts)) h)).1;
  }

  returned_fits : (p : Proxy) → ValueFits names (value.Returned p)
  returned_fits p = plain (value.Returned p) (ap (fits names) (sym (value.rolls-Returned p)) ∙ fold-roll-Value Bool (fits_step names) (one.Returned p)) (ap longest (sym (value.rolls-Returned p)) ∙ fold-roll-Value ℕ longest_step (one.Returned p))

  module _ (decl : StepDecl) (step : ℕ) (inputs : Inputs) (taken : All (λ vs. All (ValueFits names) vs) inputs.lists) where
    abbrev Right : Expr → Type 0
    Right e = is_right_expr true (of_step names decl) e ≡ true

    abbrev RightStmt : Stmt → Type 0
    RightStmt d = is_right_stmt true (of_step names decl) d ≡ true

    abbrev Opened : Expr-F Expr → Type 0
    Opened y = Opens (Whole names) (given names decl step inputs) Right y

    all_open : (es : List Expr) → all_parts (map (part_of true (of_step names decl)) es) ≡ true → AllRight (Whole names) (given names decl step inputs) Right es
    all_open [] h = tt
    all_open (e ∷ es) h = let both = and_both (is_right_expr true (of_step names decl) e) _ h in (both.0, all_open es both.1)

    each_open : (es : List Expr) → list_all (is_right_expr true (of_step names decl)) es ≡ true → AllRight (Whole names) (given names decl step inputs) Right es
    each_open [] h = tt
    each_open (e ∷ es) h = let both = and_both (is_right_expr true (of_step names decl) e) _ h in (both.0, each_open es both.1)

    named_open : (fs : List (List ℕ × Expr)) → all_parts (map (λ (f : List ℕ × Part). f.1) (map (λ (f : List ℕ × Expr). (f.0, part_of true (of_step names decl) f.1)) fs)) ≡ true → NamedRight (Whole names) (given names decl step inputs) Right fs
    named_open [] h = tt
    named_open (f ∷ fs) h = let both = and_both (is_right_expr true (of_step names decl) f.1) _ h in (both.0, named_open fs both.1)

    whole : (bean : ℕ) (ws : List (List ℕ)) (o : Option BeanDecl) → slice_get names.beans bean ≡ o → each_field_once o ws ≡ true → Whole names bean (length (fields_of (slice_get names.beans bean)))
    whole bean ws None e h = cc
    whole bean ws (Some d) e h = subst (λ (p : Option BeanDecl). IsTrue (has_fields p (length (fields_of p)))) (sym e) (number_itself (length d.fields))

    open_form : (y : Expr-F Expr) → (right_expr_step true (of_step names decl) (map-Expr Expr Part (part_of true (of_step names decl)) y)).right ≡ true → Opened y
    open_form (form.Null at) h = tt
    open_form (form.Bool at b) h = tt
    open_form (form.Long at n) h = tt
    open_form (form.Str at t) h = tt
    open_form (form.Name at name) h = tt
    open_form (form.Get at item) h = tt
    open_form (form.All at item) h = tt
    open_form (form.New at bean fields) h =
        let both = and_both _ _ h in
        (whole bean _ (slice_get names.beans bean) refl both.0, named_open fields both.1)
    open_form (form.ListOf at es) h = all_open es h
    open_form (form.Fields e links) h = (and_both _ _ h).0
    open_form (form.Len at e) h = h
    open_form (form.Not at e) h = h
    open_form (form.Sum es signs) h = all_open es h
    open_form (form.Both es signs) h = all_open es h
    open_form (form.Equal a sign b) h = and_both _ _ h
    open_form (form.Less a sign b) h = and_both _ _ h
    open_form (form.Paren at e) h = h
    open_form (form.Me at) h = tt
    open_form (form.StaticOf at f) h = tt

    opens : (y : Expr-F Expr) → Right (roll-Expr y) → Opened y
    opens y h = open_form y (ap (λ (p : Part). p.right) (sym (fold-roll-Expr Part (right_expr_step true (of_step names decl)) y)) ∙ h)

    method_called : (recorder method count : ℕ) (o : Option RecorderDecl) → slice_get names.recorders recorder ≡ o → takes (method_of o method) count ≡ true → MayCall names recorder method count
    method_called recorder method count None e h = cc
    method_called recorder method count (Some d) e h = by (slice_get d.methods method) refl h
      where
        same : methods_at names recorder ≡ d.methods
        same = ap (λ (p : Option RecorderDecl). recorder_methods p) e

        by : (m : Option MethodSig) → slice_get d.methods method ≡ m → takes m count ≡ true → MayCall names recorder method count
        by None f g = cc
        by (Some sig) f g = record {
          recorder_in = slice_get_within names.recorders recorder d e;
          method_in = subst (λ (ms : List MethodSig). method < length ms) (sym same) (slice_get_within d.methods method sig f);
          arity = subst (λ (ms : List MethodSig). count ≡ length (method_params (slice_get ms method))) (sym same)
              (subst (λ (p : Option MethodSig). count ≡ length (method_params p)) (sym f) (sym (same_number (length sig.params) count g)));
        }

    call_open : (i : Invoke) → is_right_call true (of_step names decl) i ≡ true → RightCall (Whole names) (given names decl step inputs) Right (MayCall names) i
    call_open i h =
        let outer = and_both _ _ h in
        let inner = and_both _ _ outer.0 in
        (each_open i.args outer.1, method_called i.recorder i.method (length i.args) (slice_get names.recorders i.recorder) refl inner.1)

    item_declared : (item : ℕ) (o : Option ItemDecl) → slice_get names.items item ≡ o → kind_is carries_value o ≡ true → MayPut names item
    item_declared item None e h = cc
    item_declared item (Some d) e h = slice_get_within names.items item d e

    stmts_open : (ds : List Stmt) → list_all (λ (b : Bool). b) (map (is_right_stmt true (of_step names decl)) ds) ≡ true → AllRightStmts RightStmt ds
    stmts_open [] h = tt
    stmts_open (d ∷ ds) h = let both = and_both (is_right_stmt true (of_step names decl) d) _ h in (both.0, stmts_open ds both.1)

    open_stmt : (y : Stmt-F Stmt) → right_stmt_step true (of_step names decl) (map-Stmt Stmt Bool (is_right_stmt true (of_step names decl)) y) ≡ true → OpensStmt (Whole names) (given names decl step inputs) Right (MayPut names) (MayCall names) RightStmt y
    open_stmt (stmt.Let at name e) h = h
    open_stmt (stmt.LetCall at name i) h = call_open i h
    open_stmt (stmt.CallOf i) h = call_open i h
    open_stmt (stmt.Produce at item e) h =
        let outer = and_both _ _ h in
        (outer.1, item_declared item (slice_get names.items item) refl (and_both _ _ outer.0).1)
    open_stmt (stmt.For at name e ds) h = let both = and_both _ _ h in (both.0, stmts_open ds both.1)
    open_stmt (stmt.If at e ds None) h =
        let inner = and_both _ _ (and_both _ _ h).0 in
        (inner.0, stmts_open ds inner.1)
    open_stmt (stmt.If at e ds (Some os)) h =
        let outer = and_both _ _ h in
        let inner = and_both _ _ outer.0 in
        (inner.0, stmts_open ds inner.1, stmts_open os outer.1)
    open_stmt (stmt.FailWith at e) h = h
    open_stmt (stmt.Print at e) h = tt
    open_stmt (stmt.Return at e) h = tt
    open_stmt (stmt.Add at e v) h = tt
    open_stmt (stmt.SetStatic at f e) h = tt
    open_stmt (stmt.SetSelf at dot f e) h = tt
    open_stmt (stmt.SetField at dot name f e) h = tt

    opens_stmt : (y : Stmt-F Stmt) → RightStmt (roll-Stmt y) → OpensStmt (Whole names) (given names decl step inputs) Right (MayPut names) (MayCall names) RightStmt y
    opens_stmt y h = open_stmt y (sym (fold-roll-Stmt Bool (right_stmt_step true (of_step names decl)) y) ∙ h)

    right_stmts : (ds : List Stmt) → list_all (is_right_stmt true (of_step names decl)) ds ≡ true → AllRightStmts RightStmt ds
    right_stmts [] h = tt
    right_stmts (d ∷ ds) h = let both = and_both (is_right_stmt true (of_step names decl) d) _ h in (both.0, right_stmts ds both.1)

    abbrev HoldsFit : State → Type 0
    HoldsFit = Holds (Whole names) (ValueFits names) fits_closed returned_fits (given names decl step inputs) taken Right opens (MayPut names) (IsPutOf names) (put_tested names) (MayCall names) RightStmt opens_stmt

    put_fits : (p : ℕ × Value) → (IsSized p.1 × ValueFits names p.1) × IsPutOf names p.0 p.1 → PutFits names p.0 p.1
    put_fits p h = record { item_in = h.1.0; value_fits = h.0.1; keyed = h.1.1 }

    call_fits : (c : Call) → All (λ v. IsSized v × ValueFits names v) c.args × MayCall names c.recorder c.method (length c.args) → CallFits names c
    call_fits c h = record {
      recorder_in = h.1.recorder_in;
      method_in = h.1.method_in;
      arity = h.1.arity;
      args_fit = All-weaker (λ v. IsSized v × ValueFits names v) (ValueFits names) (λ v m. m.1) c.args h.0;
    }

    ended_fits : (o : Checked (Unit {0} × State)) → Leaves (λ u t. HoldsFit t) o → OutcomeFits names (ended o)
    ended_fits (Ok r) h = (
      All-weaker (λ p. (IsSized p.1 × ValueFits names p.1) × IsPutOf names p.0 p.1) (λ p. PutFits names p.0 p.1) put_fits r.1.puts h.puts_in,
      All-weaker (λ c. All (λ v. IsSized v × ValueFits names v) c.args × MayCall names c.recorder c.method (length c.args)) (CallFits names) call_fits r.1.calls h.calls_in,
    )
    ended_fits (Err e) h = tt

    pub outcome_fits : (body : Body) → IsRightBody names decl body → OutcomeFits names (meaning_of_a_body names decl step body inputs)
    outcome_fits body right =
        ended_fits (body_of (given names decl step inputs) (map (doing (given names decl step inputs)) body.stmts) start)
        (body_holds (Whole names) (ValueFits names) fits_closed returned_fits (given names decl step inputs) taken Right opens (MayPut names) (IsPutOf names) (put_tested names) (MayCall names) RightStmt opens_stmt body.stmts (right_stmts body.stmts right))
