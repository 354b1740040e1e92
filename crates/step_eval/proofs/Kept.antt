-- A closed fact holds of all that a right body produces and records, where it holds of what was taken.
use Rattle.std.proofs.Common.{ℕ, Bool, true, false, nat_lt, ◌+◌, ◌||◌, if◌then◌else◌, List, [], ◌∷◌, ◌++◌, map, sum, length, take, slice_get, Option, Some, None, Ok, Err, sym, subst, ◌∙◌}
use Rattle.std.specs.List.{All}
use Rattle.std.proofs.lemmas.List.{length-map}
use Rattle.std.proofs.lemmas.List.Elements.{All-nil, All-cons, All-push, All-same, All-take, All-head, All-tail}
use Rattle.item_types.specs.Measure.{cells, text_len}
use Rattle.item_types.specs.declared.step.Phase.{Phase}
use Rattle.item_types.specs.declared.value.Proxy.{Proxy}
use Rattle.item_types.specs.declared.value.Value.{Value}
use Rattle.item_types.specs.declared.value.Value.TheVariants as value
use Rattle.recorder_proxy.specs.declared.call.Call.{Call}
use Rattle.syntax_tree.specs.declared.tree.Expr.{Expr, roll-Expr}
use Rattle.syntax_tree.specs.declared.tree.Expr.TheOpen.{Expr-F}
use Rattle.syntax_tree.specs.declared.tree.Invoke.{Invoke}
use Rattle.syntax_tree.specs.declared.tree.Stmt.{Stmt, roll-Stmt, map-Stmt, ind-Stmt, fold-roll-Stmt}
use Rattle.syntax_tree.specs.declared.tree.Stmt.TheOpen.{Stmt-F}
use Rattle.syntax_tree.specs.declared.tree.Stmt.TheOpen as form
use Rattle.step_state.specs.declared.outcome.Reason.TheVariants.{TooManyTurns, TooManyPut, TooManyRecorded}
use Rattle.step_state.specs.declared.state.State.{State}
use Rattle.step_state.specs.Evaluation.{Checked, Eval, ◌>>=◌, ◌>>◌, pure, lift, and_then}
use Rattle.step_state.specs.Operations.{truth, elements, said}
use Rattle.step_state.specs.Scoped.{bind, scoped}
use Rattle.step_state.specs.Spending.{turn, fits_item, keep_put, put, record_call, start}
use Rattle.step_eval.specs.BodyMeaning.{taking, body_of}
use Rattle.step_eval.specs.Expressions.{meaning, value_of, all}
use Rattle.step_eval.specs.Setting.{Setting}
use Rattle.step_eval.specs.Statements.{Doing, run, block, maybe, in_turn, turns, fits_phase, recorded, called, stmt_step, doing}
use Rattle.step_eval.proofs.Closed.{IsClosed, NamedHave, Only, elements_have}
use Rattle.step_eval.proofs.FineExpressions.{TakenFrom, AreCounted, all_counted, fine_expression, fine_expressions}
use Rattle.step_eval.proofs.Leaves.{Leaves, lifted, weaker, Stays, IsSized, IsCounted}
use Rattle.step_eval.proofs.Leaves as left
use Rattle.step_eval.proofs.Rightly.{Opens}
use Rattle.step_eval.proofs.RightStatements.{RightCall, AllRightStmts, OpensStmt}

module _ (W : ℕ → ℕ → Type 0) (P : Value → Type 0) (C : IsClosed W P) (returned : (p : Proxy) → P (value.Returned p)) (cx : Setting) (taken : TakenFrom W P C cx)
    (Right : Expr → Type 0) (opens : (y : Expr-F Expr) → Right (roll-Expr y) → Opens W cx Right y)
    (MayPut : ℕ → Type 0) (Q : ℕ → Value → Type 0) (puts_ok : (item : ℕ) (v : Value) (puts : List (ℕ × Value)) → MayPut item → Only (λ u. Q item v) (fits_item cx.names item v puts (slice_get cx.names.items item)))
    (MayCall : ℕ → ℕ → ℕ → Type 0)
    (RightStmt : Stmt → Type 0) (opens_stmt : (y : Stmt-F Stmt) → RightStmt (roll-Stmt y) → OpensStmt W cx Right MayPut MayCall RightStmt y) where
  abbrev pub Kept : Value → Type 0
  Kept v = IsSized v × P v

  -- a call, whose arguments are kept
  abbrev pub CallKept : Call → Type 0
  CallKept c = All Kept c.args × MayCall c.recorder c.method (length c.args)

  -- P holds of what is in scope, produced and recorded, Q of what is produced
  pub record Holds (s : State) : Type 0 where
    pub scope_in : NamedHave W P C s.scope
    pub puts_in : All (λ p. Kept p.1 × Q p.0 p.1) s.puts
    pub calls_in : All CallKept s.calls

  abbrev Goes : {A : Type 0} → Checked (A × State) → Type 0
  Goes o = Leaves (λ a t. Holds t) o

  record IsGood (d : Doing) : Type 0 where
    good : (s : State) → Holds s → Goes (d s)

  -- an expression leaves all this
  stayed : (s t : State) → Stays s t → Holds s → Holds t
  stayed s t h k = record {
    scope_in = All-same (λ e. P e.1) t.scope s.scope h.same_scope k.scope_in;
    puts_in = All-same (λ p. Kept p.1 × Q p.0 p.1) t.puts s.puts h.same_puts k.puts_in;
    calls_in = All-same CallKept t.calls s.calls h.same_calls k.calls_in;
  }

  then_good : {A B : Type 0} (o : Checked (A × State)) (f : A → Eval B) → Goes o → ((a : A) (t : State) → Holds t → Goes (f a t)) → Goes (and_then o (λ r. f r.0 r.1))
  then_good o f h k = left.in_turn (λ a t. Holds t) (λ b u. Holds u) o f h k

  lift_good : {A : Type 0} (o : Checked A) (s : State) → Holds s → Goes (lift o s)
  lift_good o s h = lifted (λ a t. Holds t) o s (λ a. h)

  turn_good : (s : State) → Holds s → Goes (turn s)
  turn_good s h = elim (nat_lt s.turns 100000) as (λ b. Leaves (λ (u : Unit {0}) t. Holds t) (if b then Ok (tt, record s { turns = s.turns + 1 }) else Err TooManyTurns))
      [ true ↦ record { scope_in = h.scope_in; puts_in = h.puts_in; calls_in = h.calls_in } | false ↦ tt ]

  bind_good : (name : List ℕ) (v : Value) (s : State) → Holds s → P v → Goes (bind name v s)
  bind_good name v s h k = record { scope_in = All-push (λ e. P e.1) s.scope (name, v) h.scope_in k; puts_in = h.puts_in; calls_in = h.calls_in }

  keep_put_good : (item : ℕ) (v : Value) (s : State) → Holds s → Kept v → Q item v → Goes (keep_put item v s)
  keep_put_good item v s h k q = elim (nat_lt 4096 (s.put_cells + cells v) || nat_lt 131072 (s.put_text + text_len v)) as
      (λ b. Leaves (λ (u : Unit {0}) t. Holds t)
      (if b then Err TooManyPut else Ok (tt, record s { puts = s.puts ++ (item, v) ∷ []; put_cells = s.put_cells + cells v; put_text = s.put_text + text_len v }))) [
        | true ↦ tt
        | false ↦ record { scope_in = h.scope_in; puts_in = All-push (λ p. Kept p.1 × Q p.0 p.1) s.puts (item, v) h.puts_in (k, q); calls_in = h.calls_in }
      ]

  put_good : (item : ℕ) (v : Value) (s : State) → Holds s → Kept v → MayPut item → Goes (put cx.names item v s)
  unfolding put
  put_good item v s h k may = by (fits_item cx.names item v s.puts (slice_get cx.names.items item)) (puts_ok item v s.puts may)
    where
      by : (o : Checked (Unit {0})) → Only (λ u. Q item v) o → Goes (and_then (lift o s) (λ r. keep_put item v r.1))
      by (Ok u) q = keep_put_good item v s h k q
      by (Err e) q = tt

  record_good : (recorder method : ℕ) (args : List Value) (keeps : Bool) (s : State) → Holds s → All Kept args → MayCall recorder method (length args) → Goes (record_call recorder method args keeps s)
  unfolding record_call
  record_good recorder method args keeps s h k may = elim (nat_lt 8192 (s.call_cells + (1 + sum (map cells args))) || nat_lt 131072 (s.call_text + sum (map text_len args))) as
      (λ b. Leaves (λ (j : ℕ) t. Holds t) (if b then Err TooManyRecorded
      else Ok (
        length s.calls,
        record s {
          calls = s.calls ++ record { recorder = recorder; method = method; args = args; keeps = keeps } ∷ [];
          call_cells = s.call_cells + (1 + sum (map cells args));
          call_text = s.call_text + sum (map text_len args);
        },
      ))) [
        | true ↦ tt
        | false ↦ record {
          scope_in = h.scope_in;
          puts_in = h.puts_in;
          calls_in = All-push CallKept s.calls (record { recorder = recorder; method = method; args = args; keeps = keeps }) h.calls_in (k, may);
        }
      ]

  -- a value of which P holds
  record IsValue (v : Value) (t : State) : Type 0 where
    kept : P v
    holds : Holds t

  recorded_good : (phase : Option Phase) (i : Invoke) (keeps : Bool) (args : List Value) (s : State) → Holds s → All Kept args → MayCall i.recorder i.method (length args) → Leaves IsValue (recorded cx phase i keeps args s)
  unfolding recorded
  recorded_good None i keeps args s h k may = record { kept = C.null; holds = h }
  recorded_good (Some phase) i keeps args s h k may =
      left.in_turn (λ j t. Holds t) IsValue (and_then (lift (fits_phase phase args) s) (λ r. record_call i.recorder i.method args keeps r.1)) (λ j. pure (value.Returned (record { step = cx.step; call = j; phase = phase })))
      (then_good (lift (fits_phase phase args) s) (λ u. record_call i.recorder i.method args keeps) (lift_good (fits_phase phase args) s h) (λ u t m. record_good i.recorder i.method args keeps t m k may))
      (λ j t m. record { kept = returned _; holds = m })

  both_kept : (vs : List Value) → All IsSized vs → All P vs → All Kept vs
  both_kept [] h k = All-nil Kept
  both_kept (v ∷ vs) h k = All-cons Kept v vs (All-head IsSized v vs h, All-head P v vs k) (both_kept vs (All-tail IsSized v vs h) (All-tail P v vs k))

  called_good : (i : Invoke) (keeps : Bool) (s : State) → RightCall W cx Right MayCall i → Holds s → Leaves IsValue (called cx i keeps s)
  unfolding called
  called_good i keeps s r h = left.in_turn (AreCounted W P C (map (meaning cx) i.args) s) IsValue (all (map (meaning cx) i.args) s) (recorded cx cx.decl.phase i keeps)
      (all_counted W P C (map (meaning cx) i.args) (fine_expressions W P C cx Right opens taken i.args r.0) s)
      (λ vs t k. recorded_good cx.decl.phase i keeps vs t (stayed s t k.still h) (both_kept vs k.sized (k.come h.scope_in)) (subst (MayCall i.recorder i.method) (sym (k.count ∙ length-map i.args (meaning cx))) r.1))

  -- a call, after its turn
  call_good : (i : Invoke) (keeps : Bool) (s : State) → RightCall W cx Right MayCall i → Holds s → Leaves IsValue (and_then (turn s) (λ r. called cx i keeps r.1))
  call_good i keeps s r h = left.in_turn (λ u t. Holds t) IsValue (turn s) (λ u. called cx i keeps) (turn_good s h) (λ u t m. called_good i keeps t r m)

  -- a value within the bounds of which P holds
  record IsKept (v : Value) (t : State) : Type 0 where
    kept : Kept v
    holds : Holds t

  valued : (e : Expr) (s : State) → Right e → Holds s → Leaves IsKept (and_then (turn s) (λ r. value_of cx e r.1))
  valued e s r h = left.in_turn (λ u t. Holds t) IsKept (turn s) (λ u. value_of cx e) (turn_good s h)
      (λ u t m. weaker (IsCounted W P C t) IsKept (value_of cx e t) (λ v w k. record { kept = (k.sized, k.comes m.scope_in); holds = stayed t w k.still m }) ((fine_expression W P C cx Right opens taken e r).fine t))

  with_value : {A : Type 0} (e : Expr) (f : Value → Eval A) (s : State) → Right e → Holds s → ((v : Value) (t : State) → Holds t → Kept v → Goes (f v t)) → Goes (and_then (and_then (turn s) (λ r. value_of cx e r.1)) (λ r. f r.0 r.1))
  with_value e f s r h k = left.in_turn IsKept (λ a u. Holds u) (and_then (turn s) (λ r. value_of cx e r.1)) f (valued e s r h) (λ v t m. k v t m.holds m.kept)

  -- elements of which P holds
  record IsList (vs : List Value) (t : State) : Type 0 where
    kept : All P vs
    holds : Holds t

  listed : (at : ℕ) (e : Expr) (s : State) → Right e → Holds s → Leaves IsList (and_then (and_then (turn s) (λ r. value_of cx e r.1)) (λ r. lift (elements at r.0) r.1))
  listed at e s r h = left.in_turn IsKept IsList (and_then (turn s) (λ r. value_of cx e r.1)) (λ v. lift (elements at v)) (valued e s r h)
      (λ v t m. checked t m.holds (elements at v) (elements_have W P C at v m.kept.1))
    where
      checked : (t : State) → Holds t → (o : Checked (List Value)) → Only (λ vs. All P vs) o → Leaves IsList (lift o t)
      checked t m (Ok vs) k = record { kept = k; holds = m }
      checked t m (Err x) k = tt

  scoped_good : (d : Doing) (s : State) → Goes (d s) → Goes (scoped d s)
  scoped_good d s h = left.in_turn (λ u t. Holds t) (λ u t. Holds t) (d s) (λ u t. Ok (tt, record t { scope = take (length s.scope) t.scope })) h
      (λ u t k. record { scope_in = All-take (λ e. P e.1) (length s.scope) t.scope k.scope_in; puts_in = k.puts_in; calls_in = k.calls_in })

  abbrev AllGood : List Doing → Type 0
  AllGood [] = Unit {0}
  AllGood (d ∷ ds) = IsGood d × AllGood ds

  run_good : (ds : List Doing) → AllGood ds → (s : State) → Holds s → Goes (run ds s)
  run_good [] h s k = k
  run_good (d ∷ ds) h s k = then_good (d s) (λ u. run ds) (h.0.good s k) (λ u t m. run_good ds h.1 t m)

  block_good : (ds : List Doing) → AllGood ds → (s : State) → Holds s → Goes (block ds s)
  block_good ds h s k = scoped_good (run ds) s (run_good ds h s k)

  turns_good : (name : List ℕ) (vs : List Value) (ds : List Doing) → AllGood ds → (s : State) → Holds s → All P vs → Goes (turns name vs ds s)
  turns_good name [] ds h s k a = k
  turns_good name (v ∷ vs) ds h s k a =
      then_good (and_then (turn s) (λ r. scoped (in_turn name v ds) r.1)) (λ u. turns name vs ds)
      (then_good (turn s) (λ u. scoped (in_turn name v ds)) (turn_good s k)
      (λ u t m. scoped_good (in_turn name v ds) t (then_good (bind name v t) (λ w. run ds) (bind_good name v t m (All-head P v vs a)) (λ w x n. run_good ds h x n))))
      (λ u t m. turns_good name vs ds h t m (All-tail P v vs a))

  -- a statement of which it is known, where it is right
  abbrev Known : Type 0
  Known = (d : Stmt) × (RightStmt d → IsGood (doing cx d))

  known_good : (ds : List Known) → AllRightStmts RightStmt (map (λ d. d.0) ds) → AllGood (map (doing cx) (map (λ d. d.0) ds))
  known_good [] r = tt
  known_good (d ∷ ds) r = (d.1 r.0, known_good ds r.1)

  turn_alone : IsGood turn
  turn_alone = record { good = turn_good }

  abbrev IfAll : Option (List Doing) → Type 0
  IfAll None = Unit {0}
  IfAll (Some ds) = AllGood ds

  maybe_good : (other : Option (List Doing)) → IfAll other → (s : State) → Holds s → Goes (maybe other s)
  maybe_good None h s k = k
  maybe_good (Some ds) h s k = block_good ds h s k

  branch : (ds : List Doing) (other : Option (List Doing)) → AllGood ds → IfAll other → (b : Bool) (s : State) → Holds s → Goes ((if b then block ds else maybe other) s)
  branch ds other h k true s m = block_good ds h s m
  branch ds other h k false s m = maybe_good other k s m

  if_good : (at : ℕ) (e : Expr) (ds : List Doing) (other : Option (List Doing)) → Right e → AllGood ds → IfAll other →
      IsGood (turn >> value_of cx e >>= (λ v. lift (truth at v)) >>= (λ b. if b then block ds else maybe other))
  if_good at e ds other r h k = record {
    good = λ s m. then_good (and_then (and_then (turn s) (λ r. value_of cx e r.1)) (λ r. lift (truth at r.0) r.1)) (λ b. if b then block ds else maybe other)
        (with_value e (λ v. lift (truth at v)) s r m (λ v t n p. lift_good (truth at v) t n))
        (λ b t n. branch ds other h k b t n);
  }

  layer : (y : Stmt-F Known) → OpensStmt W cx Right MayPut MayCall RightStmt (map-Stmt Known Stmt (λ d. d.0) y) → IsGood (stmt_step cx (map-Stmt Stmt Doing (doing cx) (map-Stmt Known Stmt (λ d. d.0) y)))
  layer (form.Let at name e) r = record { good = λ s h. with_value e (bind name) s r h (λ v t m k. bind_good name v t m k.1) }
  layer (form.LetCall at name i) r = record {
    good = λ s h. left.in_turn IsValue (λ u t. Holds t) (and_then (turn s) (λ r. called cx i true r.1)) (bind name) (call_good i true s r h) (λ v t m. bind_good name v t m.holds m.kept);
  }
  layer (form.CallOf i) r = record {
    good = λ s h. left.in_turn IsValue (λ u t. Holds t) (and_then (turn s) (λ r. called cx i false r.1)) (λ v. pure tt) (call_good i false s r h) (λ v t m. m.holds);
  }
  layer (form.Produce at item e) r = record { good = λ s h. with_value e (put cx.names item) s r.0 h (λ v t m k. put_good item v t m k r.1) }
  layer (form.For at name e ds) r = record {
    good = λ s h. left.in_turn IsList (λ u t. Holds t) (and_then (and_then (turn s) (λ r. value_of cx e r.1)) (λ r. lift (elements at r.0) r.1)) (λ vs. turns name vs (map (doing cx) (map (λ d. d.0) ds)))
        (listed at e s r.0 h)
        (λ vs t m. turns_good name vs (map (doing cx) (map (λ d. d.0) ds)) (known_good ds r.1) t m.holds m.kept);
  }
  layer (form.If at e ds None) r = if_good at e (map (doing cx) (map (λ d. d.0) ds)) None r.0 (known_good ds r.1) tt
  layer (form.If at e ds (Some os)) r = if_good at e (map (doing cx) (map (λ d. d.0) ds)) (Some (map (doing cx) (map (λ d. d.0) os))) r.0 (known_good ds r.1) (known_good os r.2)
  layer (form.FailWith at e) r = record { good = λ s h. with_value e (λ v. lift (said at v)) s r h (λ v t m k. lift_good (said at v) t m) }
  layer (form.Print at e) r = turn_alone
  layer (form.Return at e) r = turn_alone
  layer (form.Add at e v) r = turn_alone
  layer (form.SetStatic at f e) r = turn_alone
  layer (form.SetSelf at dot f e) r = turn_alone
  layer (form.SetField at dot name f e) r = turn_alone

  good_statement : (d : Stmt) → RightStmt d → IsGood (doing cx d)
  good_statement = ind-Stmt (λ d. RightStmt d → IsGood (doing cx d)) (λ x y is.
      subst (λ z. RightStmt (roll-Stmt z) → IsGood (doing cx (roll-Stmt z))) is
      (λ r. subst (λ p. IsGood p) (sym (fold-roll-Stmt Doing (stmt_step cx) (map-Stmt Known Stmt (λ d. d.0) y))) (layer y (opens_stmt (map-Stmt Known Stmt (λ d. d.0) y) r))))

  good_statements : (ds : List Stmt) → AllRightStmts RightStmt ds → AllGood (map (doing cx) ds)
  good_statements [] r = tt
  good_statements (d ∷ ds) r = (good_statement d r.0, good_statements ds r.1)

  start_holds : Holds start
  start_holds = record { scope_in = All-nil (λ e. P e.1); puts_in = All-nil (λ p. Kept p.1 × Q p.0 p.1); calls_in = All-nil CallKept }

  pub body_holds : (ds : List Stmt) → AllRightStmts RightStmt ds → Leaves (λ u t. Holds t) (body_of cx (map (doing cx) ds) start)
  body_holds ds r =
      then_good (lift (taking cx.decl.consumes cx.lists 0 0 0) start) (λ u. run (map (doing cx) ds)) (lift_good (taking cx.decl.consumes cx.lists 0 0 0) start start_holds)
      (λ u t m. run_good (map (doing cx) ds) (good_statements ds r) t m)
