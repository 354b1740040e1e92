-- A statement keeps the names that were in scope before it, and takes no node back.
use Rattle.std.proofs.Common.{◌≡◌, ℕ, ◌≤◌, Bool, true, false, nat_lt, ◌+◌, ◌||◌, if◌then◌else◌, List, [], ◌∷◌, ◌++◌, map, sum, length, take, slice_get, Option, Some, None, Ok, Err, refl, sym, ap, subst, ◌∙◌, append_assoc, append-nil, arith}
use Rattle.std.proofs.Math.Seq.{take-append_seam}
use Rattle.item_types.specs.Measure.{cells, text_len}
use Rattle.item_types.specs.declared.decl.Names.{Names}
use Rattle.item_types.specs.declared.step.Phase.{Phase}
use Rattle.item_types.specs.declared.value.Value.{Value}
use Rattle.item_types.specs.declared.value.Value.TheVariants as value
use Rattle.syntax_tree.specs.declared.tree.Expr.{Expr}
use Rattle.syntax_tree.specs.declared.tree.Invoke.{Invoke}
use Rattle.syntax_tree.specs.declared.tree.Stmt.{Stmt, roll-Stmt, map-Stmt, ind-Stmt, fold-roll-Stmt}
use Rattle.syntax_tree.specs.declared.tree.Stmt.TheOpen.{Stmt-F}
use Rattle.syntax_tree.specs.declared.tree.Stmt.TheOpen as form
use Rattle.step_eval.specs.BodyMeaning.{body_of, ended}
use Rattle.step_state.specs.declared.outcome.Outcome.TheVariants.{Done}
use Rattle.step_state.specs.declared.outcome.Reason.TheVariants.{TooManyTurns, TooManyPut, TooManyRecorded}
use Rattle.step_state.specs.declared.state.State.{State}
use Rattle.step_state.specs.Evaluation.{Checked, Eval, ◌>>=◌, ◌>>◌, pure, lift, and_then}
use Rattle.step_eval.specs.Expressions.{meaning, value_of, all}
use Rattle.step_state.specs.Operations.{truth, elements, said}
use Rattle.step_state.specs.Scoped.{bind, scoped}
use Rattle.step_eval.specs.Setting.{Setting}
use Rattle.step_state.specs.Spending.{turn, fits_item, keep_put, put, record_call, start}
use Rattle.step_eval.specs.Statements.{Doing, run, block, in_turn, turns, fits_phase, recorded, called, stmt_step, doing}
use Rattle.step_eval.proofs.Rightly.{AnyExpr, any_exprs, any_opens}
use Rattle.step_eval.proofs.Leaves.{Leaves, lifted, weaker, Stays, IsCounted}
use Rattle.step_eval.proofs.Leaves as left
use Rattle.step_eval.proofs.Closed.{Always}
use Rattle.step_eval.proofs.FineExpressions.{AreCounted, all_counted, fine_expression, fine_expressions, Any, any_closed, any_taken}

-- the names in scope before are still there, and no node is taken back
pub record Goes (s t : State) : Type 0 where
  pub more : List (List ℕ × Value)
  pub extends : t.scope ≡ s.scope ++ more
  pub more_nodes : s.nodes ≤ t.nodes

goes : (s : State) → Goes s s
goes s = record { more = []; extends = sym (append-nil s.scope); more_nodes = omega arith }

goes_on : (s t u : State) → Goes s t → Goes t u → Goes s u
goes_on s t u h k = record {
  more = h.more ++ k.more;
  extends = k.extends ∙ (ap (λ (l : List (List ℕ × Value)). l ++ k.more) h.extends ∙ append_assoc s.scope h.more k.more);
  more_nodes = omega (arith, h.more_nodes, k.more_nodes);
}

-- an expression goes so, and its value may be kept
stayed : (s t : State) → Stays s t → Goes s t
stayed s t h = record {
  more = [];
  more_nodes = h.more_nodes;
  extends = h.same_scope ∙ sym (append-nil s.scope);
}

pub record IsSteady (d : Doing) : Type 0 where
  pub steady : (s : State) → Leaves (λ u t. Goes s t) (d s)

goes_by : {A : Type 0} (p : Eval A) (s t : State) → Goes s t → Leaves (λ a u. Goes t u) (p t) → Leaves (λ a u. Goes s u) (p t)
goes_by p s t h k = weaker (λ a u. Goes t u) (λ a u. Goes s u) (p t) (λ a u m. goes_on s t u h m) k

-- one after the other
then_steady : {A B : Type 0} (p : Eval A) (f : A → Eval B) (s : State) → Leaves (λ a t. Goes s t) (p s) → ((a : A) (t : State) → Leaves (λ b u. Goes t u) (f a t)) →
    Leaves (λ b u. Goes s u) (and_then (p s) (λ r. f r.0 r.1))
then_steady p f s h k = left.in_turn (λ a t. Goes s t) (λ b u. Goes s u) (p s) f h (λ a t m. goes_by (f a) s t m (k a t))

lift_goes : {A : Type 0} (o : Checked A) (s : State) → Leaves (λ a t. Goes s t) (lift o s)
lift_goes o s = lifted (λ a t. Goes s t) o s (λ a. goes s)

turn_goes : (s : State) → Leaves (λ u t. Goes s t) (turn s)
turn_goes s = elim (nat_lt s.turns 100000) as (λ b. Leaves (λ (u : Unit {0}) t. Goes s t) (if b then Ok (tt, record s { turns = s.turns + 1 }) else Err TooManyTurns))
    [ true ↦ record { more = []; more_nodes = omega arith; extends = sym (append-nil s.scope) } | false ↦ tt ]

-- a statement's turn comes first
after_turn : {A : Type 0} (p : Eval A) (s : State) → ((t : State) → Leaves (λ a u. Goes t u) (p t)) → Leaves (λ a u. Goes s u) (and_then (turn s) (λ r. p r.1))
after_turn p s h = then_steady turn (λ u. p) s (turn_goes s) (λ u t. h t)

bind_goes : (name : List ℕ) (v : Value) (s : State) → Leaves (λ u t. Goes s t) (bind name v s)
bind_goes name v s = record { more = (name, v) ∷ []; more_nodes = omega arith; extends = refl }

keep_put_goes : (item : ℕ) (v : Value) (s : State) → Leaves (λ u t. Goes s t) (keep_put item v s)
keep_put_goes item v s = elim (nat_lt 4096 (s.put_cells + cells v) || nat_lt 131072 (s.put_text + text_len v)) as
    (λ b. Leaves (λ (u : Unit {0}) t. Goes s t)
    (if b then Err TooManyPut else Ok (tt, record s { puts = s.puts ++ (item, v) ∷ []; put_cells = s.put_cells + cells v; put_text = s.put_text + text_len v }))) [
      | true ↦ tt
      | false ↦ record {
        more = [];
        more_nodes = omega arith;
        extends = sym (append-nil s.scope);
      }
    ]

put_goes : (names : Names) (item : ℕ) (v : Value) (s : State) → Leaves (λ u t. Goes s t) (put names item v s)
unfolding put
put_goes names item v s = then_steady (lift (fits_item names item v s.puts (slice_get names.items item))) (λ u. keep_put item v) s
    (lift_goes (fits_item names item v s.puts (slice_get names.items item)) s) (λ u t. keep_put_goes item v t)

record_goes : (recorder method : ℕ) (args : List Value) (keeps : Bool) (s : State) → Leaves (λ j t. Goes s t) (record_call recorder method args keeps s)
unfolding record_call
record_goes recorder method args keeps s = elim (nat_lt 8192 (s.call_cells + (1 + sum (map cells args))) || nat_lt 131072 (s.call_text + sum (map text_len args))) as
    (λ b. Leaves (λ (j : ℕ) t. Goes s t) (if b then Err TooManyRecorded
    else Ok (
      length s.calls,
      record s {
        calls = s.calls ++ record { recorder = recorder; method = method; args = args; keeps = keeps } ∷ [];
        call_cells = s.call_cells + (1 + sum (map cells args));
        call_text = s.call_text + sum (map text_len args);
      },
    ))) [
      | true ↦ tt
      | false ↦ record {
        more = [];
        more_nodes = omega arith;
        extends = sym (append-nil s.scope);
      }
    ]

recorded_goes : (cx : Setting) (phase : Option Phase) (i : Invoke) (keeps : Bool) (args : List Value) (s : State) → Leaves (λ v t. Goes s t) (recorded cx phase i keeps args s)
unfolding recorded
recorded_goes cx None i keeps args s = goes s
recorded_goes cx (Some phase) i keeps args s =
    then_steady (lift (fits_phase phase args) >> record_call i.recorder i.method args keeps) (λ j. pure (value.Returned (record { step = cx.step; call = j; phase = phase }))) s
    (then_steady (lift (fits_phase phase args)) (λ u. record_call i.recorder i.method args keeps) s (lift_goes (fits_phase phase args) s)
    (λ u t. record_goes i.recorder i.method args keeps t))
    (λ j t. goes t)

called_goes : (cx : Setting) (i : Invoke) (keeps : Bool) (s : State) → Leaves (λ v t. Goes s t) (called cx i keeps s)
unfolding called
called_goes cx i keeps s = left.in_turn (AreCounted Always Any any_closed (map (meaning cx) i.args) s) (λ v t. Goes s t) (all (map (meaning cx) i.args) s) (recorded cx cx.decl.phase i keeps)
    (all_counted Always Any any_closed (map (meaning cx) i.args) (fine_expressions Always Any any_closed cx AnyExpr (any_opens cx) (any_taken cx) i.args (any_exprs cx i.args)) s)
    (λ vs t k. goes_by (recorded cx cx.decl.phase i keeps vs) s t (stayed s t k.still) (recorded_goes cx cx.decl.phase i keeps vs t))

valued : (cx : Setting) (e : Expr) (s : State) → Leaves (λ v t. Goes s t) (and_then (turn s) (λ r. value_of cx e r.1))
valued cx e s = left.in_turn (λ u t. Goes s t) (λ v t. Goes s t) (turn s) (λ u. value_of cx e) (turn_goes s)
    (λ u t k. weaker (IsCounted Always Any any_closed t) (λ v w. Goes s w) (value_of cx e t) (λ v w m. goes_on s t w k (stayed t w m.still)) ((fine_expression Always Any any_closed cx AnyExpr (any_opens cx) (any_taken cx) e tt).fine t))

with_value : {A : Type 0} (cx : Setting) (e : Expr) (f : Value → Eval A) (s : State) → ((v : Value) (t : State) → Leaves (λ a u. Goes t u) (f v t)) →
    Leaves (λ a u. Goes s u) (and_then (and_then (turn s) (λ r. value_of cx e r.1)) (λ r. f r.0 r.1))
with_value cx e f s h = left.in_turn (λ v t. Goes s t) (λ a u. Goes s u) (and_then (turn s) (λ r. value_of cx e r.1)) f (valued cx e s)
    (λ v t k. goes_by (f v) s t k (h v t))

-- after a block the names in scope are those before it
pub record Ends (s t : State) : Type 0 where
  pub same_scope : t.scope ≡ s.scope
  pub more_nodes : s.nodes ≤ t.nodes

pub scoped_ends : (d : Doing) (s : State) → Leaves (λ u t. Goes s t) (d s) → Leaves (λ u t. Ends s t) (scoped d s)
scoped_ends d s h = left.in_turn (λ u t. Goes s t) (λ u t. Ends s t) (d s) (λ u t. Ok (tt, record t { scope = take (length s.scope) t.scope })) h
    (λ u t k. record {
      same_scope = ap (λ (l : List (List ℕ × Value)). take (length s.scope) l) k.extends ∙ take-append_seam s.scope k.more;
      more_nodes = k.more_nodes;
    })

ended_goes : (s t : State) → Ends s t → Goes s t
ended_goes s t h = record { more = []; extends = h.same_scope ∙ sym (append-nil s.scope); more_nodes = h.more_nodes }

scoped_goes : (d : Doing) (s : State) → Leaves (λ u t. Goes s t) (d s) → Leaves (λ u t. Goes s t) (scoped d s)
scoped_goes d s h = weaker (λ u t. Ends s t) (λ u t. Goes s t) (scoped d s) (λ u t k. ended_goes s t k) (scoped_ends d s h)

abbrev pub AllSteady : List Doing → Type 0
AllSteady [] = Unit {0}
AllSteady (d ∷ ds) = IsSteady d × AllSteady ds

pub run_goes : (ds : List Doing) → AllSteady ds → (s : State) → Leaves (λ u t. Goes s t) (run ds s)
run_goes [] h s = goes s
run_goes (d ∷ ds) h s = then_steady d (λ u. run ds) s (h.0.steady s) (λ u t. run_goes ds h.1 t)

block_goes : (ds : List Doing) → AllSteady ds → (s : State) → Leaves (λ u t. Goes s t) (block ds s)
block_goes ds h s = scoped_goes (run ds) s (run_goes ds h s)

turns_goes : (name : List ℕ) (vs : List Value) (ds : List Doing) → AllSteady ds → (s : State) → Leaves (λ u t. Goes s t) (turns name vs ds s)
turns_goes name [] ds h s = goes s
turns_goes name (v ∷ vs) ds h s =
    then_steady (turn >> scoped (in_turn name v ds)) (λ u. turns name vs ds) s
    (after_turn (scoped (in_turn name v ds)) s
    (λ t. scoped_goes (in_turn name v ds) t (then_steady (bind name v) (λ u. run ds) t (bind_goes name v t) (λ u w. run_goes ds h w))))
    (λ u t. turns_goes name vs ds h t)

-- a statement of which it is known
abbrev Known : Setting → Type 0
Known cx = (d : Stmt) × IsSteady (doing cx d)

known_steady : (cx : Setting) (ds : List (Known cx)) → AllSteady (map (doing cx) (map (λ d. d.0) ds))
known_steady cx [] = tt
known_steady cx (d ∷ ds) = (d.1, known_steady cx ds)

turn_alone : IsSteady turn
turn_alone = record { steady = turn_goes }

layer : (cx : Setting) (y : Stmt-F (Known cx)) → IsSteady (stmt_step cx (map-Stmt Stmt Doing (doing cx) (map-Stmt (Known cx) Stmt (λ d. d.0) y)))
layer cx (form.Let at name e) = record { steady = λ s. with_value cx e (bind name) s (λ v t. bind_goes name v t) }
layer cx (form.LetCall at name i) = record { steady = λ s. then_steady (turn >> called cx i true) (bind name) s (after_turn (called cx i true) s (λ t. called_goes cx i true t)) (λ v t. bind_goes name v t) }
layer cx (form.CallOf i) = record { steady = λ s. then_steady (turn >> called cx i false) (λ v. pure tt) s (after_turn (called cx i false) s (λ t. called_goes cx i false t)) (λ v t. goes t) }
layer cx (form.Produce at item e) = record { steady = λ s. with_value cx e (put cx.names item) s (λ v t. put_goes cx.names item v t) }
layer cx (form.For at name e ds) = record {
  steady = λ s.
      then_steady (turn >> value_of cx e >>= (λ v. lift (elements at v))) (λ vs. turns name vs (map (doing cx) (map (λ d. d.0) ds))) s
      (with_value cx e (λ v. lift (elements at v)) s (λ v t. lift_goes (elements at v) t))
      (λ vs t. turns_goes name vs (map (doing cx) (map (λ d. d.0) ds)) (known_steady cx ds) t);
}
layer cx (form.If at e ds None) = record {
  steady = λ s.
      then_steady (turn >> value_of cx e >>= (λ v. lift (truth at v))) (λ b. if b then block (map (doing cx) (map (λ d. d.0) ds)) else pure tt) s
      (with_value cx e (λ v. lift (truth at v)) s (λ v t. lift_goes (truth at v) t))
      (λ b t. elim b as (λ c. Leaves (λ u w. Goes t w) ((if c then block (map (doing cx) (map (λ d. d.0) ds)) else pure tt) t))
      [ true ↦ block_goes (map (doing cx) (map (λ d. d.0) ds)) (known_steady cx ds) t | false ↦ goes t ]);
}
layer cx (form.If at e ds (Some os)) = record {
  steady = λ s.
      then_steady (turn >> value_of cx e >>= (λ v. lift (truth at v))) (λ b. if b then block (map (doing cx) (map (λ d. d.0) ds)) else block (map (doing cx) (map (λ d. d.0) os))) s
      (with_value cx e (λ v. lift (truth at v)) s (λ v t. lift_goes (truth at v) t))
      (λ b t. elim b as (λ c. Leaves (λ u w. Goes t w) ((if c then block (map (doing cx) (map (λ d. d.0) ds)) else block (map (doing cx) (map (λ d. d.0) os))) t))
      [ true ↦ block_goes (map (doing cx) (map (λ d. d.0) ds)) (known_steady cx ds) t | false ↦ block_goes (map (doing cx) (map (λ d. d.0) os)) (known_steady cx os) t ]);
}
layer cx (form.FailWith at e) = record { steady = λ s. with_value cx e (λ v. lift (said at v)) s (λ v t. lift_goes (said at v) t) }
layer cx (form.Print at e) = turn_alone
layer cx (form.Return at e) = turn_alone
layer cx (form.Add at e v) = turn_alone
layer cx (form.SetStatic at f e) = turn_alone
layer cx (form.SetSelf at dot f e) = turn_alone
layer cx (form.SetField at dot name f e) = turn_alone

pub steady_statement : (cx : Setting) (d : Stmt) → IsSteady (doing cx d)
steady_statement cx = ind-Stmt (λ d. IsSteady (doing cx d)) (λ x y is.
    subst (λ z. IsSteady (doing cx (roll-Stmt z))) is
    (subst (λ p. IsSteady p) (sym (fold-roll-Stmt Doing (stmt_step cx) (map-Stmt (Known cx) Stmt (λ d. d.0) y))) (layer cx y)))

pub steady_statements : (cx : Setting) (ds : List Stmt) → AllSteady (map (doing cx) ds)
steady_statements cx [] = tt
steady_statements cx (d ∷ ds) = (steady_statement cx d, steady_statements cx ds)

-- after a block the names in scope are those before it
pub block_ends : (cx : Setting) (ds : List Stmt) (s : State) → Leaves (λ u t. Ends s t) (block (map (doing cx) ds) s)
block_ends cx ds s = scoped_ends (run (map (doing cx) ds)) s (run_goes (map (doing cx) ds) (steady_statements cx ds) s)

-- the count of nodes made never falls
pub nodes_rise : (cx : Setting) (ds : List Stmt) (before after : State) → run (map (doing cx) ds) before ≡ Ok (tt, after) → before.nodes ≤ after.nodes
nodes_rise cx ds before after e =
    (subst (λ (o : Checked (Unit {0} × State)). Leaves (λ u t. Goes before t) o) e (run_goes (map (doing cx) ds) (steady_statements cx ds) before)).more_nodes

-- what the evaluation of all statements leaves is what the body gives
pub done_is : (cx : Setting) (ds xs : List Stmt) (s t : State) (u : Unit {0}) → s ≡ start → xs ≡ ds → body_of cx (map (doing cx) xs) s ≡ Ok (u, t) →
    Done t.puts t.calls ≡ ended (body_of cx (map (doing cx) ds) start)
done_is cx ds xs s t u is same e =
    let e' : body_of cx (map (doing cx) ds) s ≡ Ok (u, t) = subst (λ (ys : List Stmt). body_of cx (map (doing cx) ys) s ≡ Ok (u, t)) same e in
    let e'' : body_of cx (map (doing cx) ds) start ≡ Ok (u, t) = subst (λ (z : State). body_of cx (map (doing cx) ds) z ≡ Ok (u, t)) is e' in
    sym (ap ended e'')
