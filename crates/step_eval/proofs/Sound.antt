-- What a step produces and records names only what was taken or is kept, and is within the limits.
use Rattle.std.proofs.Common.{◌≡◌, inl, inr, ℕ, zero, suc, ◌≤◌, ◌+◌, Bool, true, false, nat_lt, ◌||◌, if◌then◌else◌, List, [], ◌∷◌, ◌++◌, map, sum, sum_by, length, take, slice_get, Option, Some, None, IsTrue, Ok, Err, refl, sym, ap, subst, ◌∙◌, append_assoc, append-nil, arith}
use Rattle.std.specs.List.{All, Contains, flat_map}
use Rattle.std.proofs.lemmas.Bool.Decides.{nat_tests}
use Rattle.std.proofs.lemmas.List.Elements.{All-nil, All-cons, All-push, All-weaker, All-take, All-head, All-tail, All-contains_itself}
use Rattle.std.proofs.lemmas.List.Sums.{sum-map, sum_by-append}
use Rattle.item_types.specs.Measure.{cells, text_len}
use Rattle.item_types.specs.declared.decl.Names.{Names}
use Rattle.item_types.specs.declared.step.Phase.{Phase}
use Rattle.item_types.specs.declared.step.Phase.TheVariants.{Static, Runtime}
use Rattle.item_types.specs.declared.value.Proxy.{Proxy}
use Rattle.item_types.specs.declared.value.Value.{Value}
use Rattle.item_types.specs.declared.value.Value.TheVariants as value
use Rattle.recorder_proxy.specs.Playable.{EachAfter, Keeps}
use Rattle.recorder_proxy.specs.Proxies.{proxies, first_runtime}
use Rattle.recorder_proxy.specs.Sizes.{cells_of, text_of}
use Rattle.recorder_proxy.specs.declared.call.Call.{Call}
use Rattle.recorder_proxy.proofs.Walk.{EachAfter-nil, EachAfter-insert}
use Rattle.syntax_tree.specs.declared.tree.Expr.{Expr}
use Rattle.syntax_tree.specs.declared.tree.Invoke.{Invoke}
use Rattle.syntax_tree.specs.declared.tree.Stmt.{Stmt, roll-Stmt, map-Stmt, ind-Stmt, fold-roll-Stmt}
use Rattle.syntax_tree.specs.declared.tree.Stmt.TheOpen.{Stmt-F}
use Rattle.syntax_tree.specs.declared.tree.Stmt.TheOpen as form
use Rattle.step_state.specs.declared.outcome.Outcome.TheVariants.{Done}
use Rattle.step_state.specs.declared.outcome.Reason.TheVariants.{TooManyTurns, TooManyPut, TooManyRecorded}
use Rattle.step_state.specs.declared.state.State.{State}
use Rattle.step_state.specs.Evaluation.{Checked, Eval, ◌>>=◌, ◌>>◌, pure, lift, and_then}
use Rattle.step_state.specs.Operations.{truth, elements, said}
use Rattle.step_state.specs.Scoped.{bind, scoped}
use Rattle.step_state.specs.Spending.{turn, fits_item, keep_put, put, record_call, start}
use Rattle.step_eval.specs.BodyMeaning.{taking, body_of, ended}
use Rattle.step_eval.specs.Expressions.{meaning, value_of, all}
use Rattle.step_eval.specs.KnownProxies.{IsKnown, IsRecorded}
use Rattle.step_eval.specs.Setting.{Setting}
use Rattle.step_eval.specs.Statements.{Doing, run, block, maybe, in_turn, turns, refuse_runtime, fits_phase, recorded, called, stmt_step, doing}
use Rattle.step_eval.proofs.FineExpressions.{TakenFrom, AreCounted, all_counted, fine_expression, fine_expressions}
use Rattle.step_eval.proofs.Rightly.{AnyExpr, any_exprs, any_opens}
use Rattle.step_eval.proofs.Leaves.{Leaves, lifted, weaker, Stays, IsCounted}
use Rattle.step_eval.proofs.Leaves as left
use Rattle.step_eval.proofs.Closed.{Always, NamedHave, Only, elements_have}
use Rattle.step_eval.proofs.Origins.{From, first, second, flat_all, from_closed, from_Returned}

-- what was taken is known
flat_lists : (R : Proxy → Type 0) (lists : List (List Value)) → All R (flat_map (λ values. flat_map proxies values) lists) → All (λ vs. All (From R) vs) lists
flat_lists R [] h = All-nil (λ vs. All (From R) vs)
flat_lists R (vs ∷ ls) h =
    All-cons (λ xs. All (From R) xs) vs ls (flat_all R vs (first R (flat_map proxies vs) (flat_map (λ values. flat_map proxies values) ls) h))
    (flat_lists R ls (second R (flat_map proxies vs) (flat_map (λ values. flat_map proxies values) ls) h))

taken_known : (cx : Setting) (calls : List Call) → TakenFrom Always (From (IsKnown cx calls)) (from_closed (IsKnown cx calls)) cx
taken_known cx calls =
    let ps : List Proxy = flat_map (λ values. flat_map proxies values) cx.lists in
    flat_lists (IsKnown cx calls) cx.lists (All-weaker (Contains ps) (IsKnown cx calls) (λ p h. inl h) ps (All-contains_itself ps))

-- what is known stays so after more calls
keeps_more : (calls more : List Call) (n : ℕ) → Keeps calls n → Keeps (calls ++ more) n
keeps_more [] more n h = elim h [ ]
keeps_more (c ∷ cs) more zero h = h
keeps_more (c ∷ cs) more (suc n) h = keeps_more cs more n h

known_more : (cx : Setting) (calls more : List Call) (p : Proxy) → IsKnown cx calls p → IsKnown cx (calls ++ more) p
known_more cx calls more p (inl h) = inl h
known_more cx calls more p (inr h) = inr (record { of_step = h.of_step; of_phase = h.of_phase; kept = keeps_more calls more p.call h.kept })

from_more : (cx : Setting) (calls more : List Call) (v : Value) → From (IsKnown cx calls) v → From (IsKnown cx (calls ++ more)) v
from_more cx calls more v = All-weaker (IsKnown cx calls) (IsKnown cx (calls ++ more)) (known_more cx calls more) (proxies v)

all_more : (cx : Setting) (calls more : List Call) (vs : List Value) → All (From (IsKnown cx calls)) vs → All (From (IsKnown cx (calls ++ more))) vs
all_more cx calls more vs = All-weaker (From (IsKnown cx calls)) (From (IsKnown cx (calls ++ more))) (from_more cx calls more) vs

-- the last call is kept, where it keeps
last_kept : (calls : List Call) (c : Call) → IsTrue c.keeps → Keeps (calls ++ c ∷ []) (length calls)
last_kept [] c h = h
last_kept (d ∷ ds) c h = last_kept ds c h

-- the state's parts fit each other
record IsSoundAt (cx : Setting) (scope : List (List ℕ × Value)) (puts : List (ℕ × Value)) (calls : List Call) (call_cells call_text : ℕ) : Type 0 where
  scope_known : NamedHave Always (From (IsKnown cx calls)) (from_closed (IsKnown cx calls)) scope
  recorded : IsRecorded cx puts calls
  cells_are : call_cells ≡ cells_of calls
  text_are : call_text ≡ text_of calls

abbrev IsSound : Setting → State → Type 0
IsSound cx s = IsSoundAt cx s.scope s.puts s.calls s.call_cells s.call_text

-- more calls, and the parts still fit
record Grows (cx : Setting) (s t : State) : Type 0 where
  later : List Call
  grows : t.calls ≡ s.calls ++ later
  sound : IsSound cx t

grown : (cx : Setting) (s : State) → IsSound cx s → Grows cx s s
grown cx s h = record { later = []; grows = sym (append-nil s.calls); sound = h }

grows_on : (cx : Setting) (s t u : State) → Grows cx s t → Grows cx t u → Grows cx s u
grows_on cx s t u h k = record {
  later = h.later ++ k.later;
  grows = k.grows ∙ (ap (λ (l : List Call). l ++ k.later) h.grows ∙ append_assoc s.calls h.later k.later);
  sound = k.sound;
}

-- what was known stays known
still_known : (cx : Setting) (s t : State) (vs : List Value) → Grows cx s t → All (From (IsKnown cx s.calls)) vs → All (From (IsKnown cx t.calls)) vs
still_known cx s t vs h k = subst (λ (l : List Call). All (From (IsKnown cx l)) vs) (sym h.grows) (all_more cx s.calls h.later vs k)

-- an expression leaves all this
stayed : (cx : Setting) (s t : State) → Stays s t → IsSound cx s → Grows cx s t
stayed cx s t h k = record {
  later = [];
  grows = h.same_calls ∙ sym (append-nil s.calls);
  sound =
      subst (λ x. IsSoundAt cx x t.puts t.calls t.call_cells t.call_text) (sym h.same_scope)
      (subst (λ x. IsSoundAt cx s.scope x t.calls t.call_cells t.call_text) (sym h.same_puts)
      (subst (λ x. IsSoundAt cx s.scope s.puts x t.call_cells t.call_text) (sym h.same_calls)
      (subst (λ x. IsSoundAt cx s.scope s.puts s.calls x t.call_text) (sym h.same_call_cells)
      (subst (λ x. IsSoundAt cx s.scope s.puts s.calls s.call_cells x) (sym h.same_call_text) k))));
}

-- it leaves a state whose parts fit
record IsGood (cx : Setting) (d : Doing) : Type 0 where
  good : (s : State) → IsSound cx s → Leaves (λ u t. Grows cx s t) (d s)

grows_by : {A : Type 0} (cx : Setting) (p : Eval A) (s t : State) → Grows cx s t → Leaves (λ a u. Grows cx t u) (p t) → Leaves (λ a u. Grows cx s u) (p t)
grows_by cx p s t h k = weaker (λ a u. Grows cx t u) (λ a u. Grows cx s u) (p t) (λ a u m. grows_on cx s t u h m) k

-- one after the other
then_good : {A B : Type 0} (cx : Setting) (p : Eval A) (f : A → Eval B) (s : State) → Leaves (λ a t. Grows cx s t) (p s) → ((a : A) (t : State) → IsSound cx t → Leaves (λ b u. Grows cx t u) (f a t)) →
    Leaves (λ b u. Grows cx s u) (and_then (p s) (λ r. f r.0 r.1))
then_good cx p f s h k = left.in_turn (λ a t. Grows cx s t) (λ b u. Grows cx s u) (p s) f h (λ a t m. grows_by cx (f a) s t m (k a t m.sound))

lift_good : {A : Type 0} (cx : Setting) (o : Checked A) (s : State) → IsSound cx s → Leaves (λ a t. Grows cx s t) (lift o s)
lift_good cx o s h = lifted (λ a t. Grows cx s t) o s (λ a. grown cx s h)

turn_good : (cx : Setting) (s : State) → IsSound cx s → Leaves (λ u t. Grows cx s t) (turn s)
turn_good cx s h = elim (nat_lt s.turns 100000) as (λ b. Leaves (λ (u : Unit {0}) t. Grows cx s t) (if b then Ok (tt, record s { turns = s.turns + 1 }) else Err TooManyTurns))
    [ true ↦ record { later = []; grows = sym (append-nil s.calls); sound = h } | false ↦ tt ]

bind_good : (cx : Setting) (name : List ℕ) (v : Value) (s : State) → IsSound cx s → From (IsKnown cx s.calls) v → Leaves (λ u t. Grows cx s t) (bind name v s)
bind_good cx name v s h k = record {
  later = [];
  grows = sym (append-nil s.calls);
  sound = record {
    scope_known = All-push (λ e. From (IsKnown cx s.calls) e.1) s.scope (name, v) h.scope_known k;
    recorded = h.recorded;
    cells_are = h.cells_are;
    text_are = h.text_are;
  };
}

keep_put_good : (cx : Setting) (item : ℕ) (v : Value) (s : State) → IsSound cx s → From (IsKnown cx s.calls) v → Leaves (λ u t. Grows cx s t) (keep_put item v s)
keep_put_good cx item v s h k = elim (nat_lt 4096 (s.put_cells + cells v) || nat_lt 131072 (s.put_text + text_len v)) as
    (λ b. Leaves (λ (u : Unit {0}) t. Grows cx s t)
    (if b then Err TooManyPut else Ok (tt, record s { puts = s.puts ++ (item, v) ∷ []; put_cells = s.put_cells + cells v; put_text = s.put_text + text_len v }))) [
      | true ↦ tt
      | false ↦ record {
        later = [];
        grows = sym (append-nil s.calls);
        sound = record {
          scope_known = h.scope_known;
          recorded = record {
            puts_known = All-push (λ p. From (IsKnown cx s.calls) p.1) s.puts (item, v) h.recorded.puts_known k;
            calls_known = h.recorded.calls_known;
            static_alone = h.recorded.static_alone;
            silent = h.recorded.silent;
            cells_in = h.recorded.cells_in;
            text_in = h.recorded.text_in;
          };
          cells_are = h.cells_are;
          text_are = h.text_are;
        };
      }
    ]

put_good : (cx : Setting) (names : Names) (item : ℕ) (v : Value) (s : State) → IsSound cx s → From (IsKnown cx s.calls) v → Leaves (λ u t. Grows cx s t) (put names item v s)
unfolding put
put_good cx names item v s h k = left.in_turn (λ u t. t ≡ s) (λ u t. Grows cx s t) (lift (fits_item names item v s.puts (slice_get names.items item)) s) (λ u. keep_put item v)
    (lifted (λ u t. t ≡ s) (fits_item names item v s.puts (slice_get names.items item)) s (λ u. refl))
    (λ u t e. subst (λ (z : State). Leaves (λ w x. Grows cx s x) (keep_put item v z)) (sym e) (keep_put_good cx item v s h k))

-- a static step hands on no runtime proxy
refused_none : (o : Option Proxy) → Only (λ u. o ≡ None) (refuse_runtime o)
refused_none None = refl
refused_none (Some p) = tt

hands_on : (phase : Phase) (args : List Value) → Only (λ u. Some phase ≡ Some Static → first_runtime args ≡ None) (fits_phase phase args)
hands_on Static args = only_then (refuse_runtime (first_runtime args)) (refused_none (first_runtime args))
  where
    only_then : (o : Checked (Unit {0})) → Only (λ u. first_runtime args ≡ None) o → Only (λ u. Some Static ≡ Some Static → first_runtime args ≡ None) o
    only_then (Ok u) h = λ e. h
    only_then (Err e) h = tt
hands_on Runtime args = λ e. cc

-- one more call
one_more : (cx : Setting) (phase : Phase) (c : Call) (s : State) → cx.decl.phase ≡ Some phase → IsSound cx s → All (From (IsKnown cx s.calls)) c.args → (Some phase ≡ Some Static → first_runtime c.args ≡ None) →
    s.call_cells + (1 + sum (map cells c.args)) ≤ 8192 → s.call_text + sum (map text_len c.args) ≤ 131072 →
    IsSoundAt cx s.scope s.puts (s.calls ++ c ∷ []) (s.call_cells + (1 + sum (map cells c.args))) (s.call_text + sum (map text_len c.args))
one_more cx phase c s is h k alone m n =
    let cells_now : s.call_cells + (1 + sum (map cells c.args)) ≡ cells_of (s.calls ++ c ∷ []) =
    rw (sum_by-append (λ (d : Call). 1 + sum_by cells d.args) s.calls (c ∷ []), sum-map cells c.args, h.cells_are) (omega arith) in
    let text_now : s.call_text + sum (map text_len c.args) ≡ text_of (s.calls ++ c ∷ []) =
    rw (sum_by-append (λ (d : Call). sum_by text_len d.args) s.calls (c ∷ []), sum-map text_len c.args, h.text_are) (omega arith) in
    record {
      scope_known = All-weaker (λ e. From (IsKnown cx s.calls) e.1) (λ e. From (IsKnown cx (s.calls ++ c ∷ [])) e.1) (λ e. from_more cx s.calls (c ∷ []) e.1) s.scope h.scope_known;
      recorded = record {
        puts_known = All-weaker (λ p. From (IsKnown cx s.calls) p.1) (λ p. From (IsKnown cx (s.calls ++ c ∷ [])) p.1) (λ p. from_more cx s.calls (c ∷ []) p.1) s.puts h.recorded.puts_known;
        calls_known = EachAfter-insert (λ done d. All (From (IsKnown cx done)) d.args) (λ d. ⊥) s.calls c [] (λ e d u q. elim u [ ]) (All-nil (λ d. ⊥)) k
            (subst (λ (l : List Call). EachAfter (λ done d. All (From (IsKnown cx done)) d.args) l) (sym (append-nil s.calls)) h.recorded.calls_known);
        static_alone = λ e. All-push (λ d. first_runtime d.args ≡ None) s.calls c (h.recorded.static_alone e) (alone (sym is ∙ e));
        silent = λ e. let clash : Some phase ≡ None = sym is ∙ e in cc;
        cells_in = subst (λ x. x ≤ 8192) cells_now m;
        text_in = subst (λ x. x ≤ 131072) text_now n;
      };
      cells_are = cells_now;
      text_are = text_now;
    }

-- the number is that of the last call, which was recorded now
record IsLast (cx : Setting) (keeps : Bool) (s : State) (j : ℕ) (t : State) : Type 0 where
  grows : Grows cx s t
  kept : IsTrue keeps → Keeps t.calls j

below : (n d m e : ℕ) → (nat_lt n d || nat_lt m e) ≡ false → (d ≤ n) × (e ≤ m)
below n d m e h = grind (arith, nat_tests)

record_good : (cx : Setting) (phase : Phase) (recorder method : ℕ) (args : List Value) (keeps : Bool) (s : State) → cx.decl.phase ≡ Some phase → IsSound cx s → All (From (IsKnown cx s.calls)) args → (Some phase ≡ Some Static → first_runtime args ≡ None) →
    Leaves (IsLast cx keeps s) (record_call recorder method args keeps s)
unfolding record_call
record_good cx phase recorder method args keeps s is h k alone =
    by (nat_lt 8192 (s.call_cells + (1 + sum (map cells args))) || nat_lt 131072 (s.call_text + sum (map text_len args))) refl
  where
    c : Call
    c = record { recorder = recorder; method = method; args = args; keeps = keeps }

    by : (b : Bool) → (nat_lt 8192 (s.call_cells + (1 + sum (map cells args))) || nat_lt 131072 (s.call_text + sum (map text_len args))) ≡ b →
        Leaves (IsLast cx keeps s) (if b then Err TooManyRecorded
        else Ok (
          length s.calls,
          record s {
            calls = s.calls ++ record { recorder = recorder; method = method; args = args; keeps = keeps } ∷ [];
            call_cells = s.call_cells + (1 + sum (map cells args));
            call_text = s.call_text + sum (map text_len args);
          },
        ))
    by true e = tt
    by false e =
        let small = below 8192 (s.call_cells + (1 + sum (map cells args))) 131072 (s.call_text + sum (map text_len args)) e in
        record {
          grows = record { later = c ∷ []; grows = refl; sound = one_more cx phase c s is h k alone small.0 small.1 };
          kept = λ t. last_kept s.calls c t;
        }

-- a proxy, which is known where the call keeps what it returns
record IsProxied (cx : Setting) (keeps : Bool) (s : State) (v : Value) (t : State) : Type 0 where
  grows : Grows cx s t
  known : IsTrue keeps → From (IsKnown cx t.calls) v

recorded_good : (cx : Setting) (o : Option Phase) (i : Invoke) (keeps : Bool) (args : List Value) (s : State) → cx.decl.phase ≡ o → IsSound cx s → All (From (IsKnown cx s.calls)) args → Leaves (IsProxied cx keeps s) (recorded cx o i keeps args s)
unfolding recorded
recorded_good cx None i keeps args s is h k = record { grows = grown cx s h; known = λ t. (from_closed (IsKnown cx s.calls)).null }
recorded_good cx (Some phase) i keeps args s is h k =
    left.in_turn (IsLast cx keeps s) (IsProxied cx keeps s) (and_then (lift (fits_phase phase args) s) (λ r. record_call i.recorder i.method args keeps r.1)) (λ j. pure (value.Returned (record { step = cx.step; call = j; phase = phase })))
    (phased (fits_phase phase args) (hands_on phase args))
    (λ j t m. record {
      grows = m.grows;
      known = λ kept. from_Returned (IsKnown cx t.calls) (record { step = cx.step; call = j; phase = phase }) (inr (record { of_step = refl; of_phase = is; kept = m.kept kept }));
    })
  where
    phased : (p : Checked (Unit {0})) → Only (λ u. Some phase ≡ Some Static → first_runtime args ≡ None) p → Leaves (IsLast cx keeps s) (and_then (lift p s) (λ r. record_call i.recorder i.method args keeps r.1))
    phased (Ok u) alone = record_good cx phase i.recorder i.method args keeps s is h k alone
    phased (Err e) alone = tt

called_good : (cx : Setting) (i : Invoke) (keeps : Bool) (s : State) → IsSound cx s → Leaves (IsProxied cx keeps s) (called cx i keeps s)
unfolding called
called_good cx i keeps s h = left.in_turn (AreCounted Always (From (IsKnown cx s.calls)) (from_closed (IsKnown cx s.calls)) (map (meaning cx) i.args) s) (IsProxied cx keeps s) (all (map (meaning cx) i.args) s) (recorded cx cx.decl.phase i keeps)
    (all_counted Always (From (IsKnown cx s.calls)) (from_closed (IsKnown cx s.calls)) (map (meaning cx) i.args) (fine_expressions Always (From (IsKnown cx s.calls)) (from_closed (IsKnown cx s.calls)) cx AnyExpr (any_opens cx) (taken_known cx s.calls) i.args (any_exprs cx i.args)) s)
    (λ vs t k.
    let g : Grows cx s t = stayed cx s t k.still h in
    weaker (IsProxied cx keeps t) (IsProxied cx keeps s) (recorded cx cx.decl.phase i keeps vs t)
    (λ v u m. record { grows = grows_on cx s t u g m.grows; known = m.known })
    (recorded_good cx cx.decl.phase i keeps vs t refl g.sound (still_known cx s t vs g (k.come h.scope_known))))

-- a call, after its turn
call_good : (cx : Setting) (i : Invoke) (keeps : Bool) (s : State) → IsSound cx s → Leaves (IsProxied cx keeps s) (and_then (turn s) (λ r. called cx i keeps r.1))
call_good cx i keeps s h = left.in_turn (λ u t. Grows cx s t) (IsProxied cx keeps s) (turn s) (λ u. called cx i keeps) (turn_good cx s h)
    (λ u t g. weaker (IsProxied cx keeps t) (IsProxied cx keeps s) (called cx i keeps t) (λ v w m. record { grows = grows_on cx s t w g m.grows; known = m.known }) (called_good cx i keeps t g.sound))

-- a value of which each proxy is known
record IsValue (cx : Setting) (s : State) (v : Value) (t : State) : Type 0 where
  grows : Grows cx s t
  known : From (IsKnown cx t.calls) v

value_good : (cx : Setting) (e : Expr) (s : State) → IsSound cx s → Leaves (IsValue cx s) (value_of cx e s)
value_good cx e s h = weaker (IsCounted Always (From (IsKnown cx s.calls)) (from_closed (IsKnown cx s.calls)) s) (IsValue cx s) (value_of cx e s)
    (λ v t k. record { grows = stayed cx s t k.still h; known = subst (λ (l : List Call). From (IsKnown cx l) v) (sym k.still.same_calls) (k.comes h.scope_known) })
    ((fine_expression Always (From (IsKnown cx s.calls)) (from_closed (IsKnown cx s.calls)) cx AnyExpr (any_opens cx) (taken_known cx s.calls) e tt).fine s)

valued : (cx : Setting) (e : Expr) (s : State) → IsSound cx s → Leaves (IsValue cx s) (and_then (turn s) (λ r. value_of cx e r.1))
valued cx e s h = left.in_turn (λ u t. Grows cx s t) (IsValue cx s) (turn s) (λ u. value_of cx e) (turn_good cx s h)
    (λ u t g. weaker (IsValue cx t) (IsValue cx s) (value_of cx e t) (λ v w m. record { grows = grows_on cx s t w g m.grows; known = m.known }) (value_good cx e t g.sound))

with_value : {A : Type 0} (cx : Setting) (e : Expr) (f : Value → Eval A) (s : State) → IsSound cx s → ((v : Value) (t : State) → IsSound cx t → From (IsKnown cx t.calls) v → Leaves (λ a u. Grows cx t u) (f v t)) →
    Leaves (λ a u. Grows cx s u) (and_then (and_then (turn s) (λ r. value_of cx e r.1)) (λ r. f r.0 r.1))
with_value cx e f s h k = left.in_turn (IsValue cx s) (λ a u. Grows cx s u) (and_then (turn s) (λ r. value_of cx e r.1)) f (valued cx e s h)
    (λ v t m. grows_by cx (f v) s t m.grows (k v t m.grows.sound m.known))

-- elements of which each proxy is known
record IsList (cx : Setting) (s : State) (vs : List Value) (t : State) : Type 0 where
  grows : Grows cx s t
  known : All (From (IsKnown cx t.calls)) vs

listed : (cx : Setting) (at : ℕ) (e : Expr) (s : State) → IsSound cx s → Leaves (IsList cx s) (and_then (and_then (turn s) (λ r. value_of cx e r.1)) (λ r. lift (elements at r.0) r.1))
listed cx at e s h = left.in_turn (IsValue cx s) (IsList cx s) (and_then (turn s) (λ r. value_of cx e r.1)) (λ v. lift (elements at v)) (valued cx e s h)
    (λ v t m. checked s t m.grows (elements at v) (elements_have Always (From (IsKnown cx t.calls)) (from_closed (IsKnown cx t.calls)) at v m.known))
  where
    checked : (s t : State) → Grows cx s t → (o : Checked (List Value)) → Only (λ vs. All (From (IsKnown cx t.calls)) vs) o → Leaves (IsList cx s) (lift o t)
    checked s t g (Ok vs) k = record { grows = g; known = k }
    checked s t g (Err x) k = tt

scoped_good : (cx : Setting) (d : Doing) (s : State) → Leaves (λ u t. Grows cx s t) (d s) → Leaves (λ u t. Grows cx s t) (scoped d s)
scoped_good cx d s h = left.in_turn (λ u t. Grows cx s t) (λ u t. Grows cx s t) (d s) (λ u t. Ok (tt, record t { scope = take (length s.scope) t.scope })) h
    (λ u t k. record {
      later = k.later;
      grows = k.grows;
      sound = record {
        scope_known = All-take (λ e. From (IsKnown cx t.calls) e.1) (length s.scope) t.scope k.sound.scope_known;
        recorded = k.sound.recorded;
        cells_are = k.sound.cells_are;
        text_are = k.sound.text_are;
      };
    })

abbrev AllGood : Setting → List Doing → Type 0
AllGood cx [] = Unit {0}
AllGood cx (d ∷ ds) = IsGood cx d × AllGood cx ds

run_good : (cx : Setting) (ds : List Doing) → AllGood cx ds → (s : State) → IsSound cx s → Leaves (λ u t. Grows cx s t) (run ds s)
run_good cx [] h s k = grown cx s k
run_good cx (d ∷ ds) h s k = then_good cx d (λ u. run ds) s (h.0.good s k) (λ u t m. run_good cx ds h.1 t m)

block_good : (cx : Setting) (ds : List Doing) → AllGood cx ds → (s : State) → IsSound cx s → Leaves (λ u t. Grows cx s t) (block ds s)
block_good cx ds h s k = scoped_good cx (run ds) s (run_good cx ds h s k)

turns_good : (cx : Setting) (name : List ℕ) (vs : List Value) (ds : List Doing) → AllGood cx ds → (s : State) → IsSound cx s → All (From (IsKnown cx s.calls)) vs → Leaves (λ u t. Grows cx s t) (turns name vs ds s)
turns_good cx name [] ds h s k a = grown cx s k
turns_good cx name (v ∷ vs) ds h s k a =
    left.in_turn (λ u t. Grows cx s t) (λ u t. Grows cx s t) (and_then (turn s) (λ r. scoped (in_turn name v ds) r.1)) (λ u. turns name vs ds)
    (left.in_turn (λ u t. Grows cx s t) (λ u t. Grows cx s t) (turn s) (λ u. scoped (in_turn name v ds)) (turn_good cx s k)
    (λ u t g. grows_by cx (scoped (in_turn name v ds)) s t g
    (scoped_good cx (in_turn name v ds) t (then_good cx (bind name v) (λ w. run ds) t
    (bind_good cx name v t g.sound (All-head (From (IsKnown cx t.calls)) v vs (still_known cx s t (v ∷ vs) g a))) (λ w x m. run_good cx ds h x m)))))
    (λ u t g. grows_by cx (turns name vs ds) s t g (turns_good cx name vs ds h t g.sound (All-tail (From (IsKnown cx t.calls)) v vs (still_known cx s t (v ∷ vs) g a))))

-- a statement of which it is known
abbrev Known : Setting → Type 0
Known cx = (d : Stmt) × IsGood cx (doing cx d)

known_good : (cx : Setting) (ds : List (Known cx)) → AllGood cx (map (doing cx) (map (λ d. d.0) ds))
known_good cx [] = tt
known_good cx (d ∷ ds) = (d.1, known_good cx ds)

turn_alone : (cx : Setting) → IsGood cx turn
turn_alone cx = record { good = turn_good cx }

abbrev IfAll : Setting → Option (List Doing) → Type 0
IfAll cx None = Unit {0}
IfAll cx (Some ds) = AllGood cx ds

maybe_good : (cx : Setting) (other : Option (List Doing)) → IfAll cx other → (s : State) → IsSound cx s → Leaves (λ u t. Grows cx s t) (maybe other s)
maybe_good cx None h s k = grown cx s k
maybe_good cx (Some ds) h s k = block_good cx ds h s k

branch : (cx : Setting) (ds : List Doing) (other : Option (List Doing)) → AllGood cx ds → IfAll cx other → (b : Bool) (s : State) → IsSound cx s → Leaves (λ u t. Grows cx s t) ((if b then block ds else maybe other) s)
branch cx ds other h k true s m = block_good cx ds h s m
branch cx ds other h k false s m = maybe_good cx other k s m

layer : (cx : Setting) (y : Stmt-F (Known cx)) → IsGood cx (stmt_step cx (map-Stmt Stmt Doing (doing cx) (map-Stmt (Known cx) Stmt (λ d. d.0) y)))
layer cx (form.Let at name e) = record { good = λ s h. with_value cx e (bind name) s h (λ v t k m. bind_good cx name v t k m) }
layer cx (form.LetCall at name i) = record {
  good = λ s h. left.in_turn (IsProxied cx true s) (λ u t. Grows cx s t) (and_then (turn s) (λ r. called cx i true r.1)) (bind name) (call_good cx i true s h)
      (λ v t m. grows_by cx (bind name v) s t m.grows (bind_good cx name v t m.grows.sound (m.known refl)));
}
layer cx (form.CallOf i) = record {
  good = λ s h. left.in_turn (IsProxied cx false s) (λ u t. Grows cx s t) (and_then (turn s) (λ r. called cx i false r.1)) (λ v. pure tt) (call_good cx i false s h)
      (λ v t m. m.grows);
}
layer cx (form.Produce at item e) = record { good = λ s h. with_value cx e (put cx.names item) s h (λ v t k m. put_good cx cx.names item v t k m) }
layer cx (form.For at name e ds) = record {
  good = λ s h.
      left.in_turn (IsList cx s) (λ u t. Grows cx s t) (and_then (and_then (turn s) (λ r. value_of cx e r.1)) (λ r. lift (elements at r.0) r.1)) (λ vs. turns name vs (map (doing cx) (map (λ d. d.0) ds)))
      (listed cx at e s h)
      (λ vs t m. grows_by cx (turns name vs (map (doing cx) (map (λ d. d.0) ds))) s t m.grows (turns_good cx name vs (map (doing cx) (map (λ d. d.0) ds)) (known_good cx ds) t m.grows.sound m.known));
}
layer cx (form.If at e ds None) = record {
  good = λ s h.
      then_good cx (turn >> value_of cx e >>= (λ v. lift (truth at v))) (λ b. if b then block (map (doing cx) (map (λ d. d.0) ds)) else pure tt) s
      (with_value cx e (λ v. lift (truth at v)) s h (λ v t k m. lift_good cx (truth at v) t k))
      (λ b t k. branch cx (map (doing cx) (map (λ d. d.0) ds)) None (known_good cx ds) tt b t k);
}
layer cx (form.If at e ds (Some os)) = record {
  good = λ s h.
      then_good cx (turn >> value_of cx e >>= (λ v. lift (truth at v))) (λ b. if b then block (map (doing cx) (map (λ d. d.0) ds)) else block (map (doing cx) (map (λ d. d.0) os))) s
      (with_value cx e (λ v. lift (truth at v)) s h (λ v t k m. lift_good cx (truth at v) t k))
      (λ b t k. branch cx (map (doing cx) (map (λ d. d.0) ds)) (Some (map (doing cx) (map (λ d. d.0) os))) (known_good cx ds) (known_good cx os) b t k);
}
layer cx (form.FailWith at e) = record { good = λ s h. with_value cx e (λ v. lift (said at v)) s h (λ v t k m. lift_good cx (said at v) t k) }
layer cx (form.Print at e) = turn_alone cx
layer cx (form.Return at e) = turn_alone cx
layer cx (form.Add at e v) = turn_alone cx
layer cx (form.SetStatic at f e) = turn_alone cx
layer cx (form.SetSelf at dot f e) = turn_alone cx
layer cx (form.SetField at dot name f e) = turn_alone cx

good_statement : (cx : Setting) (d : Stmt) → IsGood cx (doing cx d)
good_statement cx = ind-Stmt (λ d. IsGood cx (doing cx d)) (λ x y is.
    subst (λ z. IsGood cx (doing cx (roll-Stmt z))) is
    (subst (λ p. IsGood cx p) (sym (fold-roll-Stmt Doing (stmt_step cx) (map-Stmt (Known cx) Stmt (λ d. d.0) y))) (layer cx y)))

good_statements : (cx : Setting) (ds : List Stmt) → AllGood cx (map (doing cx) ds)
good_statements cx [] = tt
good_statements cx (d ∷ ds) = (good_statement cx d, good_statements cx ds)

start_sound : (cx : Setting) → IsSound cx start
start_sound cx = record {
  scope_known = All-nil (λ e. From (IsKnown cx []) e.1);
  recorded = record {
    puts_known = All-nil (λ p. From (IsKnown cx []) p.1);
    calls_known = EachAfter-nil (λ done d. All (From (IsKnown cx done)) d.args);
    static_alone = λ e. All-nil (λ d. first_runtime d.args ≡ None);
    silent = λ e. refl;
    cells_in = omega arith;
    text_in = omega arith;
  };
  cells_are = refl;
  text_are = refl;
}

done_recorded : (cx : Setting) (o : Checked (Unit {0} × State)) (puts : List (ℕ × Value)) (calls : List Call) → Leaves (λ u t. Grows cx start t) o → ended o ≡ Done puts calls → IsRecorded cx puts calls
done_recorded cx (Ok r) puts calls h e =
    let same_puts : r.1.puts ≡ puts = cc in
    let same_calls : r.1.calls ≡ calls = cc in
    subst (λ x. IsRecorded cx x calls) same_puts (subst (λ x. IsRecorded cx r.1.puts x) same_calls h.sound.recorded)
done_recorded cx (Err x) puts calls h e = cc

-- what a step produces and records, where its body came to its end
pub records_soundly : (cx : Setting) (ds : List Stmt) (puts : List (ℕ × Value)) (calls : List Call) → ended (body_of cx (map (doing cx) ds) start) ≡ Done puts calls → IsRecorded cx puts calls
records_soundly cx ds puts calls e =
    done_recorded cx (body_of cx (map (doing cx) ds) start) puts calls
    (then_good cx (lift (taking cx.decl.consumes cx.lists 0 0 0)) (λ u. run (map (doing cx) ds)) start
    (lift_good cx (taking cx.decl.consumes cx.lists 0 0 0) start (start_sound cx)) (λ u t k. run_good cx (map (doing cx) ds) (good_statements cx ds) t k))
    e
