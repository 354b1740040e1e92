-- A recorded call is the next one, and its proxy has its number.
use Rattle.std.proofs.Common.{◌≡◌, ℕ, Bool, true, false, nat_lt, ◌+◌, ◌||◌, if◌then◌else◌, List, [], ◌∷◌, ◌++◌, map, sum, length, Option, Some, Ok, Err, refl, sym, ap, subst, ◌∙◌}
use Rattle.item_types.specs.Measure.{cells, text_len}
use Rattle.item_types.specs.declared.step.Phase.{Phase}
use Rattle.item_types.specs.declared.value.Value.{Value}
use Rattle.item_types.specs.declared.value.Value.TheVariants as value
use Rattle.recorder_proxy.specs.declared.call.Call.{Call}
use Rattle.syntax_tree.specs.declared.tree.Invoke.{Invoke}
use Rattle.step_state.specs.declared.outcome.Reason.TheVariants.{TooManyRecorded}
use Rattle.step_state.specs.declared.state.State.{State}
use Rattle.step_state.specs.Evaluation.{Checked, pure, lift, and_then}
use Rattle.step_eval.specs.Expressions.{meaning, all}
use Rattle.step_eval.specs.KeptCall.{IsNextCall}
use Rattle.step_eval.specs.Setting.{Setting}
use Rattle.step_state.specs.Spending.{record_call}
use Rattle.step_eval.specs.Statements.{fits_phase, recorded, called}
use Rattle.step_eval.proofs.Rightly.{AnyExpr, any_exprs, any_opens}
use Rattle.step_eval.proofs.Leaves.{Leaves, in_turn, lifted, weaker}
use Rattle.step_eval.proofs.Closed.{Always}
use Rattle.step_eval.proofs.FineExpressions.{AreCounted, all_counted, fine_expressions, Any, any_closed, any_taken}

-- the number is that of the last call, which was recorded now
record IsLast (i : Invoke) (keeps : Bool) (args : List Value) (s : State) (j : ℕ) (t : State) : Type 0 where
  number : j ≡ length s.calls
  last : t.calls ≡ s.calls ++ record { recorder = i.recorder; method = i.method; args = args; keeps = keeps } ∷ []

record_last : (i : Invoke) (keeps : Bool) (args : List Value) (s : State) → Leaves (IsLast i keeps args s) (record_call i.recorder i.method args keeps s)
unfolding record_call
record_last i keeps args s = elim (nat_lt 8192 (s.call_cells + (1 + sum (map cells args))) || nat_lt 131072 (s.call_text + sum (map text_len args))) as
    (λ b. Leaves (IsLast i keeps args s) (if b then Err TooManyRecorded
    else Ok (
      length s.calls,
      record s {
        calls = s.calls ++ record { recorder = i.recorder; method = i.method; args = args; keeps = keeps } ∷ [];
        call_cells = s.call_cells + (1 + sum (map cells args));
        call_text = s.call_text + sum (map text_len args);
      },
    )))
    [ true ↦ tt | false ↦ record { number = refl; last = refl } ]

recorded_next : (cx : Setting) (phase : Phase) (i : Invoke) (keeps : Bool) (args : List Value) (s : State) (o : Option Phase) → Some phase ≡ o → Leaves (IsNextCall cx.step phase i keeps s) (recorded cx o i keeps args s)
unfolding recorded
recorded_next cx phase i keeps args s o is = subst (λ (p : Option Phase). Leaves (IsNextCall cx.step phase i keeps s) (recorded cx p i keeps args s)) is
    (in_turn (IsLast i keeps args s) (IsNextCall cx.step phase i keeps s) (and_then (lift (fits_phase phase args) s) (λ r. record_call i.recorder i.method args keeps r.1)) (λ j. pure (value.Returned (record { step = cx.step; call = j; phase = phase })))
    (in_turn (λ u t. t ≡ s) (IsLast i keeps args s) (lift (fits_phase phase args) s) (λ u. record_call i.recorder i.method args keeps) (lifted (λ u t. t ≡ s) (fits_phase phase args) s (λ u. refl))
    (λ u t e. subst (λ (z : State). Leaves (IsLast i keeps args s) (record_call i.recorder i.method args keeps z)) (sym e) (record_last i keeps args s)))
    (λ j t k. record { args = args; proxy = ap (λ n. value.Returned (record { step = cx.step; call = n; phase = phase })) k.number; recorded = k.last }))

called_next : (cx : Setting) (phase : Phase) (i : Invoke) (keeps : Bool) (s : State) → cx.decl.phase ≡ Some phase → Leaves (IsNextCall cx.step phase i keeps s) (called cx i keeps s)
unfolding called
called_next cx phase i keeps s is = in_turn (AreCounted Always Any any_closed (map (meaning cx) i.args) s) (IsNextCall cx.step phase i keeps s) (all (map (meaning cx) i.args) s) (recorded cx cx.decl.phase i keeps)
    (all_counted Always Any any_closed (map (meaning cx) i.args) (fine_expressions Always Any any_closed cx AnyExpr (any_opens cx) (any_taken cx) i.args (any_exprs cx i.args)) s)
    (λ vs t k. weaker (IsNextCall cx.step phase i keeps t) (IsNextCall cx.step phase i keeps s) (recorded cx cx.decl.phase i keeps vs t)
    (λ v u m. record {
      args = m.args;
      proxy = m.proxy ∙ ap (λ (l : List Call). value.Returned (record { step = cx.step; call = length l; phase = phase })) k.still.same_calls;
      recorded = m.recorded ∙ ap (λ (l : List Call). l ++ record { recorder = i.recorder; method = i.method; args = m.args; keeps = keeps } ∷ []) k.still.same_calls;
    })
    (recorded_next cx phase i keeps vs t cx.decl.phase (sym is)))

pub next_call : (cx : Setting) (phase : Phase) (i : Invoke) (keeps : Bool) (before after : State) (v : Value) → cx.decl.phase ≡ Some phase → called cx i keeps before ≡ Ok (v, after) → IsNextCall cx.step phase i keeps before v after
next_call cx phase i keeps before after v is e = subst (λ (o : Checked (Value × State)). Leaves (IsNextCall cx.step phase i keeps before) o) e (called_next cx phase i keeps before is)
