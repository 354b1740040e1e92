-- The meaning of a statement. This project's own.
use Rattle.std.specs.Prelude.{ℕ, Bool, true, false, if◌then◌else◌, List, [], ◌∷◌, map, Option, Some, None, Ok, Err}
use Rattle.item_types.specs.declared.step.Phase.{Phase}
use Rattle.item_types.specs.declared.step.Phase.TheVariants.{Static, Runtime}
use Rattle.item_types.specs.declared.value.Proxy.{Proxy}
use Rattle.item_types.specs.declared.value.Value.{Value}
use Rattle.item_types.specs.declared.value.Value.TheVariants as value
use Rattle.recorder_proxy.specs.Proxies.{first_runtime}
use Rattle.syntax_tree.specs.declared.tree.Invoke.{Invoke}
use Rattle.syntax_tree.specs.declared.tree.Stmt.{Stmt}
use Rattle.syntax_tree.specs.declared.tree.Stmt.TheOpen.{Stmt-F}
use Rattle.syntax_tree.specs.declared.tree.Stmt.TheOpen as form
use Rattle.syntax_tree.specs.declared.tree.Stmt.TheFolds.{fold-Stmt}
use Rattle.step_state.specs.declared.outcome.Reason.TheVariants.{RuntimeInStatic}
use Rattle.step_state.specs.Evaluation.{Checked, Eval, ◌>>=◌, ◌>>◌, pure, lift}
use Rattle.step_eval.specs.Expressions.{meaning, value_of, all}
use Rattle.step_state.specs.Operations.{truth, elements, said}
use Rattle.step_state.specs.Scoped.{bind, scoped}
use Rattle.step_eval.specs.Setting.{Setting}
use Rattle.step_state.specs.Spending.{turn, put, record_call}

abbrev pub Doing : Type 0
Doing = Eval (Unit {0})

-- one after the other
abbrev pub run : List Doing → Doing
run [] = pure tt
run (p ∷ ps) = p >> run ps

abbrev pub block : List Doing → Doing
block ps = scoped (run ps)

abbrev pub maybe : Option (List Doing) → Doing
maybe None = pure tt
maybe (Some ps) = block ps

abbrev pub in_turn : List ℕ → Value → List Doing → Doing
in_turn name v ps = bind name v >> run ps

-- one turn for each value
abbrev pub turns : List ℕ → List Value → List Doing → Doing
turns name [] ps = pure tt
turns name (v ∷ vs) ps = turn >> scoped (in_turn name v ps) >> turns name vs ps

abbrev pub refuse_runtime : Option Proxy → Checked (Unit {0})
refuse_runtime None = Ok tt
refuse_runtime (Some p) = Err (RuntimeInStatic p)

-- a static step hands no runtime proxy to a call
abbrev pub fits_phase : Phase → List Value → Checked (Unit {0})
fits_phase Static args = refuse_runtime (first_runtime args)
fits_phase Runtime args = Ok tt

-- the proxy of the value of a call that is recorded; a step without a phase records none
unfoldable pub recorded : Setting → Option Phase → Invoke → Bool → List Value → Eval Value
recorded cx None i keeps args = pure value.Null
recorded cx (Some phase) i keeps args =
    lift (fits_phase phase args) >> record_call i.recorder i.method args keeps >>= (λ j. pure (value.Returned (record { step = cx.step; call = j; phase = phase })))

-- a call, after its arguments
unfoldable pub called : Setting → Invoke → Bool → Eval Value
called cx i keeps = all (map (meaning cx) i.args) >>= recorded cx cx.decl.phase i keeps

abbrev pub stmt_step : Setting → Stmt-F Doing → Doing
stmt_step cx (form.Let at name e) = turn >> value_of cx e >>= bind name
stmt_step cx (form.LetCall at name i) = turn >> called cx i true >>= bind name
stmt_step cx (form.CallOf i) = turn >> called cx i false >> pure tt
stmt_step cx (form.Produce at item e) = turn >> value_of cx e >>= put cx.names item
stmt_step cx (form.For at name e ps) = turn >> value_of cx e >>= (λ v. lift (elements at v)) >>= (λ vs. turns name vs ps)
stmt_step cx (form.If at e ps other) = turn >> value_of cx e >>= (λ v. lift (truth at v)) >>= (λ b. if b then block ps else maybe other)
stmt_step cx (form.FailWith at e) = turn >> value_of cx e >>= (λ v. lift (said at v))
stmt_step cx (form.Print at e) = turn
stmt_step cx (form.Return at e) = turn
stmt_step cx (form.Add at e v) = turn
stmt_step cx (form.SetStatic at f e) = turn
stmt_step cx (form.SetSelf at dot f e) = turn
stmt_step cx (form.SetField at dot name f e) = turn

abbrev pub doing : Setting → Stmt → Doing
doing cx = fold-Stmt Doing (stmt_step cx)
