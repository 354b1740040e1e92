-- All that a step produces and records is within the bounds, where what it took is.
use Rattle.std.proofs.Common.{ℕ, List, map, Ok, Err, slice_get}
use Rattle.std.specs.List.{All}
use Rattle.std.proofs.lemmas.List.Elements.{All-weaker}
use Rattle.item_types.specs.Bounds.{IsBounded}
use Rattle.item_types.specs.declared.decl.Names.{Names}
use Rattle.item_types.specs.declared.step.StepDecl.{StepDecl}
use Rattle.item_types.specs.declared.value.Value.{Value}
use Rattle.syntax_tree.specs.declared.tree.Body.{Body}
use Rattle.step_state.specs.declared.outcome.Inputs.{Inputs}
use Rattle.step_state.specs.declared.state.State.{State}
use Rattle.step_state.specs.Evaluation.{Checked}
use Rattle.step_state.specs.Spending.{fits_item, start}
use Rattle.step_eval.specs.BodyMeaning.{body_of, ended, given, meaning_of_a_body}
use Rattle.step_eval.specs.BoundedOutcome.{HasBoundedValues}
use Rattle.step_eval.specs.Setting.{Setting}
use Rattle.step_eval.specs.Statements.{doing}
use Rattle.step_eval.proofs.Closed.{Always, Only}
use Rattle.step_eval.proofs.FineExpressions.{TakenFrom}
use Rattle.step_eval.proofs.Kept.{Holds, body_holds}
use Rattle.step_eval.proofs.Leaves.{Leaves, IsSized}
use Rattle.step_eval.proofs.Rightly.{AnyExpr, any_opens}
use Rattle.step_eval.proofs.RightStatements.{AnyPut, AnyCall, AnyStmt, any_stmts, any_opens_stmt}
use Rattle.step_eval.proofs.Short.{Short, short_closed, short_Returned}

abbrev AnyValue : ℕ → Value → Type 0
AnyValue item v = Unit {0}

any_put : (cx : Setting) (item : ℕ) (v : Value) (puts : List (ℕ × Value)) → AnyPut item → Only (λ u. AnyValue item v) (fits_item cx.names item v puts (slice_get cx.names.items item))
any_put cx item v puts may = by (fits_item cx.names item v puts (slice_get cx.names.items item))
  where
    by : (o : Checked (Unit {0})) → Only (λ u. AnyValue item v) o
    by (Ok u) = tt
    by (Err e) = tt

bounded : (v : Value) → IsSized v × Short v → IsBounded v
bounded v h = record { depth_in = h.0.depth_in; cells_in = h.0.cells_in; text_in = h.0.text_in; longest_in = h.1 }

abbrev HoldsShort : (cx : Setting) → TakenFrom Always Short short_closed cx → State → Type 0
HoldsShort cx taken = Holds Always Short short_closed short_Returned cx taken AnyExpr (any_opens cx) AnyPut AnyValue (any_put cx) AnyCall AnyStmt (any_opens_stmt cx)

ended_bounded : (cx : Setting) (taken : TakenFrom Always Short short_closed cx) (o : Checked (Unit {0} × State)) → Leaves (λ u t. HoldsShort cx taken t) o → HasBoundedValues (ended o)
ended_bounded cx taken (Ok r) h = (
  All-weaker (λ p. (IsSized p.1 × Short p.1) × AnyValue p.0 p.1) (λ p. IsBounded p.1) (λ p k. bounded p.1 k.0) r.1.puts h.puts_in,
  All-weaker (λ c. All (λ v. IsSized v × Short v) c.args × Unit {0}) (λ c. All IsBounded c.args) (λ c k. All-weaker (λ v. IsSized v × Short v) IsBounded bounded c.args k.0) r.1.calls h.calls_in,
)
ended_bounded cx taken (Err e) h = tt

-- each produced value and each argument of a recorded call is within the bounds, where what was taken is
pub outcome_is_bounded : (names : Names) (decl : StepDecl) (step : ℕ) (body : Body) (inputs : Inputs) → All (λ vs. All IsBounded vs) inputs.lists → HasBoundedValues (meaning_of_a_body names decl step body inputs)
outcome_is_bounded names decl step body inputs h =
    let cx : Setting = given names decl step inputs in
    let taken : TakenFrom Always Short short_closed cx = All-weaker (λ vs. All IsBounded vs) (λ vs. All Short vs) (λ vs. All-weaker IsBounded Short (λ v k. k.longest_in) vs) inputs.lists h in
    ended_bounded cx taken (body_of cx (map (doing cx) body.stmts) start)
    (body_holds Always Short short_closed short_Returned cx taken AnyExpr (any_opens cx) AnyPut AnyValue (any_put cx) AnyCall AnyStmt (any_opens_stmt cx) body.stmts (any_stmts body.stmts))
