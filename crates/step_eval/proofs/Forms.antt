-- The value of a new bean.
use Rattle.std.proofs.Common.{◌≡◌, ℕ, List, map, Result, sym, ap, subst, ◌∙◌}
use Rattle.item_types.specs.declared.value.Value.{Value}
use Rattle.syntax_tree.specs.declared.tree.Expr.{Expr, fold-roll-Expr}
use Rattle.syntax_tree.specs.declared.tree.Expr.TheOpen as form
use Rattle.syntax_tree.specs.declared.tree.Expr.TheVariants as tree
use Rattle.step_state.specs.declared.state.State.{State}
use Rattle.step_state.specs.declared.stop.Stop.{Stop}
use Rattle.step_state.specs.Evaluation.{Eval, Evals}
use Rattle.step_eval.specs.Expressions.{Part, expr_step, meaning, value_of, new_of}
use Rattle.step_eval.specs.Setting.{Setting}

new_is : (cx : Setting) (at bean : ℕ) (fields : List (List ℕ × Expr)) → (meaning cx (tree.New at bean fields)).eval ≡ new_of cx at bean (map (λ f. (f.0, meaning cx f.1)) fields)
new_is cx at bean fields =
    ap (λ (e : Expr). (meaning cx e).eval) (sym (tree.rolls-New at bean fields)) ∙ ap (λ (p : Part). p.eval) (fold-roll-Expr Part (expr_step cx) (form.New at bean fields))

pub new_after : (cx : Setting) (at bean : ℕ) (fields xs : List (List ℕ × Expr)) (e : Expr) (s : State) (r : Result Value Stop) (new : State) →
    e ≡ tree.New at bean fields → xs ≡ fields → Evals (new_of cx at bean (map (λ f. (f.0, meaning cx f.1)) xs) s) r new → Evals (value_of cx e s) r new
new_after cx at bean fields xs e s r new is same h =
    let h' : Evals (new_of cx at bean (map (λ f. (f.0, meaning cx f.1)) fields) s) r new =
    subst (λ (ys : List (List ℕ × Expr)). Evals (new_of cx at bean (map (λ f. (f.0, meaning cx f.1)) ys) s) r new) same h in
    subst (λ (x : Expr). Evals (value_of cx x s) r new) (sym is)
    (subst (λ (p : Eval Value). Evals (p s) r new) (sym (new_is cx at bean fields)) h')
