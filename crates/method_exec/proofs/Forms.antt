-- The value of a new bean.
use Rattle.std.proofs.Common.{◌≡◌, ℕ, List, map, Result, sym, ap, subst, ◌∙◌}
use Rattle.syntax_tree.specs.declared.tree.Expr.{Expr, fold-roll-Expr}
use Rattle.syntax_tree.specs.declared.tree.Expr.TheOpen as form
use Rattle.syntax_tree.specs.declared.tree.Expr.TheVariants as tree
use Rattle.startup_rules.specs.Worlds.{World}
use Rattle.startup_rules.specs.declared.slot.Slot.{Slot}
use Rattle.startup_rules.specs.Acting.{Act}
use Rattle.startup_rules.specs.Methods.{Env, Setting, expr_step, value, new_of}
use Rattle.method_exec.specs.Walking.{Does}
use Rattle.method_exec.specs.declared.stop.Stop.{Stop}

new_is : (cx : Setting) (env : Env) (at bean : ℕ) (fields : List (List ℕ × Expr)) → value cx env (tree.New at bean fields) ≡ new_of cx bean (map (λ f. (f.0, value cx env f.1)) fields)
new_is cx env at bean fields = ap (value cx env) (sym (tree.rolls-New at bean fields)) ∙ fold-roll-Expr (Act Slot) (expr_step cx env) (form.New at bean fields)

pub new_after : (cx : Setting) (env : Env) (at bean : ℕ) (fields xs : List (List ℕ × Expr)) (e : Expr) (w : World) (r : Result Slot Stop) (new : World) →
    e ≡ tree.New at bean fields → xs ≡ fields → Does (new_of cx bean (map (λ f. (f.0, value cx env f.1)) xs) w) r new → Does (value cx env e w) r new
new_after cx env at bean fields xs e w r new is same h =
    let h' : Does (new_of cx bean (map (λ f. (f.0, value cx env f.1)) fields) w) r new =
    subst (λ (ys : List (List ℕ × Expr)). Does (new_of cx bean (map (λ f. (f.0, value cx env f.1)) ys) w) r new) same h in
    subst (λ (x : Expr). Does (value cx env x w) r new) (sym is)
    (subst (λ (p : Act Slot). Does (p w) r new) (sym (new_is cx env at bean fields)) h')
