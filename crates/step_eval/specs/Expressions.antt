-- The meaning of an expression. This project's own.
use Rattle.std.specs.Prelude.{ℕ, Bool, true, false, not, if◌then◌else◌, List, [], ◌∷◌, drop, slice_index, slice_get}
use Rattle.item_types.specs.Named.{fields_of}
use Rattle.item_types.specs.declared.value.Value.{Value}
use Rattle.item_types.specs.declared.value.Value.TheVariants as value
use Rattle.syntax_tree.specs.declared.tree.Link.{Link}
use Rattle.syntax_tree.specs.declared.tree.Expr.{Expr}
use Rattle.syntax_tree.specs.declared.tree.Expr.TheOpen.{Expr-F}
use Rattle.syntax_tree.specs.declared.tree.Expr.TheOpen as form
use Rattle.syntax_tree.specs.declared.tree.Expr.TheFolds.{fold-Expr}
use Rattle.step_state.specs.Evaluation.{Eval, ◌>>=◌, pure, lift}
use Rattle.step_state.specs.Operations.{text, plus, less, equal, truth, count, field, arranged}
use Rattle.step_state.specs.Scoped.{look}
use Rattle.step_eval.specs.Setting.{Setting}
use Rattle.step_state.specs.Spending.{made, made_list, made_bean}
use Rattle.step_eval.specs.Taken.{taken, first_of}

-- the first token of an expression, and its meaning
pub record Part : Type 0 where
  pub first : ℕ
  pub eval : Eval Value

-- the values of all parts, from left to right
abbrev pub all : List Part → Eval (List Value)
all [] = pure []
all (p ∷ ps) = p.eval >>= (λ v. all ps >>= (λ vs. pure (v ∷ vs)))

-- the same, each beside its field's name
abbrev pub named : List (List ℕ × Part) → Eval (List (List ℕ × Value))
named [] = pure []
named (p ∷ ps) = p.1.eval >>= (λ v. named ps >>= (λ vs. pure ((p.0, v) ∷ vs)))

-- one more part of a sum
unfoldable pub added : Value → ℕ → Part → Eval Value
added v sign p = p.eval >>= (λ w. lift (plus sign v w))

-- each sum is made before the next part is evaluated
abbrev pub sum_from : Value → List Part → List ℕ → Eval Value
sum_from v [] signs = pure v
sum_from v (p ∷ ps) signs = added v (slice_index signs 0) p >>= (λ u. sum_from u ps (drop 1 signs))

abbrev pub sum : List Part → List ℕ → Eval Value
sum [] signs = pure value.Null
sum (p ∷ ps) signs = p.eval >>= (λ v. sum_from v ps signs)

-- it stops at the first false; the token of an operand is the sign before it, that of the first one the sign after it
abbrev pub both_from : ℕ → List Part → List ℕ → Eval Bool
both_from at [] signs = pure true
both_from at (p ∷ ps) signs =
    p.eval >>= (λ v. lift (truth at v)) >>= (λ b. if b then both_from (slice_index signs 0) ps (drop 1 signs) else pure false)

-- the first token of the first part
abbrev pub lead : List Part → ℕ
lead [] = 0
lead (p ∷ ps) = p.first

-- each field of the value before it, which is a value of its own
abbrev pub chain : Setting → ℕ → List Link → Value → Eval Value
chain cx at [] v = pure v
chain cx at (l ∷ ls) v = lift (field cx.names l.dot l.field v) >>= made at >>= chain cx at ls

-- the parts in written order, and then the bean
unfoldable pub new_of : Setting → ℕ → ℕ → List (List ℕ × Part) → Eval Value
new_of cx at bean fields = named fields >>= (λ vs. made_bean at cx.step bean (arranged (fields_of (slice_get cx.names.beans bean)) vs))

-- an expression whose value is counted
abbrev pub counted : ℕ → Eval Value → Part
counted at p = record { first = at; eval = p >>= made at }

-- what each form does, where the parts' meanings stand in their places
abbrev pub expr_step : Setting → Expr-F Part → Part
expr_step cx (form.Null at) = counted at (pure value.Null)
expr_step cx (form.Bool at b) = counted at (pure (value.Bool b))
expr_step cx (form.Long at n) = counted at (pure (value.Long n))
expr_step cx (form.Str at t) = counted at (lift (text t))
expr_step cx (form.Name at name) = counted at (look name)
expr_step cx (form.Get at item) = counted at (pure (first_of (taken cx item)))
expr_step cx (form.All at item) = record { first = at; eval = made_list at cx.step (taken cx item) }
expr_step cx (form.New at bean fields) = record { first = at; eval = new_of cx at bean fields }
expr_step cx (form.ListOf at parts) = record { first = at; eval = all parts >>= made_list at cx.step }
expr_step cx (form.Fields inner links) = record { first = inner.first; eval = inner.eval >>= chain cx inner.first links }
expr_step cx (form.Len at inner) = counted at (inner.eval >>= (λ v. lift (count at v)))
expr_step cx (form.Not at inner) = counted at (inner.eval >>= (λ v. lift (truth at v)) >>= (λ b. pure (value.Bool (not b))))
expr_step cx (form.Sum parts signs) = counted (lead parts) (sum parts signs)
expr_step cx (form.Both parts signs) =
    counted (lead parts) (both_from (slice_index signs 0) parts signs >>= (λ b. pure (value.Bool b)))
expr_step cx (form.Equal left sign right) = counted left.first (left.eval >>= (λ a. right.eval >>= (λ b. lift (equal sign a b))))
expr_step cx (form.Less left sign right) = counted left.first (left.eval >>= (λ a. right.eval >>= (λ b. lift (less sign a b))))
expr_step cx (form.Paren at inner) = record { first = at; eval = inner.eval }
expr_step cx (form.Me at) = counted at (pure value.Null)
expr_step cx (form.StaticOf at f) = counted at (pure value.Null)

abbrev pub meaning : Setting → Expr → Part
meaning cx = fold-Expr Part (expr_step cx)

abbrev pub first_token : Setting → Expr → ℕ
first_token cx e = (meaning cx e).first

abbrev pub value_of : Setting → Expr → Eval Value
value_of cx e = (meaning cx e).eval
