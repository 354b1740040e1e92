-- The names in scope during an evaluation. This project's own.
use Rattle.std.specs.Prelude.{ℕ, length, take, List, [], ◌∷◌, ◌++◌, unwrap_or, Ok}
use Rattle.item_types.specs.declared.value.Value.{Value}
use Rattle.item_types.specs.declared.value.Value.TheVariants.{Null}
use Rattle.step_state.specs.Evaluation.{Eval, and_then}
use Rattle.operators.specs.Found.{found}

-- the newest value of the name
abbrev pub look : List ℕ → Eval Value
look name = λ s. Ok (unwrap_or (found s.scope name) Null, s)

-- a new name, which hides the older ones
abbrev pub bind : List ℕ → Value → Eval (Unit {0})
bind name v = λ s. Ok (tt, record s { scope = s.scope ++ (name, v) ∷ [] })

-- only the names that were in scope before stay
abbrev pub scoped : Eval (Unit {0}) → Eval (Unit {0})
scoped p = λ s. and_then (p s) (λ r. Ok (tt, record r.1 { scope = take (length s.scope) r.1.scope }))
