-- The meaning of a method: a fold over its tree, which reaches the world through operations alone. This project's own.
use Rattle.std.specs.Prelude.{ℕ, Bool, true, false, if◌then◌else◌, List, [], ◌∷◌, ◌++◌, map, take, drop, length, slice_index, slice_get, Option, Some, None, unwrap_or, Result, Ok, Err}
use Rattle.item_types.specs.Named.{bean_name, recorder_methods, method_params}
use Rattle.item_types.specs.declared.decl.Names.{Names}
use Rattle.operators.specs.Found.{found}
use Rattle.operators.specs.Operations.{is_too_long}
use Rattle.syntax_tree.specs.declared.tree.Link.{Link}
use Rattle.syntax_tree.specs.declared.tree.Method.{Method}
use Rattle.syntax_tree.specs.declared.tree.Methods.{Methods}
use Rattle.syntax_tree.specs.declared.tree.Expr.{Expr}
use Rattle.syntax_tree.specs.declared.tree.Expr.TheOpen.{Expr-F}
use Rattle.syntax_tree.specs.declared.tree.Expr.TheOpen as form
use Rattle.syntax_tree.specs.declared.tree.Expr.TheFolds.{fold-Expr}
use Rattle.syntax_tree.specs.declared.tree.Stmt.{Stmt}
use Rattle.syntax_tree.specs.declared.tree.Stmt.TheOpen.{Stmt-F}
use Rattle.syntax_tree.specs.declared.tree.Stmt.TheOpen as stmt
use Rattle.syntax_tree.specs.declared.tree.Stmt.TheFolds.{fold-Stmt}
use Rattle.startup_rules.specs.Worlds.{World}
use Rattle.startup_rules.specs.declared.slot.Slot.{Slot}
use Rattle.startup_rules.specs.declared.slot.Slot.TheVariants as slot
use Rattle.startup_rules.specs.declared.fault.Invoked.{Invoked}
use Rattle.startup_rules.specs.declared.fault.Invoked.TheVariants.{Value}
use Rattle.startup_rules.specs.declared.op.Op.{Op}
use Rattle.startup_rules.specs.declared.op.Op.TheVariants as op
use Rattle.startup_rules.specs.Operations.{Within}
use Rattle.startup_rules.specs.Acting.{Act, Ends, ◌>>=◌, ◌>>◌, pure, give, op as made, listed}

-- the names in scope and their values, the newest last
abbrev pub Env : Type 0
Env = List (List ℕ × Slot)

-- what the operations stand in, and the receiver
pub record Setting : Type 0 where
  pub within : Within
  pub me : ℕ

-- a literal
abbrev pub text : Setting → List ℕ → Act Slot
text cx t = if is_too_long t then made cx.within op.LongText else pure (slot.Str t)

abbrev pub all : List (Act Slot) → Act (List Slot)
all [] = pure []
all (p ∷ ps) = p >>= (λ v. all ps >>= (λ vs. pure (v ∷ vs)))

abbrev pub named : List (List ℕ × Act Slot) → Act (List (List ℕ × Slot))
named [] = pure []
named (p ∷ ps) = p.1 >>= (λ v. named ps >>= (λ vs. pure ((p.0, v) ∷ vs)))

-- one more part of a sum
abbrev pub added : Setting → Slot → ℕ → Act Slot → Act Slot
added cx v sign p = p >>= (λ w. made cx.within (op.Plus v w sign))

-- each sum is made before the next part is evaluated
abbrev pub sum_from : Setting → Slot → List (Act Slot) → List ℕ → Act Slot
sum_from cx v [] signs = pure v
sum_from cx v (p ∷ ps) signs = added cx v (slice_index signs 0) p >>= (λ u. sum_from cx u ps (drop 1 signs))

abbrev pub sum : Setting → List (Act Slot) → List ℕ → Act Slot
sum cx [] signs = pure slot.Null
sum cx (p ∷ ps) signs = p >>= (λ v. sum_from cx v ps signs)

abbrev pub is_true : Slot → Bool
is_true (slot.Bool b) = b
is_true _ = false

-- a value as a truth value
abbrev pub test : Setting → Slot → ℕ → Act Bool
test cx v at = made cx.within (op.Truth v at) >>= (λ b. pure (is_true b))

-- it stops at the first false
abbrev pub both_from : Setting → ℕ → List (Act Slot) → List ℕ → Act Bool
both_from cx at [] signs = pure true
both_from cx at (p ∷ ps) signs =
    p >>= (λ v. test cx v at) >>= (λ b. if b then both_from cx (slice_index signs 0) ps (drop 1 signs) else pure false)

abbrev pub chain : Setting → List Link → Slot → Act Slot
chain cx [] v = pure v
chain cx (l ∷ ls) v = made cx.within (op.FieldOf v l.field l.dot) >>= chain cx ls

-- the parts in written order, and then the bean
abbrev pub new_of : Setting → ℕ → List (List ℕ × Act Slot) → Act Slot
new_of cx bean fields = named fields >>= (λ fs. made cx.within (op.Bean fs (bean_name (slice_get cx.within.names.beans bean))))

-- the newest value of the name
abbrev pub named_value : Env → List ℕ → Slot
named_value env name = unwrap_or (found env name) slot.Null

abbrev pub expr_step : Setting → Env → Expr-F (Act Slot) → Act Slot
expr_step cx env (form.Null at) = pure slot.Null
expr_step cx env (form.Bool at b) = pure (slot.Bool b)
expr_step cx env (form.Long at n) = pure (slot.Long n)
expr_step cx env (form.Str at t) = text cx t
expr_step cx env (form.Name at name) = pure (named_value env name)
expr_step cx env (form.Get at item) = pure slot.Null
expr_step cx env (form.All at item) = pure slot.Null
expr_step cx env (form.New at bean fields) = new_of cx bean fields
expr_step cx env (form.ListOf at parts) = all parts >>= (λ vs. made cx.within (op.ListOf vs))
expr_step cx env (form.Fields inner links) = inner >>= chain cx links
expr_step cx env (form.Len at inner) = inner >>= (λ v. made cx.within (op.Len v at))
expr_step cx env (form.Not at inner) = inner >>= (λ v. made cx.within (op.Not v at))
expr_step cx env (form.Sum parts signs) = sum cx parts signs
expr_step cx env (form.Both parts signs) = both_from cx (slice_index signs 0) parts signs >>= (λ b. pure (slot.Bool b))
expr_step cx env (form.Equal left sign right) = left >>= (λ a. right >>= (λ b. made cx.within (op.Equal a b)))
expr_step cx env (form.Less left sign right) = left >>= (λ a. right >>= (λ b. made cx.within (op.Less a b sign)))
expr_step cx env (form.Paren at inner) = inner
expr_step cx env (form.Me at) = pure (slot.Obj cx.me)
expr_step cx env (form.StaticOf at f) = made cx.within (op.GetStatic f)

-- the value of an expression
abbrev pub value : Setting → Env → Expr → Act Slot
value cx env = fold-Expr (Act Slot) (expr_step cx env)

-- a statement gives the names in scope after it
abbrev pub Doing : Type 0
Doing = Env → Act Env

abbrev pub run : List Doing → Doing
run [] env = pure env
run (d ∷ ds) env = d env >>= run ds

-- only the names that were in scope before a block stay
abbrev pub cut : Env → Env → Act Env
cut env env' = pure (take (length env) env')

abbrev pub block : List Doing → Doing
block ds env = run ds env >>= cut env

abbrev pub maybe : Option (List Doing) → Doing
maybe None env = pure env
maybe (Some ds) env = block ds env

abbrev pub turn : Setting → Act Slot
turn cx = made cx.within op.Turn

abbrev pub one_turn : Setting → List ℕ → Slot → List Doing → Doing
one_turn cx name v ds env = turn cx >> run ds (env ++ (name, v) ∷ []) >>= cut env

-- one turn for each element that the list had at the loop's start
abbrev pub turns : Setting → List ℕ → List Slot → List Doing → Doing
turns cx name [] ds env = pure env
turns cx name (v ∷ vs) ds env = one_turn cx name v ds env >>= turns cx name vs ds

-- an operation without a value
abbrev pub effect : Setting → Op → Doing
effect cx o env = made cx.within o >> pure env

abbrev pub stmt_step : Setting → Stmt-F Doing → Doing
stmt_step cx (stmt.Let at name e) env = turn cx >> value cx env e >>= (λ v. pure (env ++ (name, v) ∷ []))
stmt_step cx (stmt.LetCall at name i) env = turn cx >> pure env
stmt_step cx (stmt.CallOf i) env = turn cx >> pure env
stmt_step cx (stmt.Produce at item e) env = turn cx >> pure env
stmt_step cx (stmt.For at name e ds) env =
    turn cx >> value cx env e >>= (λ v. made cx.within (op.Rows v at)) >>= listed >>= (λ vs. turns cx name vs ds env)
stmt_step cx (stmt.If at e ds other) env =
    turn cx >> value cx env e >>= (λ v. test cx v at) >>= (λ b. if b then block ds env else maybe other env)
stmt_step cx (stmt.FailWith at e) env = turn cx >> value cx env e >>= (λ v. effect cx (op.FailWith v at) env)
stmt_step cx (stmt.Print at e) env = turn cx >> value cx env e >>= (λ v. effect cx (op.Print v at) env)
stmt_step cx (stmt.Return at e) env = turn cx >> value cx env e >>= give
stmt_step cx (stmt.Add at l e) env = turn cx >> value cx env l >>= (λ a. value cx env e >>= (λ v. effect cx (op.Add a v at) env))
stmt_step cx (stmt.SetStatic at f e) env = turn cx >> value cx env e >>= (λ v. effect cx (op.PutStatic v f) env)
stmt_step cx (stmt.SetSelf at dot f e) env = turn cx >> value cx env e >>= (λ v. effect cx (op.Set (slot.Obj cx.me) v f dot) env)
stmt_step cx (stmt.SetField at dot name f e) env = turn cx >> value cx env e >>= (λ v. effect cx (op.Set (named_value env name) v f dot) env)

abbrev pub doing : Setting → Stmt → Doing
doing cx = fold-Stmt Doing (stmt_step cx)

abbrev pub finished : Result Env Invoked → Invoked
finished (Ok env) = Value slot.Null
finished (Err x) = x

-- how a method ends and the world then, from its parameters
abbrev pub meaning_of_a_method : Setting → List Stmt → Env → World → Invoked × World
meaning_of_a_method cx stmts env w = (finished (run (map (doing cx) stmts) env w).0, (run (map (doing cx) stmts) env w).1)

-- the parameters with the arguments
abbrev pub paired : List (List ℕ) → List Slot → Env
paired [] args = []
paired (p ∷ ps) [] = []
paired (p ∷ ps) (a ∷ args) = (p, a) ∷ paired ps args

-- the method's parameters, as they are declared
abbrev pub params_of : Names → ℕ → ℕ → List (List ℕ)
params_of names recorder method = method_params (slice_get (recorder_methods (slice_get names.recorders recorder)) method)

abbrev pub stmts_in : Option Method → List Stmt
stmts_in None = []
stmts_in (Some m) = m.stmts

abbrev pub stmts_of : Methods → ℕ → ℕ → List Stmt
stmts_of methods recorder method = stmts_in (slice_get (unwrap_or (slice_get methods.lists recorder) []) method)

-- what a method of the recorder stands in, of that many turns in all
abbrev pub setting_of : Names → ℕ → ℕ → ℕ → Setting
setting_of names recorder me turns = record { within = record { names = names; recorder = recorder; turns = turns }; me = me }

-- a call of a recorder's method on its object
abbrev pub invoked_in : ℕ → Methods → Names → ℕ → ℕ → ℕ → List Slot → World → Invoked × World
invoked_in turns methods names me recorder method args w =
    meaning_of_a_method (setting_of names recorder me turns) (stmts_of methods recorder method) (paired (params_of names recorder method) args) w

-- of 1,000,000 turns in all
abbrev pub invoked : Methods → Names → ℕ → ℕ → ℕ → List Slot → World → Invoked × World
invoked methods names me recorder method args w = invoked_in 1000000 methods names me recorder method args w
