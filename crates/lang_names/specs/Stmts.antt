-- The first wrong name of statements, by their forms, and the names that they leave in scope. This project's own.
use Rattle.std.specs.Prelude.{ℕ, ◌≡◌, not, ◌==◌, List, [], ◌∷◌, ◌++◌, length, Option, Some, None, Result, Ok, Err, slice_get, map}
use Rattle.syntax_tree.specs.declared.tree.Invoke.{Invoke}
use Rattle.syntax_tree.specs.declared.tree.Expr.{Expr}
use Rattle.syntax_tree.specs.declared.tree.Stmt.{Stmt, fold-Stmt}
use Rattle.syntax_tree.specs.declared.tree.Stmt.TheOpen.{Stmt-F}
use Rattle.syntax_tree.specs.declared.tree.Stmt.TheOpen as one
use Rattle.lang_names.specs.declared.wrong.Wrong.{Wrong}
use Rattle.lang_names.specs.declared.wrong.NameFault.{NameFault}
use Rattle.lang_names.specs.declared.wrong.NameFault.TheVariants as faults
use Rattle.lang_names.specs.Checked.{Checked, right, later, known, fitting, and_also}
use Rattle.syntax_tree.specs.Undeclared.{no_number}
use Rattle.syntax_tree.specs.Known.{Known, contains, produced, kind_is, carries_value, method_of, params_of}
use Rattle.lang_names.specs.Exprs.{all_checked, expr_right, told_of}

-- from the names in scope to those behind
abbrev pub Passing : Type 0
Passing = List (List ℕ) → Result (List (List ℕ)) Wrong

-- behind a test these names are in scope
abbrev pub leaves : Checked → List (List ℕ) → Result (List (List ℕ)) Wrong
leaves (Ok x) scope = Ok scope
leaves (Err w) scope = Err w

abbrev pub dropped : Result (List (List ℕ)) Wrong → Checked
dropped (Ok s) = right
dropped (Err w) = Err w

abbrev pub go_on : Result (List (List ℕ)) Wrong → Passing → Result (List (List ℕ)) Wrong
go_on (Ok s) f = f s
go_on (Err w) f = Err w

-- what a function that passes a statement ensures: the outcome, unless memory runs out
abbrev pub Passes : Result (List (List ℕ)) Wrong → Result (Unit {0}) NameFault → List (List ℕ) → Type 0
Passes outcome (Ok x) new = outcome ≡ Ok new
Passes outcome (Err faults.Memory) new = Unit {0}
Passes outcome (Err (faults.Wrong w)) new = outcome ≡ Err w

-- the same, of a test
abbrev pub Rights : Checked → Result (Unit {0}) NameFault → Type 0
Rights c (Ok x) = c ≡ right
Rights c (Err faults.Memory) = Unit {0}
Rights c (Err (faults.Wrong w)) = c ≡ Err w

-- the second list begins with the first
abbrev pub Extends : List (List ℕ) → List (List ℕ) → Type 0
Extends s t = (more : List (List ℕ)) × (t ≡ s ++ more)

-- statements one behind the other
abbrev pub run : List Passing → Passing
run [] scope = Ok scope
run (f ∷ fs) scope = go_on (f scope) (run fs)

-- a block keeps its names to itself
abbrev pub block_right : List Passing → List (List ℕ) → Checked
block_right fs scope = dropped (run fs scope)

-- `call R.m(..)`: in a step that records, a method of a recorder with as many arguments as parameters
abbrev pub call_right : Known → List (List ℕ) → Invoke → Checked
call_right k scope c =
    and_also (fitting k.records c.at) (and_also (known (not (c.recorder == no_number)) (later c.at 1)) (and_also (known (not (c.method == no_number)) (later c.at 3))
    (and_also (fitting (params_of (method_of (slice_get k.names.recorders c.recorder) c.method) == length c.args) (later c.at 3)) (all_checked (map (told_of k) c.args) scope))))

-- `produce T(e)`: an item that is produced and isn't empty
abbrev pub produce_right : Known → List (List ℕ) → ℕ → ℕ → Expr → Checked
produce_right k scope at item v =
    and_also (known (not (item == no_number)) (later at 1)) (and_also (fitting (produced k.produces item) (later at 1))
    (and_also (fitting (kind_is carries_value (slice_get k.names.items item)) (later at 1)) (expr_right k scope v)))

abbrev pub other_right : Option (List Passing) → List (List ℕ) → Checked
other_right None scope = right
other_right (Some fs) scope = block_right fs scope

abbrev pub stmt_step : Known → Stmt-F Passing → Passing
stmt_step k (one.Let at x v) = λ s. leaves (expr_right k s v) (s ++ x ∷ [])
stmt_step k (one.LetCall at x c) = λ s. leaves (call_right k s c) (s ++ x ∷ [])
stmt_step k (one.CallOf c) = λ s. leaves (call_right k s c) s
stmt_step k (one.Produce at item v) = λ s. leaves (produce_right k s at item v) s
stmt_step k (one.For at x list block) = λ s. leaves (and_also (expr_right k s list) (block_right block (s ++ x ∷ []))) s
stmt_step k (one.If at x block other) = λ s. leaves (and_also (and_also (expr_right k s x) (block_right block s)) (other_right other s)) s
stmt_step k (one.FailWith at v) = λ s. leaves (expr_right k s v) s
stmt_step k (one.Print at v) = λ s. leaves (expr_right k s v) s
stmt_step k (one.Return at v) = λ s. leaves (expr_right k s v) s
stmt_step k (one.Add at list v) = λ s. leaves (and_also (expr_right k s list) (expr_right k s v)) s
stmt_step k (one.SetStatic at f v) = λ s. leaves (and_also (known (contains k.statics f) (later at 2)) (expr_right k s v)) s
stmt_step k (one.SetSelf at dot f v) = λ s. leaves (and_also (known (contains k.fields f) (later dot 1)) (expr_right k s v)) s
stmt_step k (one.SetField at dot x f v) = λ s. leaves (and_also (known (contains s x) at) (expr_right k s v)) s

abbrev pub passing : Known → Stmt → Passing
passing k = fold-Stmt Passing (stmt_step k)

-- the first wrong name of statements
abbrev pub names_right : Known → List (List ℕ) → List Stmt → Checked
names_right k scope c = block_right (map (passing k) c) scope
