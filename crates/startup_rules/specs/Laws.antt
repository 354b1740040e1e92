-- What operations and methods leave as it was. This project's own.
use Rattle.std.specs.Prelude.{◌≡◌, ℕ, ◌+◌, ◌<◌, ◌≤◌, List, ◌++◌, map, slice_get, Option, Some, None, Ok, Err}
use Rattle.syntax_tree.specs.declared.tree.Stmt.{Stmt}
use Rattle.startup_rules.specs.Worlds.{World}
use Rattle.startup_rules.specs.declared.slot.Slot.{Slot}
use Rattle.startup_rules.specs.declared.slot.Object.{Object}
use Rattle.startup_rules.specs.declared.slot.Object.TheVariants as object
use Rattle.startup_rules.specs.declared.fault.MethodFault.{MethodFault}
use Rattle.startup_rules.specs.declared.fault.Invoked.{Invoked}
use Rattle.startup_rules.specs.declared.op.Op.{Op}
use Rattle.startup_rules.specs.declared.op.Op.TheVariants as op
use Rattle.startup_rules.specs.Operations.{Within}
use Rattle.startup_rules.specs.Acting.{op as made}
use Rattle.startup_rules.specs.Methods.{Setting, Env, meaning_of_a_method}
use Rattle.startup_rules.specs.Views.{IsGraph}

-- what an object is, whatever it holds
pub data Kind : Type 0 where
  ListKind : Kind
  BeanKind : ℕ → Kind
  RecorderKind : ℕ → Kind

abbrev pub kind : Object → Kind
kind (object.List items) = ListKind
kind (object.Bean k fields) = BeanKind k
kind (object.Recorder k fields) = RecorderKind k

abbrev pub kinds : World → List Kind
kinds w = map kind w.objects

-- the longer list begins with the shorter one
abbrev pub Begins : {A : Type 0} → List A → List A → Type 0
Begins xs ys = (more : List _) × (ys ≡ xs ++ more)

-- what was spent is within the limits
pub record Held (w : World) : Type 0 where
  pub cells : w.cells ≤ 1000000
  pub text : w.text ≤ 16777216

-- the second world has all that the first one had
pub record Adds (w w' : World) : Type 0 where
  pub objects : Begins (kinds w) (kinds w')
  pub context : w'.context ≡ w.context
  pub lines : Begins w.lines w'.lines
  pub turns : w.turns ≤ w'.turns
  pub cells : w.cells ≤ w'.cells
  pub text : w.text ≤ w'.text
  pub held : Held w → Held w'

abbrev pub OperationsOnlyAdd : Type 0
OperationsOnlyAdd = (cx : Within) (o : Op) (w : World) → Adds w (made cx o w).1

abbrev pub kind_at : World → ℕ → Option Kind
kind_at w o = slice_get (kinds w) o

-- object by object, and with the context, lines and sums
abbrev pub MethodsKeepKinds : Type 0
MethodsKeepKinds = (cx : Setting) (stmts : List Stmt) (env : Env) (w : World) →
    ((o : ℕ) (k : Kind) → kind_at w o ≡ Some k → kind_at (meaning_of_a_method cx stmts env w).1 o ≡ Some k) × Adds w (meaning_of_a_method cx stmts env w).1

-- a turn that gives a value was below the limit, and is one more
pub record Spends (turns : ℕ) (w w' : World) : Type 0 where
  pub below : w.turns < turns
  pub one_more : w'.turns ≡ w.turns + 1

abbrev pub TurnsAreSpent : Type 0
TurnsAreSpent = (cx : Within) (w : World) (v : Slot) → (made cx op.Turn w).0 ≡ Ok v → Spends cx.turns w (made cx op.Turn w).1

abbrev pub GraphsAreOne : Type 0
GraphsAreOne = (w : World) (a b : List ℕ) → IsGraph w a → IsGraph w b → a ≡ b
