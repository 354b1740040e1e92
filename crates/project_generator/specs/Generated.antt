-- The text of a generated project: a tree of steps, each of which hands on what the one above it produced. This project's own.
use Rattle.std.specs.Prelude.{ℕ, zero, suc, ◌-◌, ◌/◌, ◌%◌, ◌==◌, cond, List, [], ◌++◌, codes, Option, Some, None}
use Rattle.std.specs.Fmt.{decimal}
use Rattle.item_types.specs.declared.step.Phase.{Phase}
use Rattle.item_types.specs.declared.step.Phase.TheVariants.{Static, Runtime}

-- the lines of the numbers below n, in order
abbrev pub below : (ℕ → List ℕ) → ℕ → List ℕ
below line zero = []
below line (suc n) = below line n ++ line n

-- the name of the item that holds a step's value
abbrev pub value_name : ℕ → List ℕ
value_name step = codes "V" ++ decimal step

-- the step above a step in the tree
abbrev pub above : ℕ → ℕ
above step = (step - 1) / 2

abbrev pub item_line : ℕ → List ℕ
item_line step = codes "{name = \"" ++ value_name step ++ codes "\", kind = \"simple\"},\n"

-- each step but the first consumes the item of the one above it
abbrev pub consumes_key : ℕ → List ℕ
consumes_key step = cond (step == 0) [] (codes ", consumes = [\"" ++ value_name (above step) ++ codes "\"]")

-- one step in five produces the final item weakly
abbrev pub marker : ℕ → List ℕ
marker step = cond (step % 5 == 4) (codes "M weak") (codes "M")

-- of four steps the first records for the static phase and the third for the runtime phase
abbrev pub phase_of : ℕ → Option Phase
phase_of step = cond (step % 4 == 0) (Some Static) (cond (step % 4 == 2) (Some Runtime) None)

abbrev pub record_key : Option Phase → List ℕ
record_key None = []
record_key (Some Static) = codes ", record = \"static\""
record_key (Some Runtime) = codes ", record = \"runtime\""

-- the end of a body and of its line: a step with a phase records a call
abbrev pub closing : Option Phase → List ℕ
closing None = codes "'},\n"
closing (Some phase) = codes " call R.note(x);'},\n"

-- what a step hands on from the one above it
abbrev pub upper : ℕ → List ℕ
upper step = cond (step == 0) (codes "null") (codes "get " ++ value_name (above step))

abbrev pub name_key : ℕ → List ℕ
name_key step = codes "{name = \"s" ++ decimal step ++ codes "\""

abbrev pub produces_key : ℕ → List ℕ
produces_key step = codes ", produces = [\"V" ++ decimal step ++ codes "\", \"" ++ marker step ++ codes "\"]"

abbrev pub opening : ℕ → List ℕ
opening step = codes ", body = 'let x = new P{n: " ++ decimal step ++ codes ", up: "

abbrev pub puts : ℕ → List ℕ
puts step = codes "}; produce V" ++ decimal step ++ codes "(x); produce M(x);"

abbrev pub body_key : ℕ → List ℕ
body_key step = opening step ++ upper step ++ puts step ++ closing (phase_of step)

abbrev pub step_line : ℕ → List ℕ
step_line step = name_key step ++ consumes_key step ++ produces_key step ++ record_key (phase_of step) ++ body_key step

abbrev pub head : List ℕ
head = codes "format = 1\napp = \"gen\"\nfinals = [\"M\"]\n[[extensions]]\nname = \"g\"\nitems = [\n"

abbrev pub middle : List ℕ
middle =
    codes "{name = \"M\", kind = \"multi\"},\n]\nbeans = [\n{name = \"P\", fields = [\"n\", \"up\"]},\n]\nrecorders = [\n{name = \"R\", statics = [\"seen\"], methods = [{name = \"note\", params = [\"p\"], body = 'if static.seen == null { static.seen = []; } add(static.seen, p); print p.n;'}]},\n]\nsteps = [\n"

-- the project file with so many steps
abbrev pub generated : ℕ → List ℕ
generated n = head ++ below item_line n ++ middle ++ below step_line n ++ codes "]\n"
