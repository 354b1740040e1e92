-- The meaning of a body: how its evaluation ends. This project's own.
use Rattle.std.specs.Prelude.{ℕ, ◌+◌, ◌||◌, nat_lt, if◌then◌else◌, List, [], ◌∷◌, map, sum, Ok, Err}
use Rattle.item_types.specs.Measure.{cells, text_len}
use Rattle.item_types.specs.declared.decl.Names.{Names}
use Rattle.item_types.specs.declared.step.Consume.{Consume}
use Rattle.item_types.specs.declared.step.StepDecl.{StepDecl}
use Rattle.item_types.specs.declared.value.Value.{Value}
use Rattle.syntax_tree.specs.declared.tree.Body.{Body}
use Rattle.step_state.specs.declared.outcome.Inputs.{Inputs}
use Rattle.step_state.specs.declared.outcome.Outcome.{Outcome}
use Rattle.step_state.specs.declared.outcome.Outcome.TheVariants.{Done, Fails}
use Rattle.step_state.specs.declared.outcome.Reason.TheVariants.{TooManyTaken}
use Rattle.step_state.specs.declared.state.State.{State}
use Rattle.step_state.specs.Evaluation.{Checked, ◌>>◌, lift}
use Rattle.step_eval.specs.Setting.{Setting}
use Rattle.step_state.specs.Spending.{start}
use Rattle.step_eval.specs.Statements.{Doing, doing, run}
use Rattle.step_eval.specs.Taken.{list_at}

-- what is taken, consumption by consumption from this place on, after so many cells and so much text: 16,384 cells and 262,144 bytes of text in all
abbrev pub taking : List Consume → List (List Value) → ℕ → ℕ → ℕ → Checked (Unit {0})
taking [] lists place before text_before = Ok tt
taking (c ∷ cs) lists place before text_before =
    if nat_lt 16384 (before + sum (map cells (list_at lists place))) || nat_lt 262144 (text_before + sum (map text_len (list_at lists place)))
    then Err (TooManyTaken c.item)
    else taking cs lists (place + 1) (before + sum (map cells (list_at lists place))) (text_before + sum (map text_len (list_at lists place)))

-- what was taken is counted first, and then the statements are done
abbrev pub body_of : Setting → List Doing → Doing
body_of cx ps = lift (taking cx.decl.consumes cx.lists 0 0 0) >> run ps

abbrev pub ended : Checked (Unit {0} × State) → Outcome
ended (Ok r) = Done r.1.puts r.1.calls
ended (Err r) = Fails r

-- what the evaluation is given
abbrev pub given : Names → StepDecl → ℕ → Inputs → Setting
given names decl step inputs = record { names = names; decl = decl; step = step; lists = inputs.lists }

-- how the evaluation of the step's body ends
abbrev pub meaning_of_a_body : Names → StepDecl → ℕ → Body → Inputs → Outcome
meaning_of_a_body names decl step body inputs =
    let cx : Setting = given names decl step inputs in
    ended (body_of cx (map (doing cx) body.stmts) start)
