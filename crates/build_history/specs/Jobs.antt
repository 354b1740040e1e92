-- A job: an accepted chain, the declared names, and a body for each step. This project's own.
use Rattle.std.specs.Prelude.{◌≡◌, ℕ, Bool, false, ◌&&◌, ◌||◌, not, ◌==◌, List, [], length, None, slice_index_or}
use Rattle.std.specs.List.{list_any}
use Rattle.item_types.specs.declared.decl.Names.{Names}
use Rattle.item_types.specs.declared.step.Consume.{Consume}
use Rattle.item_types.specs.declared.step.Produce.{Produce}
use Rattle.item_types.specs.declared.step.StepDecl.{StepDecl}
use Rattle.item_types.specs.declared.value.Value.{Value}
use Rattle.syntax_tree.specs.declared.tree.Body.{Body}
use Rattle.step_state.specs.declared.outcome.Outcome.{Outcome}
use Rattle.step_eval.specs.BodyMeaning.{meaning_of_a_body}
use Rattle.chain_builder.specs.PlanView.{PlanView}
use Rattle.chain_builder.specs.EffectiveProducer.{produced, productions}
use Rattle.chain_builder.specs.Edge.{HasEdge}
use Rattle.chain_builder.specs.Needed.{IsNeeded}

pub record JobView : Type 0 where
  pub plan : PlanView
  pub names : Names
  pub bodies : List Body

-- the plan's items are those of the names, and each step has a body
abbrev pub Fit : PlanView → Names → List Body → Type 0
Fit plan names bodies = (plan.items ≡ names.items) × (length bodies ≡ length plan.steps)

abbrev pub no_decl : StepDecl
no_decl = record { ext = []; name = []; consumes = []; produces = []; phase = None; active = false }

abbrev pub no_body : Body
no_body = record { stmts = [] }

-- the declaration of the step of that number
abbrev pub decl_at : JobView → ℕ → StepDecl
decl_at job s = slice_index_or job.plan.steps s no_decl

-- the body of the step of that number
abbrev pub body_at : JobView → ℕ → Body
body_at job s = slice_index_or job.bodies s no_body

-- what the step of that number consumes, in declared order
abbrev pub consumes_at : JobView → ℕ → List Consume
consumes_at job s = (decl_at job s).consumes

-- the step is needed
abbrev pub Needs : JobView → ℕ → Type 0
Needs job s = IsNeeded job.plan.steps job.plan.finals s

-- there is an edge from p to s
abbrev pub Precedes : JobView → ℕ → ℕ → Type 0
Precedes job p s = HasEdge job.plan.steps job.plan.finals p s

-- how the evaluation of the step ends that took these lists
unfoldable pub meaning_at : JobView → ℕ → List (List Value) → Outcome
meaning_at job s lists = meaning_of_a_body job.names (decl_at job s) s (body_at job s) (record { lists = lists })

abbrev pub is_plain : ℕ → Produce → Bool
is_plain t p = (p.item == t) && not p.overridable

-- an active step produces the item without `overridable`
abbrev pub has_plain : List StepDecl → ℕ → Bool
has_plain steps t = list_any (λ d. list_any (is_plain t) (produced d)) steps

-- the production is of the item, and isn't overridden
abbrev pub counts_for : List StepDecl → ℕ → Produce → Bool
counts_for steps t p = (p.item == t) && (not p.overridable || not (has_plain steps t))

-- whether the step effectively produces the item
unfoldable pub is_effective : List StepDecl → ℕ → ℕ → Bool
is_effective steps s t = list_any (counts_for steps t) (productions steps s)
