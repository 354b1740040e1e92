-- The text of a chain's fault, by the names of the steps and items. This project's own.
use Rattle.std.specs.Prelude.{ℕ, ◌<◌, List, [], ◌∷◌, ◌++◌, Some, None, Contains, length, codes}
use Rattle.item_types.specs.declared.decl.ItemDecl.{ItemDecl}
use Rattle.item_types.specs.declared.step.StepDecl.{StepDecl}
use Rattle.chain_builder.specs.declared.fault.ChainFault.{ChainFault}
use Rattle.chain_builder.specs.declared.fault.ChainFault.TheVariants.{Duplicate, Missing, Cycle, Memory}
use Rattle.chain_builder.specs.Lists.{list_at}

abbrev pub item_name : List ItemDecl → ℕ → List ℕ
item_name items t = list_at (λ d. d.name) items t

-- the extension's name and the step's own
abbrev pub step_name : List StepDecl → ℕ → List ℕ
step_name steps s = list_at (λ d. d.ext ++ codes "." ++ d.name) steps s

-- the steps' names in order, with a comma and a space between
abbrev pub step_names : List StepDecl → List ℕ → List ℕ
step_names steps [] = []
step_names steps (s ∷ []) = step_name steps s
step_names steps (s ∷ r ∷ rest) = step_name steps s ++ (codes ", " ++ step_names steps (r ∷ rest))

abbrev pub fault_text : List StepDecl → List ItemDecl → ChainFault → List ℕ
fault_text steps items (Duplicate t a b) = codes "item " ++ item_name items t ++ codes " has the producers " ++ step_name steps a ++ codes " and " ++ step_name steps b
fault_text steps items (Missing t None) = codes "item " ++ item_name items t ++ codes ", a final item, has no producer"
fault_text steps items (Missing t (Some s)) = codes "item " ++ item_name items t ++ codes ", wanted by " ++ step_name steps s ++ codes ", has no producer"
fault_text steps items (Cycle cycle) = codes "cycle " ++ step_names steps cycle
fault_text steps items Memory = []

-- the fault isn't want of memory, and its numbers are those of steps and items
abbrev pub IsNamed : List StepDecl → List ItemDecl → ChainFault → Type 0
IsNamed steps items (Duplicate t a b) = (t < length items) × (a < length steps) × (b < length steps)
IsNamed steps items (Missing t None) = t < length items
IsNamed steps items (Missing t (Some s)) = (t < length items) × (s < length steps)
IsNamed steps items (Cycle cycle) = (s : ℕ) → Contains cycle s → s < length steps
IsNamed steps items Memory = ⊥
