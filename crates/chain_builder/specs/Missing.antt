-- The words of the search for a missing item. This project's own.
use Rattle.std.specs.Prelude.{◌≡◌, ℕ, ◌<◌, Bool, true, false, List, Some, slice_get, slice_index_or}
use Rattle.item_types.specs.declared.decl.ItemDecl.{ItemDecl}
use Rattle.item_types.specs.declared.step.Consume.{Consume}
use Rattle.item_types.specs.declared.step.StepDecl.{StepDecl}
use Rattle.chain_builder.specs.ChainFaults.{Wants, Lacks}

-- the consumption k is of t, isn't optional, and t is lacking
abbrev pub IsLackingAt : List Consume → List Bool → ℕ → ℕ → Type 0
IsLackingAt consumes lacking k t = ((c : Consume) × (slice_get consumes k ≡ Some c) × (c.item ≡ t) × (c.optional ≡ false)) × (slice_index_or lacking t false ≡ true)

abbrev pub NoLackBefore : List Consume → List Bool → ℕ → Type 0
NoLackBefore consumes lacking n = (k t : ℕ) → k < n → IsLackingAt consumes lacking k t → ⊥

-- no step before n wants in vain
abbrev pub NoWantBefore : List StepDecl → List ItemDecl → List ℕ → ℕ → Type 0
NoWantBefore steps items finals n = (s k t : ℕ) → s < n → Wants steps finals s k t → Lacks steps items finals t → ⊥
