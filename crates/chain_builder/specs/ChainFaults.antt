-- What is wrong with a chain: an item with two producers, one without any, or a cycle. This project's own.
use Rattle.std.specs.Prelude.{◌≡◌, ℕ, ◌+◌, ◌-◌, ◌<◌, ◌≤◌, Bool, true, false, List, ◌++◌, length, Contains, ◌⊎◌, Some, slice_get, slice_index, reverse, drop}
use Rattle.item_types.specs.declared.decl.ItemKind.TheVariants.{Simple, Empty}
use Rattle.item_types.specs.declared.decl.ItemDecl.{ItemDecl}
use Rattle.item_types.specs.declared.step.Consume.{Consume}
use Rattle.item_types.specs.declared.step.StepDecl.{StepDecl}
use Rattle.chain_builder.specs.Consumption.{consumptions}
use Rattle.chain_builder.specs.EffectiveProducer.{IsEffectiveProducer}
use Rattle.chain_builder.specs.Needed.{IsNeeded}
use Rattle.chain_builder.specs.Edge.{HasEdge}

abbrev pub IsSimple : List ItemDecl → ℕ → Type 0
IsSimple items t = (d : ItemDecl) × (slice_get items t ≡ Some d) × (d.kind ≡ Simple)

-- simple or empty
abbrev pub MustBeProduced : List ItemDecl → ℕ → Type 0
MustBeProduced items t = (d : ItemDecl) × (slice_get items t ≡ Some d) × ((d.kind ≡ Simple) ⊎ (d.kind ≡ Empty))

-- t is simple and has two effective producers, over all active steps
abbrev pub HasTwoProducers : List StepDecl → List ItemDecl → ℕ → Type 0
HasTwoProducers steps items t = IsSimple items t × ((a : ℕ) × (b : ℕ) × (a < b) × IsEffectiveProducer steps a t × IsEffectiveProducer steps b t)

-- t is the least simple item with two effective producers, and a and b are the two least
pub record IsDuplicate (steps : List StepDecl) (items : List ItemDecl) (t a b : ℕ) : Type 0 where
  pub simple : IsSimple items t
  pub least_item : (u : ℕ) → u < t → HasTwoProducers steps items u → ⊥
  pub first : IsEffectiveProducer steps a t
  pub second : IsEffectiveProducer steps b t
  pub apart : a < b
  pub two_least : (s : ℕ) → IsEffectiveProducer steps s t → (s ≡ a) ⊎ (b ≤ s)

abbrev pub HasNoDuplicate : List StepDecl → List ItemDecl → Type 0
HasNoDuplicate steps items = (t : ℕ) → HasTwoProducers steps items t → ⊥

-- t is simple or empty, and no needed step effectively produces it
abbrev pub Lacks : List StepDecl → List ItemDecl → List ℕ → ℕ → Type 0
Lacks steps items finals t = MustBeProduced items t × ((s : ℕ) → IsNeeded steps finals s → IsEffectiveProducer steps s t → ⊥)

-- the needed step s consumes t without `optional`, as its consumption k
abbrev pub Wants : List StepDecl → List ℕ → ℕ → ℕ → ℕ → Type 0
Wants steps finals s k t = IsNeeded steps finals s × ((c : Consume) × (slice_get (consumptions steps s) k ≡ Some c) × (c.item ≡ t) × (c.optional ≡ false))

-- none of the first k final items is lacking
abbrev pub NoFinalBefore : List StepDecl → List ItemDecl → List ℕ → ℕ → Type 0
NoFinalBefore steps items finals k = (j : ℕ) → j < k → j < length finals → Lacks steps items finals (slice_index finals j) → ⊥

-- t is the first final item, in the order of the finals, that is lacking
pub record IsMissingFinal (steps : List StepDecl) (items : List ItemDecl) (finals : List ℕ) (t : ℕ) : Type 0 where
  pub place : ℕ
  pub within : place < length finals
  pub is : slice_index finals place ≡ t
  pub lacks : Lacks steps items finals t
  pub first : NoFinalBefore steps items finals place

-- no final item is lacking; t is that of the first consumption of a needed step, by steps and then by places, that is lacking
pub record IsMissingConsumed (steps : List StepDecl) (items : List ItemDecl) (finals : List ℕ) (t s : ℕ) : Type 0 where
  pub finals_found : NoFinalBefore steps items finals (length finals)
  pub place : ℕ
  pub wanted : Wants steps finals s place t
  pub lacks : Lacks steps items finals t
  pub first : (r k u : ℕ) → (r < s) ⊎ ((r ≡ s) × (k < place)) → Wants steps finals r k u → Lacks steps items finals u → ⊥

pub record HasNoMissing (steps : List StepDecl) (items : List ItemDecl) (finals : List ℕ) : Type 0 where
  pub finals_found : NoFinalBefore steps items finals (length finals)
  pub wanted_found : (s k t : ℕ) → Wants steps finals s k t → Lacks steps items finals t → ⊥

-- each step of the set has an edge from a step of the set
abbrev pub IsClosed : List StepDecl → List ℕ → (ℕ → Bool) → Type 0
IsClosed steps finals set = (s : ℕ) → set s ≡ true → (p : ℕ) × (set p ≡ true) × HasEdge steps finals p s

-- the core is the union of the closed sets
abbrev pub IsInCore : List StepDecl → List ℕ → ℕ → Type 0
IsInCore steps finals s = (set : ℕ → Bool) × IsClosed steps finals set × (set s ≡ true)

abbrev pub HasNoCycle : List StepDecl → List ℕ → Type 0
HasNoCycle steps finals = (s : ℕ) → IsInCore steps finals s → ⊥

abbrev pub IsLeastWith : (ℕ → Type 0) → ℕ → Type 0
IsLeastWith P x = P x × ((y : ℕ) → P y → x ≤ y)

-- p is the least step of the core with an edge to s
abbrev pub IsNext : List StepDecl → List ℕ → ℕ → ℕ → Type 0
IsNext steps finals s p = IsLeastWith (λ p. IsInCore steps finals p × HasEdge steps finals p s) p

-- from the least step of the core, each time to the next, with no step twice
pub record IsWalk (steps : List StepDecl) (finals : List ℕ) (walk : List ℕ) : Type 0 where
  pub starts : 0 < length walk → IsLeastWith (IsInCore steps finals) (slice_index walk 0)
  pub goes : (k : ℕ) → k + 1 < length walk → IsNext steps finals (slice_index walk k) (slice_index walk (k + 1))
  pub apart : (j k : ℕ) → j < k → k < length walk → slice_index walk j ≡ slice_index walk k → ⊥

-- the walk comes to its step number `back` again, and the cycle is what stands between, against the walk's direction and from its least step on
pub record IsCycle (steps : List StepDecl) (finals : List ℕ) (cycle : List ℕ) : Type 0 where
  pub walk : List ℕ
  pub back : ℕ
  pub walked : IsWalk steps finals walk
  pub within : back < length walk
  pub again : IsNext steps finals (slice_index walk (length walk - 1)) (slice_index walk back)
  pub front : List ℕ
  pub rest : List ℕ
  pub turned : reverse (drop back walk) ≡ front ++ rest
  pub is : cycle ≡ rest ++ front
  pub least : (s : ℕ) → Contains cycle s → slice_index cycle 0 ≤ s
