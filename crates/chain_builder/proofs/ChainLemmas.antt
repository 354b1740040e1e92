-- The numbers in a chain's declarations, needed steps and edges are in range.
use Rattle.std.proofs.Common.{ℕ, ◌<◌, Bool, true, false, List, [], length, Contains, if◌then◌else◌}
use Rattle.item_types.specs.Numbered.{IsNumbered}
use Rattle.item_types.specs.declared.decl.ItemDecl.{ItemDecl}
use Rattle.item_types.specs.declared.step.StepDecl.{StepDecl}
use Rattle.chain_builder.specs.EffectiveProducer.{produced, IsEffectiveProducer}
use Rattle.chain_builder.specs.Needed.{IsNeeded}
use Rattle.chain_builder.specs.ProducerRows.{AreProducedBelow, AreConsumedBelow}
use Rattle.chain_builder.proofs.ListLemmas.{list_at_from, list_at_within, none_in_nil}

-- what is kept where a test holds was there
in_kept : {X : Type 0} (b : Bool) (xs : List X) (x : X) → Contains (if b then xs else []) x → Contains xs x
in_kept true xs x h = h
in_kept false xs x h = none_in_nil x h

pub produced_below : (steps : List StepDecl) (items : List ItemDecl) (finals : List ℕ) → IsNumbered steps items finals → AreProducedBelow steps (length items)
produced_below steps items finals n s p h =
    let f = list_at_from produced steps s p h in
    n.produced f.0 p f.1 (in_kept f.0.active f.0.produces p f.2)

pub consumed_below : (steps : List StepDecl) (items : List ItemDecl) (finals : List ℕ) → IsNumbered steps items finals → AreConsumedBelow steps (length items)
consumed_below steps items finals n s c h =
    let f = list_at_from (λ (d : StepDecl). d.consumes) steps s c h in
    n.consumed f.0 c f.1 f.2

pub producer_within : (steps : List StepDecl) (s t : ℕ) → IsEffectiveProducer steps s t → s < length steps
producer_within steps s t p = list_at_within produced steps s p.production p.declared

pub needed_within : (steps : List StepDecl) (finals : List ℕ) (s : ℕ) → IsNeeded steps finals s → s < length steps
needed_within steps finals s n = let p = n.leads.0.1 in list_at_within produced steps s p.production p.declared
