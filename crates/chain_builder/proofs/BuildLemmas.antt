-- The tables in the words of the chain.
use Rattle.std.proofs.Common.{◌≡◌, ℕ, Bool, true, false, List, length, refl, Contains, arith, subst, sym, inl, inr, ◌↔◌}
use Rattle.item_types.specs.declared.decl.ItemDecl.{ItemDecl}
use Rattle.item_types.specs.declared.step.StepDecl.{StepDecl}
use Rattle.chain_builder.specs.Rows.{row, IsTransposed, AreBelow}
use Rattle.chain_builder.specs.Consumption.{Consumes}
use Rattle.chain_builder.specs.EffectiveProducer.{AllOverridable, IsEffectiveProducer, IsStrongProducer}
use Rattle.chain_builder.specs.Edge.{HasEdge}
use Rattle.chain_builder.specs.ProducerRows.{ProducesAs, AreProducedBelow, AreConsumedBelow}
use Rattle.chain_builder.specs.ChainFaults.{NoFinalBefore, HasNoMissing}
use Rattle.chain_builder.specs.Missing.{NoWantBefore}
use Rattle.chain_builder.proofs.RowLemmas.{row_within}
use Rattle.chain_builder.proofs.ChainLemmas.{needed_within}
use Rattle.chain_builder.proofs.FaultLemmas.{wants_within}

pub strong_is : (steps : List StepDecl) (s t : ℕ) → ProducesAs true steps s t ↔ IsStrongProducer steps s t
strong_is steps s t = (
  λ f. record { production = f.0; declared = f.1; item = f.2; counts = elim f.3 [ inl o ↦ inl o | inr all ↦ inr (subst (AllOverridable steps) f.2 all) ]; strong = f.4 refl },
  λ p. (p.production, p.declared, p.item, elim p.counts [ inl o ↦ inl o | inr all ↦ inr (subst (AllOverridable steps) (sym p.item) all) ], λ _. p.strong),
)

pub effective_is : (steps : List StepDecl) (s t : ℕ) → ProducesAs false steps s t ↔ IsEffectiveProducer steps s t
effective_is steps s t = (
  λ f. record { production = f.0; declared = f.1; item = f.2; counts = elim f.3 [ inl o ↦ inl o | inr all ↦ inr (subst (AllOverridable steps) f.2 all) ] },
  λ p. (p.production, p.declared, p.item, elim p.counts [ inl o ↦ inl o | inr all ↦ inr (subst (AllOverridable steps) (sym p.item) all) ], λ e. absurd (let z : false ≡ true = e in cc)),
)

pub strong_table : (steps : List StepDecl) (rows table : List (List ℕ)) → IsTransposed rows table → ((s t : ℕ) → Contains (row rows s) t ↔ ProducesAs true steps s t) → (t s : ℕ) → Contains (row table t) s ↔ IsStrongProducer steps s t
strong_table steps rows table turned is t s = (
  λ h. (strong_is steps s t).0 ((is s t).0 ((turned s t).0 h)),
  λ f. (turned s t).1 ((is s t).1 ((strong_is steps s t).1 f)),
)

pub effective_rows_are : (steps : List StepDecl) (rows : List (List ℕ)) → ((s t : ℕ) → Contains (row rows s) t ↔ ProducesAs false steps s t) → (s t : ℕ) → Contains (row rows s) t ↔ IsEffectiveProducer steps s t
effective_rows_are steps rows is s t = (λ h. (effective_is steps s t).0 ((is s t).0 h), λ f. (is s t).1 ((effective_is steps s t).1 f))

pub producers_are : (steps : List StepDecl) (rows table : List (List ℕ)) → IsTransposed rows table → ((s t : ℕ) → Contains (row rows s) t ↔ IsEffectiveProducer steps s t) → (t s : ℕ) → Contains (row table t) s ↔ IsEffectiveProducer steps s t
producers_are steps rows table turned is t s = (λ h. (is s t).0 ((turned s t).0 h), λ f. (turned s t).1 ((is s t).1 f))

pub rows_below : (steps : List StepDecl) (n : ℕ) (strong : Bool) (rows : List (List ℕ)) → AreProducedBelow steps n → ((s t : ℕ) → Contains (row rows s) t ↔ ProducesAs strong steps s t) → AreBelow rows n
rows_below steps n strong rows below is s t h = let f = (is s t).0 h in omega (arith, f.2, below s f.0 f.1)

pub effective_below : (steps : List StepDecl) (n : ℕ) (rows : List (List ℕ)) → AreProducedBelow steps n → ((s t : ℕ) → Contains (row rows s) t ↔ IsEffectiveProducer steps s t) → AreBelow rows n
effective_below steps n rows below is s t h = let f = (is s t).0 h in omega (arith, f.item, below s f.production f.declared)

pub consumed_rows_below : (steps : List StepDecl) (n : ℕ) (rows : List (List ℕ)) → AreConsumedBelow steps n → ((s t : ℕ) → Contains (row rows s) t ↔ Consumes steps s t) → AreBelow rows n
consumed_rows_below steps n rows below is s t h = let f = (is s t).0 h in omega (arith, f.2, below s f.0 f.1)

pub table_below : (rows table : List (List ℕ)) → IsTransposed rows table → AreBelow table (length rows)
table_below rows table turned b a h = row_within rows a b ((turned a b).0 h)

pub into_below : (steps : List StepDecl) (finals : List ℕ) (rows : List (List ℕ)) → ((s p : ℕ) → Contains (row rows s) p ↔ HasEdge steps finals p s) → AreBelow rows (length steps)
into_below steps finals rows is s p h = needed_within steps finals p ((is s p).0 h).producer_needed

pub dependents_below : (steps : List StepDecl) (finals : List ℕ) (rows : List (List ℕ)) → ((p s : ℕ) → Contains (row rows p) s ↔ HasEdge steps finals p s) → AreBelow rows (length steps)
dependents_below steps finals rows is p s h = needed_within steps finals s ((is p s).0 h).consumer_needed

pub into_are : (steps : List StepDecl) (finals : List ℕ) (rows table : List (List ℕ)) → IsTransposed rows table → ((p s : ℕ) → Contains (row rows p) s ↔ HasEdge steps finals p s) → (s p : ℕ) → Contains (row table s) p ↔ HasEdge steps finals p s
into_are steps finals rows table turned is s p = (λ h. (is p s).0 ((turned p s).0 h), λ e. (turned p s).1 ((is p s).1 e))

pub is_transposed_by : (steps : List StepDecl) (finals : List ℕ) (rows table : List (List ℕ)) → ((s p : ℕ) → Contains (row rows s) p ↔ HasEdge steps finals p s) → ((p s : ℕ) → Contains (row table p) s ↔ HasEdge steps finals p s) → IsTransposed rows table
is_transposed_by steps finals rows table is are a b = (λ h. (is a b).1 ((are b a).0 h), λ h. (are b a).1 ((is a b).0 h))

pub no_missing : (steps : List StepDecl) (items : List ItemDecl) (finals : List ℕ) → NoFinalBefore steps items finals (length finals) → NoWantBefore steps items finals (length steps) → HasNoMissing steps items finals
no_missing steps items finals found none = record { finals_found = found; wanted_found = λ s k t w l. none s k t (wants_within steps finals s k t w) w l }
