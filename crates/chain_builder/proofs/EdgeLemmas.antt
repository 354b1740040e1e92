-- The edges, by the rows of the needed steps.
use Rattle.std.proofs.Common.{◌≡◌, ℕ, ◌+◌, ◌<◌, ◌≤◌, List, [], ◌∷◌, ◌++◌, length, refl, Contains, arith, subst, sym, ◌∙◌, ap, inl, inr, ◌↔◌}
use Rattle.std.proofs.lemmas.List.{length_push}
use Rattle.std.proofs.lemmas.Bool.{cases_eq}
use Rattle.item_types.specs.declared.step.StepDecl.{StepDecl}
use Rattle.chain_builder.specs.Rows.{row, AreBelow, IsTransposed, IsJoined}
use Rattle.chain_builder.specs.Marks.{Numbers}
use Rattle.chain_builder.specs.Consumption.{Consumes}
use Rattle.chain_builder.specs.EffectiveProducer.{IsEffectiveProducer}
use Rattle.chain_builder.specs.Needed.{IsNeeded}
use Rattle.chain_builder.specs.Edge.{HasEdge}
use Rattle.chain_builder.proofs.RowLemmas.{row_push, row_pushed, row_within}

-- the first n rows are kept where their number is marked
pub record AreMarkedUpTo (marks : List ℕ) (rows kept : List (List ℕ)) (n : ℕ) : Type 0 where
  pub count : length kept ≡ n
  pub rows_are : (a b : ℕ) → a < n → Contains (row kept a) b ↔ (Contains marks a × Contains (row rows a) b)

pub marked_none : (marks : List ℕ) (rows : List (List ℕ)) → AreMarkedUpTo marks rows [] 0
marked_none marks rows = record { count = refl; rows_are = λ a b h. absurd (omega arith) }

pub marked_more : (marks : List ℕ) (rows kept : List (List ℕ)) (n : ℕ) (v : List ℕ) → ((b : ℕ) → Contains v b ↔ (Contains marks n × Contains (row rows n) b)) → AreMarkedUpTo marks rows kept n → AreMarkedUpTo marks rows (kept ++ v ∷ []) (n + 1)
marked_more marks rows kept n v is m = record {
  count = length_push kept v ∙ ap (λ k. k + 1) m.count;
  rows_are = λ a b h. elim (cases_eq a n) [
    | inl e ↦ subst (λ (xs : List ℕ). Contains xs b ↔ (Contains marks a × Contains (row rows a) b)) (sym (row_pushed kept a v (e ∙ sym m.count))) (subst (λ (z : ℕ). Contains v b ↔ (Contains marks z × Contains (row rows z) b)) (sym e) (is b))
    | inr ne ↦ let lt : a < length kept = omega (arith, m.count) in subst (λ (xs : List ℕ). Contains xs b ↔ (Contains marks a × Contains (row rows a) b)) (sym (row_push kept a v lt)) (m.rows_are a b (omega arith))
  ];
}

pub marked_all : (marks : List ℕ) (rows kept : List (List ℕ)) (n : ℕ) → length rows ≤ n → AreMarkedUpTo marks rows kept n → (a b : ℕ) → Contains (row kept a) b ↔ (Contains marks a × Contains (row rows a) b)
marked_all marks rows kept n all m a b = (
  λ h. let inside : a < length kept = row_within kept a b h in (m.rows_are a b (omega (arith, m.count))).0 h,
  λ f. let inside : a < length rows = row_within rows a b f.1 in (m.rows_are a b (omega arith)).1 f,
)

pub marked_below : (marks : List ℕ) (rows kept : List (List ℕ)) (n : ℕ) → AreBelow rows n → ((a b : ℕ) → Contains (row kept a) b ↔ (Contains marks a × Contains (row rows a) b)) → AreBelow kept n
marked_below marks rows kept n below is a b h = below a b ((is a b).0 h).1

-- the joined rows are the edges
pub edges_are : (steps : List StepDecl) (finals : List ℕ) (needed : Numbers) (consumed effective wanted made producers rows : List (List ℕ)) → ((s : ℕ) → Contains needed.items s ↔ IsNeeded steps finals s) → ((s t : ℕ) → Contains (row consumed s) t ↔ Consumes steps s t) → ((s t : ℕ) → Contains (row effective s) t ↔ IsEffectiveProducer steps s t) → ((a b : ℕ) → Contains (row wanted a) b ↔ (Contains needed.items a × Contains (row consumed a) b)) → ((a b : ℕ) → Contains (row made a) b ↔ (Contains needed.items a × Contains (row effective a) b)) → IsTransposed made producers → IsJoined wanted producers rows → (p s : ℕ) → Contains (row rows p) s ↔ HasEdge steps finals p s
edges_are steps finals needed consumed effective wanted made producers rows need eats makes eaten mades turned joined p s = (
  λ h.
      let f = (joined s p).0 h in
      let eater = (eaten s f.0).0 f.1 in
      let maker = (mades p f.0).0 ((turned p f.0).0 f.2) in
      record {
        producer_needed = (need p).0 maker.0;
        consumer_needed = (need s).0 eater.0;
        item = f.0;
        produced = (makes p f.0).0 maker.1;
        consumed = (eats s f.0).0 eater.1;
      },
  λ e. (joined s p).1 (
    e.item,
    (eaten s e.item).1 ((need s).1 e.consumer_needed, (eats s e.item).1 e.consumed),
    (turned p e.item).1 ((mades p e.item).1 ((need p).1 e.producer_needed, (makes p e.item).1 e.produced)),
  ),
)
