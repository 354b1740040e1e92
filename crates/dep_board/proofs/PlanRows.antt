-- The rows of a plan: the dependents of each step.
use Rattle.std.proofs.Common.{◌≡◌, ℕ, zero, suc, ◌+◌, ◌<◌, ◌↔◌, ◌^◌, List, [], ◌∷◌, ◌++◌, length, get_or, Contains, sym, refl, ap, subst, ◌∙◌, arith}
use Rattle.std.specs.List.Sorted.{IsStrictlyIncreasing}
use Rattle.std.proofs.lemmas.List.{length-append, get_or_append_left, get_or-append-add, get_or_default}
use mathlib.Core.Logic.{dite}
use native.Mathlib.Decide.{ℕ_discrete, dec_le}
use Rattle.item_types.specs.declared.step.StepDecl.{StepDecl}
use Rattle.chain_builder.specs.Lists.{list_at}
use Rattle.chain_builder.specs.Edge.{HasEdge}
use Rattle.dep_board.specs.Edges.{AreRows, dependents, edges_of}
use Rattle.dep_board.proofs.EdgeLemmas.{row_leads, dependents-after}

within_list : {X Y : Type 0} (f : X → List Y) (xs : List X) (i : ℕ) (y : Y) → Contains (list_at f xs i) y → i < length xs
within_list f [] i y c = let lt : c.0 < 0 = c.1 in absurd (omega (arith, lt))
within_list f (x ∷ xs) zero y c = omega arith
within_list f (x ∷ xs) (suc i) y c = omega (arith, within_list f xs i y c)

pub edge_ends : (steps : List StepDecl) (finals : List ℕ) (p s : ℕ) → HasEdge steps finals p s → (p < length steps) × (s < length steps)
edge_ends steps finals p s e = (
  within_list _ steps p e.produced.production e.produced.declared,
  within_list _ steps s e.consumed.0 e.consumed.1,
)

module _ (steps : List StepDecl) (finals : List ℕ) where
  -- the rows of the first n steps
  pub record RowsTo (rows : List (List ℕ)) (n : ℕ) : Type 0 where
    pub count : length rows ≡ n
    pub ascending : (p : ℕ) (d : List ℕ) → p < n → IsStrictlyIncreasing (get_or rows p d)
    pub edges : (p : ℕ) (d : List ℕ) → p < n → (s : ℕ) → Contains (get_or rows p d) s ↔ HasEdge steps finals p s

  pub rows_start : RowsTo [] 0
  rows_start = record { count = refl; ascending = λ p d lt. absurd (omega (arith, lt)); edges = λ p d lt. absurd (omega (arith, lt)) }

  last_row : (rows : List (List ℕ)) (row d : List ℕ) (p : ℕ) → p ≡ length rows → get_or (rows ++ row ∷ []) p d ≡ row
  last_row rows row d p e = let at : p ≡ length rows + 0 = omega (arith, e) in ap (λ (n : ℕ). get_or (rows ++ row ∷ []) n d) at ∙ get_or-append-add rows (row ∷ []) 0 d

  pub rows_next : (rows more : List (List ℕ)) (row : List ℕ) (n : ℕ) → RowsTo rows n → more ≡ rows ++ row ∷ [] → IsStrictlyIncreasing row → ((s : ℕ) → Contains row s ↔ HasEdge steps finals n s) → RowsTo more (n + 1)
  rows_next rows more row n so e up has = subst (λ (l : List (List ℕ)). RowsTo l (n + 1)) (sym e) (record {
    count = omega (arith, length-append rows (row ∷ []), so.count);
    ascending = λ p d lt. dite (ℕ_discrete p n)
        (λ q. subst IsStrictlyIncreasing (sym (last_row rows row d p (omega (arith, q, so.count)))) up)
        (λ ne. subst IsStrictlyIncreasing (sym (get_or_append_left rows (row ∷ []) d p (omega (arith, lt, ne, so.count)))) (so.ascending p d (omega (arith, lt, ne))));
    edges = λ p d lt. dite (ℕ_discrete p n)
        (λ q. subst (λ (l : List ℕ). (s : ℕ) → Contains l s ↔ HasEdge steps finals p s) (sym (last_row rows row d p (omega (arith, q, so.count))))
        (subst (λ (x : ℕ). (s : ℕ) → Contains row s ↔ HasEdge steps finals x s) (sym q) has))
        (λ ne. subst (λ (l : List ℕ). (s : ℕ) → Contains l s ↔ HasEdge steps finals p s) (sym (get_or_append_left rows (row ∷ []) d p (omega (arith, lt, ne, so.count)))) (so.edges p d (omega (arith, lt, ne))));
  })

  pub rows_ordered : (rows : List (List ℕ)) (n : ℕ) → RowsTo rows n → n ≡ length steps → length steps < 2 ^ 32 → AreRows rows
  rows_ordered rows n so e few = record {
    few = omega (arith, so.count, e, few);
    ascending = λ p d lt. so.ascending p d (omega (arith, lt, so.count));
    inside = λ p d lt k x near. let row : List ℕ = get_or rows p d in let s : ℕ = get_or row k x in
        let edge = (so.edges p d (omega (arith, lt, so.count)) s).0 (k, near, get_or_default row k s x near) in
        omega (arith, (edge_ends steps finals p s edge).1, so.count, e);
  }

  pub rows_edges : (rows : List (List ℕ)) (n : ℕ) → RowsTo rows n → n ≡ length steps → (p s : ℕ) → Contains (dependents p (edges_of rows)) s ↔ HasEdge steps finals p s
  rows_edges rows n so e p s = dite (dec_le (suc p) (length rows))
      (λ le. let lt : p < length rows = omega (arith, le) in let row : List ℕ = get_or rows p [] in
      subst (λ (l : List ℕ). Contains l s ↔ HasEdge steps finals p s) (sym (row_leads rows p row lt (get_or_default rows p [] row lt))) (so.edges p [] (omega (arith, lt, so.count)) s))
      (λ ge. let none = dependents-after p 0 rows (omega (arith, ge)) in (
        (λ c. let d : Contains [] s = subst (λ (l : List ℕ). Contains l s) none c in let lt : d.0 < 0 = d.1 in absurd (omega (arith, lt))),
        λ edge. absurd (omega (arith, (edge_ends steps finals p s edge).0, ge, so.count, e)),
      ))
