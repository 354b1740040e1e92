-- The order in which steps are removed ranks them.
use Rattle.std.proofs.Common.{◌≡◌, ℕ, zero, suc, ◌<◌, ◌≤◌, List, [], ◌∷◌, length, Contains, get_or, take, arith, sym, ◌∙◌, subst, ◌⊎◌, inl, inr, ◌↔◌}
use Rattle.std.proofs.lemmas.List.{get_or_default, get_or-take, length-take-le}
use Rattle.std.proofs.lemmas.Bool.{cases_eq}
use Rattle.item_types.specs.declared.step.StepDecl.{StepDecl}
use Rattle.chain_builder.specs.Rows.{row}
use Rattle.chain_builder.specs.Core.{AreInOrder}
use Rattle.chain_builder.specs.Edge.{HasEdge}
use Rattle.chain_builder.specs.Rank.{HasRank}
use Rattle.chain_builder.proofs.RowLemmas.{row_within}

-- the first place of a number in a list, and a place past the end where it isn't there
step_over : {P : Type 0} → P ⊎ (P → ⊥) → ℕ → ℕ
step_over (inl p) n = 0
step_over (inr n') n = suc n

place_in : List ℕ → ℕ → ℕ
place_in [] s = 0
place_in (x ∷ xs) s = step_over (cases_eq s x) (place_in xs s)

place_le : (xs : List ℕ) (j s : ℕ) → j < length xs → get_or xs j 0 ≡ s → place_in xs s ≤ j
unfolding place_in step_over
place_le [] j s h e = absurd (omega arith)
place_le (x ∷ xs) zero s h e = go (cases_eq s x)
  where
    go : (d : (s ≡ x) ⊎ (s ≡ x → ⊥)) → step_over d (place_in xs s) ≤ 0
    go (inl p) = omega arith
    go (inr n) = absurd (n (sym e))
place_le (x ∷ xs) (suc j) s h e = go (cases_eq s x) (place_le xs j s (omega arith) e)
  where
    go : (d : (s ≡ x) ⊎ (s ≡ x → ⊥)) → place_in xs s ≤ j → step_over d (place_in xs s) ≤ suc j
    go (inl p) le = omega arith
    go (inr n) le = omega arith

place_is : (xs : List ℕ) (s : ℕ) → place_in xs s < length xs → get_or xs (place_in xs s) 0 ≡ s
unfolding place_in step_over
place_is [] s h = absurd (omega arith)
place_is (x ∷ xs) s h = go (cases_eq s x) h (λ lt. place_is xs s lt)
  where
    go : (d : (s ≡ x) ⊎ (s ≡ x → ⊥)) → step_over d (place_in xs s) < length (x ∷ xs) → (place_in xs s < length xs → get_or xs (place_in xs s) 0 ≡ s) → get_or (x ∷ xs) (step_over d (place_in xs s)) 0 ≡ s
    go (inl p) h rest = sym p
    go (inr n) h rest = rest (omega arith)

-- what is in a front stands at a place before its end
taken_at : (n : ℕ) (xs : List ℕ) (x : ℕ) → n ≤ length xs → Contains (take n xs) x → (k : ℕ) × (k < n) × (get_or xs k 0 ≡ x)
taken_at n xs x le h =
    let short : h.0 < length (take n xs) = h.1 in
    let lt : h.0 < n = omega (arith, length-take-le n xs le) in
    (h.0, lt, sym (get_or-take n xs h.0 0 lt) ∙ (get_or_default (take n xs) h.0 0 x short ∙ h.2))

-- where all are removed, each after those in its row, the places rise along the edges
pub has_rank : (steps : List StepDecl) (finals : List ℕ) (into : List (List ℕ)) (removed : List ℕ) → ((s p : ℕ) → Contains (row into s) p ↔ HasEdge steps finals p s) → AreInOrder into removed → ((s : ℕ) → s < length into → Contains removed s) → HasRank steps finals
has_rank steps finals into removed edges order all = record {
  rank = place_in removed;
  rises = λ p s e.
      let there : Contains (row into s) p = (edges s p).1 e in
      let found : Contains removed s = all s (row_within into s p there) in
      let inside : found.0 < length removed = found.1 in
      let le : place_in removed s ≤ found.0 = place_le removed found.0 s inside (get_or_default removed found.0 0 s inside ∙ found.2) in
      let lt : place_in removed s < length removed = omega arith in
      let before : Contains (take (place_in removed s) removed) p = order (place_in removed s) lt p (subst (λ z. Contains (row into z) p) (sym (place_is removed s lt)) there) in
      let f = taken_at (place_in removed s) removed p (omega arith) before in
      let first : place_in removed p ≤ f.0 = place_le removed f.0 p (omega (arith, f.1)) f.2 in
      omega (arith, f.1);
}
