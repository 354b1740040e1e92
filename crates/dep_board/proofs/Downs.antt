-- Counting down the edges out of one step, one after the other.
use Rattle.std.proofs.Common.{◌≡◌, ℕ, suc, ◌+◌, ◌<◌, ◌≤◌, ◌≢◌, ◌⊎◌, List, [], ◌∷◌, ◌++◌, length, get_or, drop, sym, refl, ap, subst, ◌∙◌, inl, inr, ⊎_elim, arith}
use Rattle.std.proofs.lemmas.List.{append-nil, append_assoc, drop_all}
use lib.Seq.{drop-cons}
use mathlib.Core.Logic.{dite}
use native.Mathlib.Decide.{ℕ_discrete}
use Rattle.dep_board.specs.declared.view.SeatView.{SeatView}
use Rattle.dep_board.specs.Counts.{one_at, times, last_of, IsPart}
use Rattle.dep_board.specs.Edges.{producers, edges_of}
use Rattle.dep_board.specs.Rule.{with_down, ended_in, down_in}
use Rattle.dep_board.proofs.EdgeLemmas.{row_times}
use Rattle.dep_board.proofs.Listed.{times-append, one-same, one-other, producers-snoc_same, producers-snoc_other}

-- what a seat knows before the dependent i, where it was v₀ before the first, and was told of `news` since then
pub record At (step : ℕ) (row : List ℕ) (v₀ v : SeatView) (news : List ℕ) (i : ℕ) : Type 0 where
  pub same_parts : v.parts ≡ v₀.parts
  pub same_steps : v.steps ≡ v₀.steps
  pub same_edges : v.edges ≡ v₀.edges
  pub same_ended : v.ended ≡ v₀.ended
  pub same_late : v.late ≡ v₀.late
  pub told : v.told ≡ v₀.told ++ news
  pub left : (t : ℕ) → times t (drop i row) + down_in step t v ≡ times t row
  pub others : (p t : ℕ) → p ≢ step → down_in p t v ≡ down_in p t v₀
  pub part : (rest : List ℕ) → IsPart rest (drop i row) → IsPart (news ++ rest) row

pub at_start : (step : ℕ) (row : List ℕ) (v : SeatView) (news : List ℕ) → news ≡ [] → ((t : ℕ) → down_in step t v ≡ 0) → At step row v v news 0
at_start step row v news empty none_down = subst (λ (l : List ℕ). At step row v v l 0) (sym empty) (record {
  same_parts = refl;
  same_steps = refl;
  same_edges = refl;
  same_ended = refl;
  same_late = refl;
  told = sym (append-nil v.told);
  left = λ t. omega (arith, none_down t);
  others = λ p t n. refl;
  part = λ rest h. h;
})

pub next : (row : List ℕ) (i s : ℕ) → i < length row → s ≡ get_or row i s → drop i row ≡ s ∷ drop (i + 1) row
next row i s h is = let plus : suc i ≡ i + 1 = omega arith in
    drop-cons row i s h ∙ (ap (λ (x : ℕ). x ∷ drop (suc i) row) (sym is) ∙ ap (λ (n : ℕ). s ∷ drop n row) plus)

module _ (step : ℕ) (row : List ℕ) (v₀ : SeatView) where
  -- the edge is not yet counted down
  pub at_fresh : (v : SeatView) (news : List ℕ) (i s : ℕ) → At step row v₀ v news i → i < length row → s ≡ get_or row i s → down_in step s v < times s row
  at_fresh v news i s a h is = omega (arith, a.left s, ap (times s) (next row i s h is), one-same s)

  pub at_down : (v : SeatView) (news : List ℕ) (i s : ℕ) → At step row v₀ v news i → i < length row → s ≡ get_or row i s → last_of v₀.ended ≡ step
      → (ns : List ℕ) → (ns ≡ s ∷ []) ⊎ (ns ≡ []) → (w : SeatView) → w ≡ with_down v s ns → (more : List ℕ) → more ≡ news ++ ns → At step row v₀ w more (i + 1)
  at_down v news i s a h is last ns told_or_not w w_is more more_is =
      let rest_is = next row i s h is in
      let by : last_of v.ended ≡ step = ap last_of a.same_ended ∙ last in
      let w' : SeatView = with_down v s ns in
      let downs_is : (t : ℕ) → producers t w'.downs ≡ producers t (v.downs ++ (step, s) ∷ []) = λ t. ap (λ (p : ℕ). producers t (v.downs ++ (p, s) ∷ [])) by in
      let here : (p t : ℕ) → s ≡ t → down_in p t w' ≡ down_in p t v + one_at p step
      = λ p t q. omega (arith, ap (times p) (downs_is t ∙ (ap (λ (x : ℕ). producers t (v.downs ++ (step, x) ∷ [])) q ∙ producers-snoc_same t step v.downs)), times-append p (producers t v.downs) (step ∷ [])) in
      let away : (p t : ℕ) → s ≢ t → down_in p t w' ≡ down_in p t v = λ p t n. ap (times p) (downs_is t ∙ producers-snoc_other t s step v.downs n) in
      let at_w : At step row v₀ w' (news ++ ns) (i + 1) = record {
        same_parts = a.same_parts;
        same_steps = a.same_steps;
        same_edges = a.same_edges;
        same_ended = a.same_ended;
        same_late = a.same_late;
        told = ap (λ (l : List ℕ). l ++ ns) a.told ∙ append_assoc v₀.told news ns;
        left = λ t. dite (ℕ_discrete s t)
            (λ q. omega (arith, a.left t, ap (times t) rest_is, here step t q, one-same step, ap (one_at t) q, one-same t))
            (λ n. omega (arith, a.left t, ap (times t) rest_is, away step t n, one-other t s n));
        others = λ p t n. dite (ℕ_discrete s t)
            (λ q. omega (arith, here p t q, one-other p step (λ z. n (sym z)), a.others p t n))
            (λ q. omega (arith, away p t q, a.others p t n));
        part = λ rest p. ⊎_elim
            (λ q. subst (λ (l : List ℕ). IsPart l row) (sym (append_assoc news ns rest ∙ ap (λ (l : List ℕ). news ++ (l ++ rest)) q))
            (a.part (s ∷ rest) (subst (λ (l : List ℕ). IsPart (s ∷ rest) l) (sym rest_is) (inr (rest, refl, p)))))
            (λ q. subst (λ (l : List ℕ). IsPart l row) (sym (append_assoc news ns rest ∙ ap (λ (l : List ℕ). news ++ (l ++ rest)) q))
            (a.part rest (subst (λ (l : List ℕ). IsPart rest l) (sym rest_is) (inl p))))
            told_or_not;
      } in
      subst (λ (x : SeatView). At step row v₀ x more (i + 1)) (sym w_is) (subst (λ (l : List ℕ). At step row v₀ w' l (i + 1)) (sym more_is) at_w)

  pub at_end : (v : SeatView) (news : List ℕ) (i : ℕ) → At step row v₀ v news i → length row ≤ i → ((t : ℕ) → down_in step t v ≡ times t row) × IsPart news row
  at_end v news i a h = let none_left = drop_all i row h in (
    λ t. omega (arith, a.left t, ap (times t) none_left),
    subst (λ (l : List ℕ). IsPart l row) (append-nil news) (a.part [] (subst (λ (l : List ℕ). IsPart [] l) (sym none_left) refl)),
  )

-- what a step on an edge's count asks
pub may_count : (step : ℕ) (keyed rows : List (List ℕ)) (row : List ℕ) (v₀ v : SeatView) (news : List ℕ) (i s : ℕ) → keyed ≡ rows → step < length rows → row ≡ get_or rows step row
    → At step row v₀ v news i → i < length row → s ≡ get_or row i s → last_of v₀.ended ≡ step → 0 < times step v₀.ended
    → (0 < ended_in (last_of v.ended) v) × (down_in (last_of v.ended) s v < times (last_of v.ended) (producers s (edges_of keyed)))
may_count step keyed rows row v₀ v news i s same inside row_is a h is last has =
    let by : last_of v.ended ≡ step = ap last_of a.same_ended ∙ last in
    subst (λ (p : ℕ). (0 < ended_in p v) × (down_in p s v < times p (producers s (edges_of keyed)))) (sym by) (
      subst (λ (l : List ℕ). 0 < times step l) (sym a.same_ended) has,
      omega (arith, at_fresh step row v₀ v news i s a h is, row_times rows step s row inside row_is, ap (λ (l : List (List ℕ)). times step (producers s (edges_of l))) same),
    )
