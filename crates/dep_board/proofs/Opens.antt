-- The words of a board before its first step.
use Rattle.std.proofs.Common.{◌≡◌, ℕ, suc, ◌+◌, ◌-◌, ◌<◌, ◌≤◌, ◌^◌, List, ◌∷◌, length, get_or, set, drop, replicate, sym, ap, subst, ◌∙◌, arith, length-set, get_or-set_other, get_or-set_same}
use Rattle.std.specs.List.{All}
use Rattle.std.proofs.lemmas.List.{length-replicate, get_or-replicate, drop_all}
use lib.Seq.{drop-cons}
use mathlib.Core.Logic.{dite}
use native.Mathlib.Decide.{ℕ_discrete, dec_le}
use Rattle.dep_board.specs.Counts.{one_at, times}
use Rattle.dep_board.specs.Edges.{producers, edges_from, edges_of, AreRows}
use Rattle.dep_board.proofs.Downs.{next}
use Rattle.dep_board.proofs.EdgeLemmas.{first_row, few_from, none_past}
use Rattle.dep_board.proofs.Listed.{one-same, one-other}

-- the steps of a row before i are counted
pub record CountedTo (olds news : List ℕ) (row : List ℕ) (i : ℕ) : Type 0 where
  pub wide : length news ≡ length olds
  pub counts : (s : ℕ) → 1 + s < length olds → get_or news (1 + s) 0 + times s (drop i row) ≡ get_or olds (1 + s) 0 + times s row

pub counted_next : (olds ws us : List ℕ) (row : List ℕ) (i s : ℕ) → CountedTo olds ws row i → i < length row → s ≡ get_or row i s → 1 + s < length olds → us ≡ set ws (1 + s) (get_or ws (1 + s) 0 + 1) → CountedTo olds us row (i + 1)
counted_next olds ws us row i s o near is inside us_is =
    let new : ℕ = get_or ws (1 + s) 0 + 1 in
    subst (λ (l : List ℕ). CountedTo olds l row (i + 1)) (sym us_is) (record {
      wide = length-set ws (1 + s) new ∙ o.wide;
      counts = λ t h. let cut = ap (times t) (next row i s near is) in dite (ℕ_discrete s t)
          (λ q. omega (arith, ap (λ (x : ℕ). get_or (set ws (1 + s) new) (1 + x) 0) (sym q), get_or-set_same ws (1 + s) new 0 (omega (arith, o.wide, inside)), ap (λ (x : ℕ). get_or ws (1 + x) 0) q, o.counts t h, cut, ap (one_at t) q, one-same t))
          (λ n. omega (arith, get_or-set_other ws (1 + s) (1 + t) new 0 (λ q. n (omega arith)), o.counts t h, cut, one-other t s n));
    })

pub counted_small : (olds ws : List ℕ) (row : List ℕ) (i s : ℕ) → CountedTo olds ws row i → i < length row → s ≡ get_or row i s → 1 + s < length olds → get_or olds (1 + s) 0 + times s row < 2 ^ 64 → get_or ws (1 + s) 0 + 1 < 2 ^ 64
counted_small olds ws row i s o near is inside few = omega (arith, o.counts s inside, ap (times s) (next row i s near is), one-same s, few)

pub counted_end : (olds ws : List ℕ) (row : List ℕ) (i : ℕ) → CountedTo olds ws row i → length row ≤ i → (s : ℕ) → 1 + s < length olds → get_or ws (1 + s) 0 ≡ get_or olds (1 + s) 0 + times s row
counted_end olds ws row i o h s inside = omega (arith, o.counts s inside, ap (times s) (drop_all i row h))

-- the edges of the rows before i are counted
pub record Opened (rows : List (List ℕ)) (ws : List ℕ) (i : ℕ) : Type 0 where
  pub wide : length ws ≡ 1 + length rows + length rows
  pub counts : (t : ℕ) → t < length rows → get_or ws (1 + t) 0 + length (producers t (edges_from i (drop i rows))) ≡ length (producers t (edges_of rows))
  pub free : (p : ℕ) → p < length rows → get_or ws (1 + length rows + p) 0 ≡ 0

module _ (rows : List (List ℕ)) (ordered : AreRows rows) where
  pub opened_start : (ws : List ℕ) (n : ℕ) → n ≡ 1 + length rows + length rows → ws ≡ replicate n 0 → Opened rows ws 0
  opened_start ws n wide is = subst (λ (l : List ℕ). Opened rows l 0) (sym is) (record {
    wide = length-replicate {A = ℕ} n 0 ∙ wide;
    counts = λ t h. omega (arith, get_or-replicate {A = ℕ} n (1 + t) 0 0 (omega (arith, wide)));
    free = λ p h. get_or-replicate {A = ℕ} n (1 + length rows + p) 0 0 (omega (arith, wide));
  })

  pub opened_small : (ws : List ℕ) (i : ℕ) → Opened rows ws i → (s : ℕ) → 1 + s < length ws → get_or ws (1 + s) 0 < 2 ^ 32
  opened_small ws i o s inside = dite (dec_le (suc s) (length rows))
      (λ lt. omega (arith, o.counts s lt, few_from rows s 0 ordered.ascending, ordered.few))
      (λ ge. let p = s - length rows in let at : s ≡ length rows + p = omega arith in
      omega (arith, o.free p (omega (arith, o.wide, inside)), ap (λ (x : ℕ). get_or ws (1 + x) 0) at, ap (λ (x : ℕ). get_or ws x 0) (let e : 1 + (length rows + p) ≡ 1 + length rows + p = omega arith in e)))

  pub opened_next : (ws us : List ℕ) (i : ℕ) (row : List ℕ) → Opened rows ws i → i < length rows → row ≡ get_or rows i row → length us ≡ length ws
      → ((s : ℕ) → 1 + s < length ws → get_or us (1 + s) 0 ≡ get_or ws (1 + s) 0 + times s row) → Opened rows us (i + 1)
  opened_next ws us i row o near is wide adds = record {
    wide = wide ∙ o.wide;
    counts = λ t h. let plus : suc i ≡ i + 1 = omega arith in
        let cut : drop i rows ≡ row ∷ drop (i + 1) rows = drop-cons rows i row near ∙ (ap (λ (x : List ℕ). x ∷ drop (suc i) rows) (sym is) ∙ ap (λ (n : ℕ). row ∷ drop n rows) plus) in
        omega (
          arith,
          o.counts t h,
          adds t (omega (arith, o.wide)),
          ap (λ (l : List (List ℕ)). length (producers t (edges_from i l))) cut,
          first_row t i row (drop (i + 1) rows),
          ap (λ (n : ℕ). length (producers t (edges_from n (drop (i + 1) rows)))) plus,
        );
    free = λ p h. let low = none_past (length rows) row (subst (λ (r : List ℕ). All (λ s. s < length rows) r) (sym is) (ordered.inside i row near)) in
        let e : 1 + (length rows + p) ≡ 1 + length rows + p = omega arith in
        omega (arith, ap (λ (x : ℕ). get_or us x 0) e, ap (λ (x : ℕ). get_or ws x 0) e, adds (length rows + p) (omega (arith, o.wide)), low (length rows + p) (omega arith), o.free p h);
  }

  pub opened_end : (ws : List ℕ) (i : ℕ) → Opened rows ws i → length rows ≤ i → (t : ℕ) → t < length rows → get_or ws (1 + t) 0 ≡ length (producers t (edges_of rows))
  opened_end ws i o h t inside = omega (arith, o.counts t inside, ap (λ (l : List (List ℕ)). length (producers t (edges_from i l))) (drop_all i rows h))
