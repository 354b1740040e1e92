-- The edges of rows: what leads out of a step is its row.
use Rattle.std.proofs.Common.{◌≡◌, ℕ, zero, suc, ◌+◌, ◌<◌, ◌≤◌, ◌≢◌, ◌↔◌, Bool, true, false, cond, eqb, List, [], ◌∷◌, ◌++◌, length, get_or, Contains, sym, refl, ap, subst, ◌∙◌, arith, eq-eqb, ne_eqb}
use Rattle.std.specs.List.{All}
use Rattle.std.specs.List.Sorted.{IsStrictlyIncreasing}
use Rattle.std.proofs.lemmas.List.{append_assoc, append-nil, length-append, get_or_default}
use mathlib.Core.Logic.{dite}
use native.Mathlib.Decide.{ℕ_discrete, dec_le}
use Rattle.dep_board.specs.Counts.{one_at, times}
use Rattle.dep_board.specs.Edges.{producer_of, producers, dependents, row_edges, edges_from, edges_of, AreRows}
use Rattle.dep_board.proofs.Listed.{times-append, some_times, times_some, one-same, one-other, producers-append, rising_once}

times_cond : (p x : ℕ) (b : Bool) → times p (cond b (x ∷ []) []) ≡ cond b (one_at p x) 0
times_cond p x true = omega arith
times_cond p x false = refl

crossed : (b c : Bool) → ◌≡◌ {A = ℕ} (cond c (cond b 1 0) 0) (cond b (cond c 1 0) 0)
crossed true true = refl
crossed true false = refl
crossed false true = refl
crossed false false = refl

-- p is a producer of s as often as s is a dependent of p
pub times_across : (p s : ℕ) (es : List (ℕ × ℕ)) → times p (producers s es) ≡ times s (dependents p es)
times_across p s [] = refl
times_across p s (e ∷ es) = omega (
  arith,
  times-append p (producer_of s e) (producers s es),
  times-append s (cond (eqb e.0 p) (e.1 ∷ []) []) (dependents p es),
  times_cond p e.0 (eqb e.1 s),
  times_cond s e.1 (eqb e.0 p),
  crossed (eqb e.0 p) (eqb e.1 s),
  times_across p s es,
)

dependents-append : (p : ℕ) (l m : List (ℕ × ℕ)) → dependents p (l ++ m) ≡ dependents p l ++ dependents p m
dependents-append p [] m = refl
dependents-append p (e ∷ es) m = ap (λ (r : List ℕ). cond (eqb e.0 p) (e.1 ∷ []) [] ++ r) (dependents-append p es m) ∙ sym (append_assoc (cond (eqb e.0 p) (e.1 ∷ []) []) (dependents p es) (dependents p m))

dependents-same : (p : ℕ) (row : List ℕ) → dependents p (row_edges p row) ≡ row
dependents-same p [] = refl
dependents-same p (s ∷ row) = ap (λ (b : Bool). cond b (s ∷ []) [] ++ dependents p (row_edges p row)) (eq-eqb p p refl) ∙ ap (λ (r : List ℕ). s ∷ r) (dependents-same p row)

dependents-other : (p q : ℕ) (row : List ℕ) → q ≢ p → dependents p (row_edges q row) ≡ []
dependents-other p q [] n = refl
dependents-other p q (s ∷ row) n = ap (λ (b : Bool). cond b (s ∷ []) [] ++ dependents p (row_edges q row)) (ne_eqb q p n) ∙ dependents-other p q row n

dependents-before : (p q : ℕ) (rows : List (List ℕ)) → p < q → dependents p (edges_from q rows) ≡ []
dependents-before p q [] lt = refl
dependents-before p q (row ∷ rows) lt = dependents-append p (row_edges q row) (edges_from (suc q) rows)
    ∙ (ap (λ (r : List ℕ). r ++ dependents p (edges_from (suc q) rows)) (dependents-other p q row (λ e. omega (arith, lt, e))) ∙ dependents-before p (suc q) rows (omega (arith, lt)))

pub dependents-after : (p q : ℕ) (rows : List (List ℕ)) → q + length rows ≤ p → dependents p (edges_from q rows) ≡ []
dependents-after p q [] le = refl
dependents-after p q (row ∷ rows) le = dependents-append p (row_edges q row) (edges_from (suc q) rows)
    ∙ (ap (λ (r : List ℕ). r ++ dependents p (edges_from (suc q) rows)) (dependents-other p q row (λ e. omega (arith, le, e))) ∙ dependents-after p (suc q) rows (omega (arith, le)))

dependents-at : (p q k : ℕ) (rows : List (List ℕ)) (row : List ℕ) → p ≡ q + k → k < length rows → row ≡ get_or rows k row → dependents p (edges_from q rows) ≡ row
dependents-at p q k [] row e lt is = absurd (omega (arith, lt))
dependents-at p q zero (first ∷ rows) row e lt is = let same : q ≡ p = omega (arith, e) in
    dependents-append p (row_edges q first) (edges_from (suc q) rows)
    ∙ (ap (λ (r : List ℕ). dependents p (row_edges q first) ++ r) (dependents-before p (suc q) rows (omega (arith, same)))
    ∙ (append-nil (dependents p (row_edges q first)) ∙ (ap (λ (x : ℕ). dependents p (row_edges x first)) same ∙ (dependents-same p first ∙ sym is))))
dependents-at p q (suc k) (first ∷ rows) row e lt is =
    dependents-append p (row_edges q first) (edges_from (suc q) rows)
    ∙ (ap (λ (r : List ℕ). r ++ dependents p (edges_from (suc q) rows)) (dependents-other p q first (λ z. omega (arith, e, z))) ∙ dependents-at p (suc q) k rows row (omega (arith, e)) (omega (arith, lt)) is)

-- what leads out of a step is its row
pub row_leads : (rows : List (List ℕ)) (p : ℕ) (row : List ℕ) → p < length rows → row ≡ get_or rows p row → dependents p (edges_of rows) ≡ row
row_leads rows p row lt is = dependents-at p 0 p rows row (omega arith) lt is

pub row_times : (rows : List (List ℕ)) (p t : ℕ) (row : List ℕ) → p < length rows → row ≡ get_or rows p row → times p (producers t (edges_of rows)) ≡ times t row
row_times rows p t row lt is = times_across p t (edges_of rows) ∙ ap (times t) (row_leads rows p row lt is)

pub row_rises : (rows : List (List ℕ)) → AreRows rows → (p : ℕ) → IsStrictlyIncreasing (dependents p (edges_of rows))
row_rises rows ordered p = dite (dec_le (suc p) (length rows))
    (λ le. let lt : p < length rows = omega (arith, le) in let row : List ℕ = get_or rows p [] in
    subst IsStrictlyIncreasing (sym (row_leads rows p row lt (get_or_default rows p [] row lt))) (ordered.ascending p [] lt))
    (λ ge. subst IsStrictlyIncreasing (sym (dependents-after p 0 rows (omega (arith, ge)))) (λ k lt. absurd (omega (arith, lt))))

row_count : (t q : ℕ) (row : List ℕ) → length (producers t (row_edges q row)) ≡ times t row
row_count t q [] = refl
row_count t q (s ∷ row) = omega (arith, length-append (producer_of t (q, s)) (producers t (row_edges q row)), one_long (eqb s t), row_count t q row) where
  one_long : (b : Bool) → length (cond b (q ∷ []) []) ≡ cond b 1 0
  one_long true = refl
  one_long false = refl

-- the edges into t that a first row has, and the others
pub first_row : (t q : ℕ) (row : List ℕ) (rows : List (List ℕ)) → length (producers t (edges_from q (row ∷ rows))) ≡ times t row + length (producers t (edges_from (suc q) rows))
first_row t q row rows = omega (
  arith,
  ap length (producers-append t (row_edges q row) (edges_from (suc q) rows)),
  length-append (producers t (row_edges q row)) (producers t (edges_from (suc q) rows)),
  row_count t q row,
)

pub few_from : (rows : List (List ℕ)) (t q : ℕ) → All IsStrictlyIncreasing rows → length (producers t (edges_from q rows)) ≤ length rows
few_from [] t q up = omega arith
few_from (row ∷ rows) t q up = omega (arith, first_row t q row rows, rising_once row (up 0 [] (omega arith)) t, few_from rows t (suc q) (λ k d lt. up (suc k) d (omega (arith, lt))))

pub none_past : (n : ℕ) (row : List ℕ) → All (λ s. s < n) row → (t : ℕ) → n ≤ t → times t row ≡ 0
none_past n [] low t far = refl
none_past n (s ∷ row) low t far = let here : s < n = low 0 0 (omega arith) in
    omega (arith, one-other t s (λ e. omega (arith, e, here, far)), none_past n row (λ k d lt. low (suc k) d (omega (arith, lt))) t far)

pub none_far : (n : ℕ) (rows : List (List ℕ)) (q : ℕ) → All (All (λ s. s < n)) rows → (t : ℕ) → n ≤ t → length (producers t (edges_from q rows)) ≡ 0
none_far n [] q low t far = refl
none_far n (row ∷ rows) q low t far = omega (arith, first_row t q row rows, none_past n row (low 0 [] (omega arith)) t far, none_far n rows (suc q) (λ k d lt. low (suc k) d (omega (arith, lt))) t far)

pub row_inside : (rows : List (List ℕ)) → AreRows rows → (p : ℕ) (row : List ℕ) → p < length rows → row ≡ get_or rows p row → All (λ s. s < length rows) row
row_inside rows ordered p row lt is = subst (λ (r : List ℕ). All (λ s. s < length rows) r) (sym is) (ordered.inside p row lt)

in_edges : (p s : ℕ) (es : List (ℕ × ℕ)) (k : ℕ) → k < length es → get_or es k (p, s) ≡ (p, s) → 0 < times s (dependents p es)
in_edges p s [] k lt is = absurd (omega (arith, lt))
in_edges p s (e ∷ es) zero lt is = omega (
  arith,
  times-append s (cond (eqb e.0 p) (e.1 ∷ []) []) (dependents p es),
  ap (λ (b : Bool). times s (cond b (e.1 ∷ []) [])) (eq-eqb e.0 p (ap (λ (x : ℕ × ℕ). x.0) is)),
  ap (one_at s) (ap (λ (x : ℕ × ℕ). x.1) is),
  one-same s,
)
in_edges p s (e ∷ es) (suc k) lt is = omega (arith, times-append s (cond (eqb e.0 p) (e.1 ∷ []) []) (dependents p es), in_edges p s es k (omega (arith, lt)) is)

edge_there : (p s : ℕ) (es : List (ℕ × ℕ)) → 0 < times s (dependents p es) → Contains es (p, s)
edge_there p s [] h = absurd (omega arith)
edge_there p s (e ∷ es) h =
    let sum = times-append s (cond (eqb e.0 p) (e.1 ∷ []) []) (dependents p es) in
    let later : 0 < times s (dependents p es) → Contains (e ∷ es) (p, s) = λ more. let c = edge_there p s es more in let lt : c.0 < length es = c.1 in (suc c.0, omega (arith, lt), c.2) in
    dite (ℕ_discrete e.0 p)
    (λ q. dite (ℕ_discrete e.1 s)
    (λ r. (0, omega arith, ap (λ (x : ℕ). (x, e.1)) q ∙ ap (λ (x : ℕ). (p, x)) r))
    (λ n. later (omega (arith, h, sum, ap (λ (b : Bool). times s (cond b (e.1 ∷ []) [])) (eq-eqb e.0 p q), one-other s e.1 n))))
    (λ n. later (omega (arith, h, sum, ap (λ (b : Bool). times s (cond b (e.1 ∷ []) [])) (ne_eqb e.0 p n))))

-- an edge is in the list where its step is a dependent of its producer
pub edge_across : (p s : ℕ) (es : List (ℕ × ℕ)) → Contains es (p, s) ↔ Contains (dependents p es) s
edge_across p s es = ((λ c. times_some (dependents p es) s (in_edges p s es c.0 c.1 c.2)), λ c. edge_there p s es (some_times (dependents p es) s c))
