-- What the rule says of all views together.
use Rattle.std.proofs.Common.{◌≡◌, ℕ, ◌+◌, ◌<◌, ◌≤◌, List, length, get_or, ◌∙◌, arith}
use mathlib.Core.Logic.{dite}
use native.Mathlib.Decide.{dec_le}
use Rattle.dep_board.specs.Counts.{times, total}
use Rattle.dep_board.specs.Edges.{producers}
use Rattle.dep_board.specs.Rule.{IsKept, due, told_in, down_in}
use Rattle.dep_board.proofs.Keeps.{Board, due-le, due-zero, due-nil, due-now}
use Rattle.dep_board.proofs.Listed.{length_le, times_same, pool, pool-length, pool-times}

module _ (steps : ℕ) (edges : List (ℕ × ℕ)) (s : Board) (k : IsKept steps edges s) where
  inside : (t : ℕ) → 0 < length (producers t edges) → t < steps
  inside t some_edge = dite (dec_le steps t) (λ h. absurd (omega (arith, k.near t h, some_edge))) (λ h. omega arith)

  pub told_once : (t : ℕ) → total (told_in t) s.views ≤ 1
  told_once t = omega (arith, k.told t, due-le (get_or s.words (1 + t) 0) (length (producers t edges)))

  told_has_edge : (n e : ℕ) → 0 < due n e → 0 < e
  told_has_edge n e h = dite (dec_le 1 e) (λ d. d) (λ d. absurd (omega (arith, h, due-nil n e (omega arith))))

  pub after_all_edges : (t : ℕ) → 0 < total (told_in t) s.views → (p : ℕ) → total (down_in p t) s.views ≡ times p (producers t edges)
  after_all_edges t was_told p =
      let n : ℕ = get_or s.words (1 + t) 0 in let e : ℕ = length (producers t edges) in
      let is_due : 0 < due n e = omega (arith, was_told, k.told t) in
      let empty = due-zero n e is_due in
      let all = k.counts t (inside t (told_has_edge n e is_due)) in
      let same = times_same (pool t s.views) (producers t edges) (λ q. omega (arith, pool-times q t s.views, k.downs q t)) (omega (arith, pool-length t s.views, all, empty)) p in
      omega (arith, same, pool-times p t s.views, k.downs p t)

  pub none_is_missed : (t : ℕ) → 0 < length (producers t edges) → ((p : ℕ) → total (down_in p t) s.views ≡ times p (producers t edges)) → total (told_in t) s.views ≡ 1
  none_is_missed t some_edge all =
      let long = length_le (producers t edges) (pool t s.views) (λ q. omega (arith, pool-times q t s.views, all q)) in
      let empty : get_or s.words (1 + t) 0 ≡ 0 = omega (arith, k.counts t (inside t some_edge), pool-length t s.views, long) in
      k.told t ∙ due-now (get_or s.words (1 + t) 0) (length (producers t edges)) empty some_edge
