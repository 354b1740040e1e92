-- What a pass keeps between two calls.
use Rattle.std.proofs.Common.{◌≡◌, ℕ, ◌+◌, ◌<◌, ◌≤◌, ◌↔◌, ◌≢◌, Bool, cond, nat_lt, lt-ltb, le-ltb, List, [], ◌∷◌, ◌++◌, length, sym, refl, ap, subst, ◌∙◌, arith}
use mathlib.Core.Logic.{dite}
use native.Mathlib.Decide.{ℕ_discrete, dec_le}
use Rattle.dep_board.specs.declared.view.SeatView.{SeatView}
use Rattle.dep_board.specs.Counts.{one_at, times, IsPart}
use Rattle.dep_board.specs.Edges.{producers, dependents}
use Rattle.dep_board.specs.Rule.{all_parts, left_over, blank, joined, with_late, ended_in, down_in}
use Rattle.dep_board.specs.Steps.{IsSound, SaysOf}
use Rattle.dep_board.specs.Passes.{IsSettled, IsReleased, kept_in, open_edges}
use Rattle.dep_board.proofs.Keeps.{handed_on_fits}
use Rattle.dep_board.proofs.EdgeLemmas.{times_across}
use Rattle.dep_board.proofs.Listed.{times-append, one-same, one-other, producers-append, length_le, some_in, times-head, part_times}

pub new_settled : (n : ℕ) (v u : SeatView) → u ≡ blank n v.steps v.edges → IsSettled u
new_settled n v u e = subst IsSettled (sym e) (λ p t. ((λ h. absurd (omega arith)), λ _. refl))

pub new_sound : (n : ℕ) (v u : SeatView) → n ≤ all_parts → u ≡ blank n v.steps v.edges → IsSound u
new_sound n v u few e = subst IsSound (sym e) (record {
  within = few;
  sure = λ t whole was_told p has. absurd (omega arith);
  once_ended = λ p. omega arith;
  once_told = λ t. omega arith;
  full = λ t some_edge all. let p = some_in (producers t v.edges) some_edge in absurd (omega (arith, p.1, all p.0));
})

kept_yes : (ended : List ℕ) (p : ℕ) → 0 < times p ended → cond (nat_lt 0 (times p ended)) (p ∷ []) [] ≡ p ∷ []
kept_yes ended p h = ap (λ (b : Bool). cond b (p ∷ []) []) (lt-ltb 0 (times p ended) h)

kept_no : (ended : List ℕ) (p : ℕ) → times p ended ≤ 0 → cond (nat_lt 0 (times p ended)) (p ∷ []) [] ≡ []
kept_no ended p h = ap (λ (b : Bool). cond b (p ∷ []) []) (le-ltb 0 (times p ended) h)

-- a step is kept as often as it stands, where it stands in `ended`, and else never
kept_times : (ended : List ℕ) (x : ℕ) (l : List ℕ) → (times x (kept_in ended l) ≤ times x l) × (times x ended ≡ 0 → times x (kept_in ended l) ≡ 0) × (0 < times x ended → times x (kept_in ended l) ≡ times x l)
kept_times ended x [] = (omega arith, (λ _. refl), λ _. refl)
kept_times ended x (p ∷ ps) = let more = kept_times ended x ps in let sum = times-append x (cond (nat_lt 0 (times p ended)) (p ∷ []) []) (kept_in ended ps) in
    dite (dec_le (times p ended) 0)
    (λ h. let here = ap (times x) (kept_no ended p h) in (omega (arith, sum, here, more.0), (λ z. omega (arith, sum, here, more.1 z)), λ z. omega (arith, sum, here, more.2 z, one-other x p (λ e. omega (arith, h, z, ap (λ (y : ℕ). times y ended) e)))))
    (λ h. let here = ap (times x) (kept_yes ended p (omega arith)) in (
      omega (arith, sum, here, more.0),
      (λ z. omega (arith, sum, here, more.1 z, one-other x p (λ e. h (omega (arith, ap (λ (y : ℕ). times y ended) e, z))))),
      λ z. omega (arith, sum, here, more.2 z),
    ))

pub open_most : (v : SeatView) (t n : ℕ) → IsSettled v → SaysOf v t n → n ≤ open_edges t v.edges v.ended
open_most v t n settled counts =
    let few = length_le (kept_in v.ended (producers t v.edges)) (producers t v.downs)
    (λ p. let k = kept_times v.ended p (producers t v.edges) in
    dite (dec_le 1 (ended_in p v)) (λ h. omega (arith, k.0, (settled p t).0 h)) (λ h. omega (arith, k.1 (omega arith)))) in
    omega (arith, few, counts.0)

-- what is counted down of two passes that ended no step both
pub both_settled : (v u w : SeatView) → w ≡ joined v u → v.edges ≡ u.edges → IsSound w → IsSettled v → IsSettled u → IsSettled w
both_settled v u w e same sound on_v on_u =
    let j : SeatView = joined v u in let on_j : IsSound j = subst IsSound e sound in
    subst IsSettled (sym e) (λ p t.
    let d : down_in p t j ≡ down_in p t v + down_in p t u = ap (times p) (producers-append t v.downs u.downs) ∙ times-append p (producers t v.downs) (producers t u.downs) in
    let m : ended_in p j ≡ ended_in p v + ended_in p u = times-append p v.ended u.ended in
    let edges : times p (producers t v.edges) ≡ times p (producers t u.edges) = ap (λ (es : List (ℕ × ℕ)). times p (producers t es)) same in
    let a = on_v p t in let b = on_u p t in (
      (λ h. dite (dec_le 1 (ended_in p v))
          (λ x. omega (arith, d, a.0 x, b.1 (omega (arith, m, on_j.once_ended p))))
          (λ x. omega (arith, d, edges, a.1 (omega arith), b.0 (omega (arith, m, h))))),
      λ z. omega (arith, d, a.1 (omega (arith, m, z)), b.1 (omega (arith, m, z))),
    ))

pub late_sound : (v w : SeatView) (p : ℕ) → w ≡ with_late v p → IsSound v → IsSound w
late_sound v w p e s = subst IsSound (sym e) (record { within = s.within; sure = s.sure; once_ended = s.once_ended; once_told = s.once_told; full = s.full })

pub late_settled : (v w : SeatView) (p : ℕ) → w ≡ with_late v p → IsSettled v → IsSettled w
late_settled v w p e s = subst IsSettled (sym e) s

-- one more step was ended, and the edges out of it are counted down
pub more_settled : (v w : SeatView) (p : ℕ) → IsSettled v → w.ended ≡ v.ended ++ p ∷ [] → w.edges ≡ v.edges → times p v.ended ≡ 0
    → ((t : ℕ) → down_in p t w ≡ times p (producers t w.edges)) → ((q t : ℕ) → q ≢ p → down_in q t w ≡ down_in q t v) → IsSettled w
more_settled v w p s more same fresh mine others = λ q t.
    let count : ended_in q w ≡ ended_in q v + one_at q p = omega (arith, ap (times q) more, times-append q v.ended (p ∷ [])) in
    let edges : times q (producers t w.edges) ≡ times q (producers t v.edges) = ap (λ (es : List (ℕ × ℕ)). times q (producers t es)) same in
    dite (ℕ_discrete q p)
    (λ e. (
      (λ h. subst (λ (x : ℕ). down_in x t w ≡ times x (producers t w.edges)) (sym e) (mine t)),
      λ z. absurd (omega (arith, z, count, ap (λ (x : ℕ). one_at x p) e, one-same p)),
    ))
    (λ n. (
      (λ h. others q t n ∙ ((s q t).0 (omega (arith, h, count, one-other q p (λ e. n (sym e)))) ∙ sym edges)),
      λ z. others q t n ∙ (s q t).1 (omega (arith, z, count)),
    ))

-- where all producers of the edges into a step were ended, the pass was told of it
pub told_all : (v : SeatView) → IsSettled v → IsSound v → (t : ℕ) → 0 < length (producers t v.edges) → ((p : ℕ) → 0 < times p (producers t v.edges) → 0 < times p v.ended) → 0 < times t v.told
told_all v settled sound t some_edge all = sound.full t some_edge (λ p. dite (dec_le 1 (times p (producers t v.edges))) (λ h. omega (arith, (settled p t).0 (all p h))) (λ h. omega arith))

pub open_all : (v : SeatView) (t n : ℕ) → IsSettled v → SaysOf v t n → v.parts ≡ all_parts → n ≡ open_edges t v.edges v.ended
open_all v t n settled counts whole =
    let few = length_le (producers t v.downs) (kept_in v.ended (producers t v.edges))
    (λ p. let k = kept_times v.ended p (producers t v.edges) in
    dite (dec_le 1 (ended_in p v)) (λ h. omega (arith, k.2 h, (settled p t).0 h)) (λ h. omega (arith, (settled p t).1 (omega arith)))) in
    let most = open_most v t n settled counts in
    omega (arith, few, most, counts.2 whole)

pub left_over_sound : (v w : SeatView) → 1 < v.parts → w ≡ left_over v → IsSound v → IsSound w
left_over_sound v w enough e s = let some = handed_on_fits v.parts enough in subst IsSound (sym e) (record {
  within = omega (arith, s.within, some.1);
  sure = λ t whole. absurd (omega (arith, whole, s.within, some.0, some.1));
  once_ended = s.once_ended;
  once_told = s.once_told;
  full = s.full;
})

pub left_over_settled : (v w : SeatView) → w ≡ left_over v → IsSettled v → IsSettled w
left_over_settled v w e s = subst IsSettled (sym e) s

pub told_only : (v : SeatView) → IsSound v → (t : ℕ) → v.parts ≡ all_parts → 0 < times t v.told → (p : ℕ) → 0 < times p (producers t v.edges) → 0 < times p v.ended
told_only v sound t whole was_told p has = sound.sure t whole was_told p has

-- a view with all parts that ended one more step was told of just the steps that this released
pub told_exactly : (step : ℕ) (v w : SeatView) (news : List ℕ) → IsSettled v → IsSound v → IsSettled w → IsSound w → v.parts ≡ all_parts → w.parts ≡ all_parts → w.edges ≡ v.edges
    → w.ended ≡ v.ended ++ step ∷ [] → w.told ≡ v.told ++ news → times step v.ended ≡ 0 → IsPart news (dependents step v.edges) → (s : ℕ) → (0 < times s news) ↔ IsReleased step s v.edges (v.ended ++ step ∷ [])
told_exactly step v w news settled_v sound_v settled_w sound_w whole_v whole_w edges ended told fresh part s =
    let sum : times s w.told ≡ times s v.told + times s news = ap (times s) told ∙ times-append s v.told news in
    let same : (p : ℕ) → times p (producers s w.edges) ≡ times p (producers s v.edges) = λ p. ap (λ (es : List (ℕ × ℕ)). times p (producers s es)) edges in
    let across = times_across step s v.edges in (
      (λ h. (
        omega (arith, h, part_times news (dependents step v.edges) part s),
        λ p has. subst (λ (l : List ℕ). 0 < times p l) ended (told_only w sound_w s whole_w (omega (arith, h, sum)) p (omega (arith, has, same p))),
      )),
      λ r. let waits = r.0 in let all = r.1 in
          let some_edge : 0 < length (producers s w.edges) = times-head step (producers s w.edges) (omega (arith, waits, across, same step)) in
          let now_told = told_all w settled_w sound_w s some_edge (λ p has. subst (λ (l : List ℕ). 0 < times p l) (sym ended) (all p (omega (arith, has, same p)))) in
          dite (dec_le 1 (times s news)) (λ d. d) (λ d. absurd (omega (arith, fresh, told_only v sound_v s whole_v (omega (arith, d, sum, now_told)) step (omega (arith, waits, across))))),
    )
