-- The objects of a graph are objects.
use Rattle.std.proofs.Common.{◌≡◌, ℕ, zero, suc, ◌+◌, ◌<◌, ◌≤◌, Bool, true, false, nat_lt, if◌then◌else◌, List, [], ◌∷◌, ◌++◌, length, map, get_or, sym, refl, ap, subst, ◌∙◌, arith, ltb-true}
use Rattle.std.specs.Prelude.{slice_index_or}
use mathlib.Core.Logic.{dite}
use native.Mathlib.Decide.{ℕ_discrete, dec_le}
use Rattle.startup_rules.specs.Worlds.{World, parts}
use Rattle.startup_rules.specs.declared.slot.Object.{Object}
use Rattle.startup_rules.specs.declared.slot.Slot.{Slot}
use Rattle.startup_rules.specs.declared.slot.Slot.TheVariants.{Null, Bool as Truth, Long, Str, Obj}
use Rattle.startup_rules.specs.Visits.{one_at, times, refs_of, refs, Visits, done, old, new}
use Rattle.startup_rules.specs.Views.{rows_of, static_refs, context_slots, roots, IsGraph}
use Rattle.startup_rules.proofs.CallerLemmas.{times-append, one-same, one-other}

abbrev Below : ℕ → List ℕ → Type 0
Below n l = (x : ℕ) → 0 < times x l → x < n

refs_below : (n : ℕ) (ss : List Slot) → Below n (refs_of n ss)
refs_below n [] x h = absurd (omega arith)
refs_below n (Null ∷ ss) x h = refs_below n ss x h
refs_below n (Truth b ∷ ss) x h = refs_below n ss x h
refs_below n (Long k ∷ ss) x h = refs_below n ss x h
refs_below n (Str t ∷ ss) x h = refs_below n ss x h
refs_below n (Obj y ∷ ss) x h = by (nat_lt y n) (λ e. ltb-true y n e) (refs_below n ss x) h
  where
    by : (b : Bool) → (b ≡ true → y < n) → (0 < times x (refs_of n ss) → x < n) → 0 < times x (if b then y ∷ refs_of n ss else refs_of n ss) → x < n
    by false lt rest k = rest k
    by true lt rest k = dite (ℕ_discrete y x) (λ e. subst (λ (z : ℕ). z < n) e (lt refl)) (λ m. rest (omega (arith, k, one-other x y m)))

both_below : (n : ℕ) (l m : List ℕ) → Below n l → Below n m → Below n (l ++ m)
both_below n l m h k x at = dite (dec_le 1 (times x l)) (λ d. h x d) (λ d. k x (omega (arith, times-append x l m, at)))

statics_below : (n : ℕ) (rows : List (List Slot)) → Below n (static_refs n rows)
statics_below n [] x h = absurd (omega arith)
statics_below n (row ∷ rows) x h = both_below n (refs_of n row) (static_refs n rows) (refs_below n row) (statics_below n rows) x h

one_below : (n x : ℕ) → x < n → Below n (x ∷ [])
one_below n x h y k = dite (ℕ_discrete x y) (λ e. subst (λ (z : ℕ). z < n) e h) (λ m. absurd (omega (arith, k, one-other y x m)))

module _ (objects : List (List Slot)) where
  visits_below : (seen todo after : List ℕ) → Visits objects seen todo after → Below (length objects) seen → Below (length objects) todo → Below (length objects) after
  visits_below seen todo after (done _ _ _ none_left same) s t = subst (λ (l : List ℕ). Below (length objects) l) (sym same) s
  visits_below seen todo after (old _ _ _ x xs is has rest) s t = visits_below seen xs after rest s (λ y k. t y (omega (arith, k, ap (times y) is)))
  visits_below seen todo after (new _ _ _ x xs mid is out inner rest) s t =
      let here = t x (omega (arith, ap (times x) is, one-same x)) in
      visits_below mid xs after rest (visits_below (seen ++ x ∷ []) (refs objects x) mid inner (both_below (length objects) seen (x ∷ []) s (one_below (length objects) x here)) (refs_below (length objects) (slice_index_or objects x []))) (λ y k. t y (omega (arith, k, ap (times y) is)))

stands : (l : List ℕ) (k d : ℕ) → k < length l → 0 < times (get_or l k d) l
stands [] k d h = absurd (omega arith)
stands (x ∷ l) zero d h = omega (arith, one-same x)
stands (x ∷ l) (suc k) d h = omega (arith, stands l k d (omega arith))

length_rows : (l : List Object) → length (map parts l) ≡ length l
length_rows [] = refl
length_rows (x ∷ l) = ap suc (length_rows l)

pub graph_within : (w : World) (order : List ℕ) → IsGraph w order → (k d : ℕ) → k < length order → get_or order k d < length w.objects
graph_within w order g k d h =
    let n = length_rows w.objects in
    let roots_below = subst (λ (m : ℕ). Below m (roots w)) (sym n) (both_below (length w.objects) (static_refs (length w.objects) w.statics) (refs_of (length w.objects) (context_slots w)) (statics_below (length w.objects) w.statics) (refs_below (length w.objects) (context_slots w))) in
    let near = visits_below (rows_of w) [] (roots w) order g (λ x k. absurd (omega arith)) roots_below (get_or order k d) (stands order k d h) in
    omega (arith, near, n)
