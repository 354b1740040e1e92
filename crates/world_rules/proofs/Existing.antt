-- Each world has a graph: each visit of a new object leaves fewer that weren't seen.
use Rattle.std.proofs.Common.{◌≡◌, ◌≢◌, ℕ, zero, suc, ◌+◌, ◌<◌, ◌≤◌, Bool, true, false, nat_lt, if◌then◌else◌, List, [], ◌∷◌, ◌++◌, length, map, sym, refl, ap, subst, ◌∙◌, arith, ltb-true}
use Rattle.std.specs.Prelude.{slice_index_or}
use mathlib.Core.Logic.{dite}
use native.Mathlib.Decide.{ℕ_discrete, dec_le}
use Rattle.startup_rules.specs.Worlds.{World, parts}
use Rattle.startup_rules.specs.declared.slot.Object.{Object}
use Rattle.startup_rules.specs.declared.slot.Slot.{Slot}
use Rattle.startup_rules.specs.declared.slot.Slot.TheVariants.{Null, Bool as Truth, Long, Str, Obj}
use Rattle.startup_rules.specs.Visits.{one_at, times, refs_of, refs, Visits, done, old, new}
use Rattle.startup_rules.specs.Views.{rows_of, static_refs, context_slots, roots, IsGraph}
use Rattle.startup_rules.proofs.CallerLemmas.{times-append, one-same, one-other}

-- 1 for an object that wasn't seen
abbrev fresh : ℕ → ℕ
fresh zero = 1
fresh (suc n) = 0

fresh_le : (a b : ℕ) → a ≤ b → fresh b ≤ fresh a
fresh_le zero zero h = omega arith
fresh_le zero (suc b) h = omega arith
fresh_le (suc a) zero h = absurd (omega arith)
fresh_le (suc a) (suc b) h = omega arith

fresh_one : (a : ℕ) → a ≡ 0 → fresh a ≡ 1
fresh_one zero h = refl
fresh_one (suc a) h = absurd (omega arith)

fresh_none : (a : ℕ) → 0 < a → fresh a ≡ 0
fresh_none zero h = absurd (omega arith)
fresh_none (suc a) h = refl

-- how many objects below n weren't seen
abbrev left : ℕ → List ℕ → ℕ
left zero seen = 0
left (suc m) seen = fresh (times m seen) + left m seen

fewer : (n : ℕ) (a b : List ℕ) → ((x : ℕ) → times x a ≤ times x b) → left n b ≤ left n a
fewer zero a b h = omega arith
fewer (suc m) a b h = omega (arith, fresh_le (times m a) (times m b) (h m), fewer m a b h)

one_fewer : (n : ℕ) (a b : List ℕ) → ((x : ℕ) → times x a ≤ times x b) → (x : ℕ) → x < n → times x a ≡ 0 → 0 < times x b → left n b + 1 ≤ left n a
one_fewer zero a b h x lt out within = absurd (omega arith)
one_fewer (suc m) a b h x lt out within = dite (ℕ_discrete x m)
    (λ e. omega (arith, fewer m a b h, fresh_one (times m a) (subst (λ (z : ℕ). times z a ≡ 0) e out), fresh_none (times m b) (subst (λ (z : ℕ). 0 < times z b) e within)))
    (λ n. omega (arith, one_fewer m a b h x (below n) out within, fresh_le (times m a) (times m b) (h m)))
  where
    below : x ≢ m → x < m
    below n = dite (dec_le m x) (λ le. absurd (n (omega arith))) (λ not_le. omega arith)

some_left : (n : ℕ) (a : List ℕ) (x : ℕ) → x < n → times x a ≡ 0 → 1 ≤ left n a
some_left n a x lt out = let h = one_fewer n a (a ++ x ∷ []) (λ y. omega (arith, times-append y a (x ∷ []))) x lt out (omega (arith, times-append x a (x ∷ []), one-same x)) in omega arith

abbrev pub Below : ℕ → List ℕ → Type 0
Below n l = (x : ℕ) → 0 < times x l → x < n

pub refs_below : (n : ℕ) (ss : List Slot) → Below n (refs_of n ss)
refs_below n [] x h = absurd (omega arith)
refs_below n (Null ∷ ss) x h = refs_below n ss x h
refs_below n (Truth b ∷ ss) x h = refs_below n ss x h
refs_below n (Long k ∷ ss) x h = refs_below n ss x h
refs_below n (Str t ∷ ss) x h = refs_below n ss x h
refs_below n (Obj y ∷ ss) x h = by (nat_lt y n) (λ e. ltb-true y n e) (refs_below n ss x) h
  where
    by : (b : Bool) → (b ≡ true → y < n) → (0 < times x (refs_of n ss) → x < n) → 0 < times x (if b then y ∷ refs_of n ss else refs_of n ss) → x < n
    by false lt rest k = rest k
    by true lt rest k = dite (ℕ_discrete y x) (λ e. subst (λ (z : ℕ). z < n) e (lt refl)) (λ m. rest (omega (arith, k, one-other x y m)))

statics_below : (n : ℕ) (rows : List (List Slot)) → Below n (static_refs n rows)
statics_below n [] x h = absurd (omega arith)
statics_below n (row ∷ rows) x h = dite (dec_le 1 (times x (refs_of n row))) (λ k. refs_below n row x k) (λ k. statics_below n rows x (omega (arith, times-append x (refs_of n row) (static_refs n rows), h)))

roots_below : (w : World) → Below (length w.objects) (roots w)
roots_below w x h = dite (dec_le 1 (times x (static_refs (length w.objects) w.statics))) (λ k. statics_below (length w.objects) w.statics x k)
    (λ k. refs_below (length w.objects) (context_slots w) x (omega (arith, times-append x (static_refs (length w.objects) w.statics) (refs_of (length w.objects) (context_slots w)), h)))

module _ (objects : List (List Slot)) where
  record Visited (seen todo : List ℕ) : Type 0 where
    after : List ℕ
    visits : Visits objects seen todo after
    grows : (x : ℕ) → times x seen ≤ times x after

  abbrev Step : ℕ → Type 0
  Step k = (seen todo : List ℕ) → left (length objects) seen ≤ k → Below (length objects) todo → Visited seen todo

  tail_below : (x : ℕ) (xs : List ℕ) → Below (length objects) (x ∷ xs) → Below (length objects) xs
  tail_below x xs h y k = h y (omega arith)

  first_below : (x : ℕ) (xs : List ℕ) → Below (length objects) (x ∷ xs) → x < length objects
  first_below x xs h = h x (omega (arith, one-same x))

  nothing : (seen : List ℕ) → Visited seen []
  nothing seen = record { after = seen; visits = done seen [] seen refl refl; grows = λ x. omega arith }

  again : (seen : List ℕ) (x : ℕ) (xs : List ℕ) → 0 < times x seen → Visited seen xs → Visited seen (x ∷ xs)
  again seen x xs h r = record { after = r.after; visits = old seen (x ∷ xs) r.after x xs refl h r.visits; grows = r.grows }

  base : Step 0
  base seen [] few below = nothing seen
  base seen (x ∷ xs) few below = dite (dec_le 1 (times x seen))
      (λ h. again seen x xs h (base seen xs few (tail_below x xs below)))
      (λ h. absurd (omega (arith, some_left (length objects) seen x (first_below x xs below) (omega arith))))

  further : (k : ℕ) → Step k → Step (suc k)
  further k prev seen [] few below = nothing seen
  further k prev seen (x ∷ xs) few below = dite (dec_le 1 (times x seen))
      (λ h. again seen x xs h (further k prev seen xs few (tail_below x xs below)))
      (λ h. fresh_one_first (omega arith))
    where
      fresh_one_first : times x seen ≡ 0 → Visited seen (x ∷ xs)
      fresh_one_first out =
          let less = one_fewer (length objects) seen (seen ++ x ∷ []) (λ y. omega (arith, times-append y seen (x ∷ []))) x (first_below x xs below) out (omega (arith, times-append x seen (x ∷ []), one-same x)) in
          let inner = prev (seen ++ x ∷ []) (refs objects x) (omega arith) (refs_below (length objects) (slice_index_or objects x [])) in
          let rest = prev inner.after xs (omega (arith, fewer (length objects) (seen ++ x ∷ []) inner.after inner.grows)) (tail_below x xs below) in
          record {
            after = rest.after;
            visits = new seen (x ∷ xs) rest.after x xs inner.after refl out inner.visits rest.visits;
            grows = λ y. omega (arith, times-append y seen (x ∷ []), inner.grows y, rest.grows y);
          }

  all_steps : (k : ℕ) → Step k
  all_steps zero = base
  all_steps (suc k) = further k (all_steps k)

length_rows : (w : World) → length (rows_of w) ≡ length w.objects
length_rows w = length_map w.objects
  where
    length_map : (l : List Object) → length (map parts l) ≡ length l
    length_map [] = refl
    length_map (x ∷ l) = ap suc (length_map l)

pub graph_there : (w : World) → (order : List ℕ) × IsGraph w order
graph_there w =
    let r = all_steps (rows_of w) (left (length (rows_of w)) []) [] (roots w) (omega arith) (subst (λ (n : ℕ). Below n (roots w)) (sym (length_rows w)) (roots_below w)) in
    (r.after, r.visits)
