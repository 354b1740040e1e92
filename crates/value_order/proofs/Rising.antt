-- Lists that rise by a test, and what a stable sort makes.
use Rattle.std.proofs.Common.{◌≡◌, ℕ, zero, suc, ◌+◌, ◌<◌, Bool, true, false, cond, not, ◌&&◌, List, [], ◌∷◌, ◌++◌, length, get_or, take, drop, refl, sym, ◌∙◌, ap, add-one, arith, append_assoc, length-append}
use Rattle.std.proofs.Math.Seq.{get_or-append_seam}
use Rattle.std.specs.Cmp.{IsStrictWeakOrder}
use Rattle.std.specs.List.{filter, AllByRecursion}
use Rattle.std.specs.List.Sorted.{ties, IsSortedBy}
use Rattle.value_order.specs.Sorted.{insert_lt, sorted_lt}

-- no element is less than y
abbrev pub NotBelow : {X : Type 0} → (X → X → Bool) → X → List X → Type 0
NotBelow lt y xs = AllByRecursion (λ x. lt x y ≡ false) xs

-- no element is less than one before it
abbrev pub Rises : {X : Type 0} → (X → X → Bool) → List X → Type 0
Rises lt [] = Unit {0}
Rises lt (x ∷ xs) = NotBelow lt x xs × Rises lt xs

module _ {X : Type 0} (lt : X → X → Bool) (o : IsStrictWeakOrder lt) where
  irreflexive_at : (x : X) (b : Bool) → lt x x ≡ b → lt x x ≡ false
  irreflexive_at x true e = o.one_way x x e
  irreflexive_at x false e = e

  pub irreflexive : (x : X) → lt x x ≡ false
  irreflexive x = irreflexive_at x (lt x x) refl

  pub NotBelow-weaken : (v y : X) (xs : List X) → lt y v ≡ false → NotBelow lt y xs → NotBelow lt v xs
  NotBelow-weaken v y [] e h = h
  NotBelow-weaken v y (x ∷ xs) e h = (o.chain x y v h.0 e, NotBelow-weaken v y xs e h.1)

  none_below : (v : X) (xs : List X) → NotBelow lt v xs → filter (λ x. lt x v) xs ≡ []
  none_below v [] h = refl
  none_below v (x ∷ xs) h = rw h.0 (none_below v xs h.1)

  no_tie_at : (v y x : X) (b : Bool) → lt v x ≡ b → lt v y ≡ true → lt x y ≡ false → ties lt v x ≡ false
  no_tie_at v y x true e up h = rw e refl
  no_tie_at v y x false e up h = let k : lt v y ≡ false = o.chain v x y e h in cc

  none_tie : (v y : X) (xs : List X) → lt v y ≡ true → NotBelow lt y xs → filter (ties lt v) xs ≡ []
  none_tie v y [] up h = refl
  none_tie v y (x ∷ xs) up h = let k : ties lt v x ≡ false = no_tie_at v y x (lt v x) refl up h.0 in rw k (none_tie v y xs up h.1)

  split_at : (v y : X) (ys : List X) (a b : Bool) → lt y v ≡ a → lt v y ≡ b → NotBelow lt y ys →
      filter (λ x. lt x v) ys ++ (filter (ties lt v) ys ++ filter (λ x. lt v x) ys) ≡ ys →
      filter (λ x. lt x v) (y ∷ ys) ++ (filter (ties lt v) (y ∷ ys) ++ filter (λ x. lt v x) (y ∷ ys)) ≡ y ∷ ys
  split_at v y ys true true e f h i = let k : lt v y ≡ false = o.one_way y v e in cc
  split_at v y ys true false e f h i = rw (e, f) (ap (λ zs. y ∷ zs) i)
  split_at v y ys false false e f h i =
      let n = none_below v ys (NotBelow-weaken v y ys e h) in
      rw (e, f, n) (ap (λ zs. y ∷ zs) (rw n at i))
  split_at v y ys false true e f h i =
      let n = none_below v ys (NotBelow-weaken v y ys e h) in
      let t = none_tie v y ys f h in
      rw (e, f, n, t) (ap (λ zs. y ∷ zs) (rw (n, t) at i))

  -- what is less than v, what ties with it and what is greater stand in this order
  pub split : (v : X) (ys : List X) → Rises lt ys → filter (λ x. lt x v) ys ++ (filter (ties lt v) ys ++ filter (λ x. lt v x) ys) ≡ ys
  split v [] h = refl
  split v (y ∷ ys) h = split_at v y ys (lt y v) (lt v y) refl refl h.0 (split v ys h.1)

  IsSortedBy-tail : (y : X) (ys : List X) → IsSortedBy lt (y ∷ ys) → IsSortedBy lt ys
  IsSortedBy-tail y ys s = λ k d low high. rw add-one (rw add-one at (s (suc k) d (omega arith) (omega arith)))

  -- from what a sort ensures
  pub Rises-from_sorted : (ys : List X) → IsSortedBy lt ys → Rises lt ys
  Rises-from_sorted [] s = tt
  Rises-from_sorted (y ∷ []) s = (tt, tt)
  Rises-from_sorted (y ∷ x ∷ xs) s =
      let r = Rises-from_sorted (x ∷ xs) (IsSortedBy-tail y (x ∷ xs) s) in
      let e : lt x y ≡ false = s 0 y (omega arith) (omega arith) in
      ((e, NotBelow-weaken y x xs e r.0), r)

filter-seam_at : {X : Type 0} (p : X → Bool) (x : X) (xs : List X) (i : ℕ) (d : X) (b : Bool) → p x ≡ b →
    filter p xs ≡ filter p (take i xs) ++ (get_or xs i d ∷ filter p (drop (i + 1) xs)) →
    filter p (x ∷ xs) ≡ filter p (take (suc i) (x ∷ xs)) ++ (get_or xs i d ∷ filter p (drop (suc i + 1) (x ∷ xs)))
filter-seam_at p x xs i d true e h = rw (add-one (suc i), e) (ap (λ zs. x ∷ zs) (rw (add-one i) at h))
filter-seam_at p x xs i d false e h = rw (add-one (suc i), e) (rw (add-one i) at h)

-- the element at i after those of the filter that stand before it
filter-seam : {X : Type 0} (p : X → Bool) (xs : List X) (i : ℕ) (d : X) → i < length xs → p (get_or xs i d) ≡ true → filter p xs ≡ filter p (take i xs) ++ (get_or xs i d ∷ filter p (drop (i + 1) xs))
filter-seam p [] i d h e = absurd (omega arith)
filter-seam p (x ∷ xs) zero d h e = rw e refl
filter-seam p (x ∷ xs) (suc i) d h e = filter-seam_at p x xs i d (p x) refl (filter-seam p xs i d (omega arith) e)

stands_in : {X : Type 0} (below before after above ys : List X) (v d : X) → below ++ ((before ++ (v ∷ after)) ++ above) ≡ ys → get_or ys (length below + length before) d ≡ v
stands_in below before after above ys v d e =
    rw (← e, ← length-append below before, append_assoc before (v ∷ after) above, ← append_assoc below before) (get_or-append_seam (below ++ before) v (after ++ above) d)

module _ {X : Type 0} (lt : X → X → Bool) (o : IsStrictWeakOrder lt) where
  ties_itself : (v : X) → ties lt v v ≡ true
  ties_itself v = rw (irreflexive lt o v) refl

  -- where v, which stands at i of xs, stands in a stable sort of it
  pub stands_at : (xs ys : List X) (i : ℕ) (d : X) → i < length xs → Rises lt ys →
      filter (ties lt (get_or xs i d)) ys ≡ filter (ties lt (get_or xs i d)) xs →
      get_or ys (length (filter (λ x. lt x (get_or xs i d)) ys) + length (filter (ties lt (get_or xs i d)) (take i xs))) d ≡ get_or xs i d
  stands_at xs ys i d h r s =
      let v = get_or xs i d in
      let k = filter-seam (ties lt v) xs i d h (ties_itself v) in
      let w = split lt o v ys r in
      let whole = rw (s, k) at w in
      stands_in (filter (λ x. lt x v) ys) (filter (ties lt v) (take i xs)) (filter (ties lt v) (drop (i + 1) xs)) (filter (λ x. lt v x) ys) ys v d whole

tie_cases : (a b : Bool) → (not a && not b) ≡ true → (a ≡ false) × (b ≡ false)
tie_cases false false e = (refl, refl)
tie_cases true b e = cc
tie_cases false true e = cc

and_not_comm : (a b : Bool) → (not a && not b) ≡ false → (not b && not a) ≡ false
and_not_comm false false e = cc
and_not_comm true false e = refl
and_not_comm false true e = refl
and_not_comm true true e = refl

module _ {X : Type 0} (lt : X → X → Bool) (o : IsStrictWeakOrder lt) where
  NotBelow-insert_at : (y v x : X) (xs : List X) (b : Bool) → lt x v ≡ b → lt v y ≡ false → NotBelow lt y (x ∷ xs) → NotBelow lt y (insert_lt lt v xs) → NotBelow lt y (insert_lt lt v (x ∷ xs))
  NotBelow-insert_at y v x xs true e f h i = rw e (h.0, i)
  NotBelow-insert_at y v x xs false e f h i = rw e (f, h)

  NotBelow-insert : (y v : X) (xs : List X) → lt v y ≡ false → NotBelow lt y xs → NotBelow lt y (insert_lt lt v xs)
  NotBelow-insert y v [] f h = (f, tt)
  NotBelow-insert y v (x ∷ xs) f h = NotBelow-insert_at y v x xs (lt x v) refl f h (NotBelow-insert y v xs f h.1)

  Rises-insert_at : (v x : X) (xs : List X) (b : Bool) → lt x v ≡ b → Rises lt (x ∷ xs) → Rises lt (insert_lt lt v xs) → Rises lt (insert_lt lt v (x ∷ xs))
  Rises-insert_at v x xs true e h i = rw e (NotBelow-insert x v xs (o.one_way x v e) h.0, i)
  Rises-insert_at v x xs false e h i = rw e ((e, NotBelow-weaken lt o v x xs e h.0), h)

  Rises-insert : (v : X) (xs : List X) → Rises lt xs → Rises lt (insert_lt lt v xs)
  Rises-insert v [] h = (tt, tt)
  Rises-insert v (x ∷ xs) h = Rises-insert_at v x xs (lt x v) refl h (Rises-insert v xs h.1)

  pub Rises-sorted : (xs : List X) → Rises lt (sorted_lt lt xs)
  Rises-sorted [] = tt
  Rises-sorted (x ∷ xs) = Rises-insert x (sorted_lt lt xs) (Rises-sorted xs)

  -- two that tie with a third are not one less than the other
  tie_not_less : (w x v : X) → ties lt w x ≡ true → ties lt w v ≡ true → lt x v ≡ false
  tie_not_less w x v a b = o.chain x w v (tie_cases (lt w x) (lt x w) a).1 (tie_cases (lt w v) (lt v w) b).0

  filter-insert_at : (w v x : X) (xs : List X) (b p q : Bool) → lt x v ≡ b → ties lt w x ≡ p → ties lt w v ≡ q →
      filter (ties lt w) (insert_lt lt v xs) ≡ filter (ties lt w) (v ∷ xs) → filter (ties lt w) (insert_lt lt v (x ∷ xs)) ≡ filter (ties lt w) (v ∷ x ∷ xs)
  filter-insert_at w v x xs false p q e f g i = rw e refl
  filter-insert_at w v x xs true true true e f g i = let k = tie_not_less w x v f g in cc
  filter-insert_at w v x xs true true false e f g i = rw (e, f, g) (ap (λ zs. x ∷ zs) (rw g at i))
  filter-insert_at w v x xs true false true e f g i = rw (e, f, g) (rw g at i)
  filter-insert_at w v x xs true false false e f g i = rw (e, f, g) (rw g at i)

  filter-insert : (w v : X) (xs : List X) → filter (ties lt w) (insert_lt lt v xs) ≡ filter (ties lt w) (v ∷ xs)
  filter-insert w v [] = refl
  filter-insert w v (x ∷ xs) = filter-insert_at w v x xs (lt x v) (ties lt w x) (ties lt w v) refl refl refl (filter-insert w v xs)

  -- those that tie stay in their order
  pub filter-sorted : (w : X) (xs : List X) → filter (ties lt w) (sorted_lt lt xs) ≡ filter (ties lt w) xs
  filter-sorted w [] = refl
  filter-sorted w (x ∷ xs) = filter-insert w x (sorted_lt lt xs) ∙ ap (λ zs. cond (ties lt w x) (x ∷ zs) zs) (filter-sorted w xs)

  met_at : (y z x rest_head : X) (xs rest : List X) (b : Bool) → ties lt y x ≡ b → filter (ties lt y) (x ∷ xs) ≡ rest_head ∷ rest → NotBelow lt z (x ∷ xs) →
      (filter (ties lt y) xs ≡ rest_head ∷ rest → lt y z ≡ false) → lt y z ≡ false
  met_at y z x u xs rest true e f h i = o.chain y x z (tie_cases (lt y x) (lt x y) e).0 h.0
  met_at y z x u xs rest false e f h i = i (rw e at f)

  -- some element ties with y, so y is not less than z either
  met : (y z u : X) (zs rest : List X) → filter (ties lt y) zs ≡ u ∷ rest → NotBelow lt z zs → lt y z ≡ false
  met y z u [] rest e h = cc
  met y z u (x ∷ zs) rest e h = met_at y z x u zs rest (ties lt y x) refl e h (λ f. met y z u zs rest f h.1)

  ties_sym : (y z : X) → ties lt y z ≡ false → ties lt z y ≡ false
  ties_sym y z e = and_not_comm (lt y z) (lt z y) e

  head_tie_at : (y z : X) (ys zs : List X) (b : Bool) → ties lt y z ≡ b → NotBelow lt y ys → NotBelow lt z zs → filter (ties lt y) (y ∷ ys) ≡ filter (ties lt y) (z ∷ zs) → filter (ties lt z) (y ∷ ys) ≡ filter (ties lt z) (z ∷ zs) → ties lt y z ≡ true
  head_tie_at y z ys zs true e h k a b = e
  head_tie_at y z ys zs false e h k a b =
      let yy = ties_itself lt o y in
      let zz = ties_itself lt o z in
      let m : lt y z ≡ false = met y z y zs _ (sym (rw (yy, e) at a)) k in
      let f : ties lt z y ≡ false = ties_sym y z e in
      let n : lt z y ≡ false = met z y z ys _ (rw (zz, f) at b) h in
      rw (m, n) refl

  cancel : (b : Bool) (y : X) (xs ys : List X) → cond b (y ∷ xs) xs ≡ cond b (y ∷ ys) ys → xs ≡ ys
  cancel true y xs ys e = cc
  cancel false y xs ys e = e

  head_same : (y z : X) (ys zs : List X) → ties lt y z ≡ true → filter (ties lt y) (y ∷ ys) ≡ filter (ties lt y) (z ∷ zs) → y ≡ z
  head_same y z ys zs e a = let yy = ties_itself lt o y in let k = rw (yy, e) at a in cc

  -- lists that rise and have the same elements of each tie are equal
  pub same_rising : (ys zs : List X) → Rises lt ys → Rises lt zs → ((w : X) → filter (ties lt w) ys ≡ filter (ties lt w) zs) → ys ≡ zs
  same_rising [] [] r s h = refl
  same_rising [] (z ∷ zs) r s h = let k = rw (ties_itself lt o z) at (h z) in cc
  same_rising (y ∷ ys) [] r s h = let k = rw (ties_itself lt o y) at (h y) in cc
  same_rising (y ∷ ys) (z ∷ zs) r s h =
      let e = head_same y z ys zs (head_tie_at y z ys zs (ties lt y z) refl r.0 s.0 (h y) (h z)) (h y) in
      let i = same_rising ys zs r.1 s.1 (λ w. cancel (ties lt w z) z (filter (ties lt w) ys) (filter (ties lt w) zs) (rw e at (h w))) in
      rw (e, i) refl
