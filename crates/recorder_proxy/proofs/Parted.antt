-- Lists in which those that fail a test stand first.
use Rattle.std.proofs.Common.{◌≡◌, ℕ, zero, suc, Bool, true, false, not, List, [], ◌∷◌, ◌++◌, take, refl, ap, subst}
use Rattle.std.specs.List.{All, filter}
use Rattle.std.proofs.lemmas.List.Elements.{filter_passes, All-head}

module _ {X : Type 0} (q : X → Bool) where
  abbrev pub IsParted : List X → Type 0
  IsParted xs = xs ≡ filter (λ x. not (q x)) xs ++ filter q xs

  passed_head : (x : X) (xs ys : List X) → filter (λ y. not (q y)) xs ≡ x ∷ ys → not (q x) ≡ true
  passed_head x xs ys e =
      All-head (λ y. not (q y) ≡ true) x ys (subst (λ zs. All (λ y. not (q y) ≡ true) zs) e (filter_passes (λ y. not (q y)) xs))

  none_first_at : (x : X) (xs fs : List X) → filter (λ y. not (q y)) xs ≡ fs → q x ≡ true → x ∷ xs ≡ fs ++ x ∷ filter q xs → fs ≡ []
  none_first_at x xs [] e t h = refl
  none_first_at x xs (y ∷ fs) e t h =
      let same : y ≡ x = cc in
      let pass : not (q x) ≡ true = subst (λ v. not (q v) ≡ true) same (passed_head y xs fs e) in
      let clash = rw t at pass in
      cc

  none_take_at : (n : ℕ) (x : X) (xs : List X) (b : Bool) → q x ≡ b → filter (λ y. not (q y)) (x ∷ xs) ≡ [] → (filter (λ y. not (q y)) xs ≡ [] → filter (λ y. not (q y)) (take n xs) ≡ []) → filter (λ y. not (q y)) (x ∷ take n xs) ≡ []
  none_take_at n x xs true e h i = rw e (i (rw e at h))
  none_take_at n x xs false e h i = let k = rw e at h in cc

  none_take : (n : ℕ) (xs : List X) → filter (λ y. not (q y)) xs ≡ [] → filter (λ y. not (q y)) (take n xs) ≡ []
  none_take zero xs h = refl
  none_take (suc n) [] h = refl
  none_take (suc n) (x ∷ xs) h = none_take_at n x xs (q x) refl h (none_take n xs)

  all_pass_at : (x : X) (xs : List X) (b : Bool) → q x ≡ b → filter (λ y. not (q y)) (x ∷ xs) ≡ [] → (filter (λ y. not (q y)) xs ≡ [] → filter q xs ≡ xs) → filter q (x ∷ xs) ≡ x ∷ xs
  all_pass_at x xs true e h i = rw e (ap (λ ys. x ∷ ys) (i (rw e at h)))
  all_pass_at x xs false e h i = let k = rw e at h in cc

  all_pass : (xs : List X) → filter (λ y. not (q y)) xs ≡ [] → filter q xs ≡ xs
  all_pass [] h = refl
  all_pass (x ∷ xs) h = all_pass_at x xs (q x) refl h (all_pass xs)

  take_at : (n : ℕ) (x : X) (xs : List X) (b : Bool) → q x ≡ b → IsParted (x ∷ xs) → (IsParted xs → IsParted (take n xs)) → IsParted (x ∷ take n xs)
  take_at n x xs false e h i =
      let k = rw e at h in
      let tail : xs ≡ filter (λ y. not (q y)) xs ++ filter q xs = cc in
      rw e (ap (λ ys. x ∷ ys) (i tail))
  take_at n x xs true e h i =
      let k = rw e at h in
      let none : filter (λ y. not (q y)) xs ≡ [] = none_first_at x xs (filter (λ y. not (q y)) xs) refl e k in
      let fewer = none_take n xs none in
      rw (e, fewer, all_pass (take n xs) fewer) refl

  pub IsParted-take : (n : ℕ) (xs : List X) → IsParted xs → IsParted (take n xs)
  IsParted-take zero xs h = refl
  IsParted-take (suc n) [] h = refl
  IsParted-take (suc n) (x ∷ xs) h = take_at n x xs (q x) refl h (IsParted-take n xs)
