-- Elements of lists by their places.
use Rattle.std.proofs.Common.{◌≡◌, ◌⊎◌, inl, inr, ℕ, zero, suc, ◌+◌, ◌<◌, List, [], ◌∷◌, ◌++◌, length, take, Bool, true, false, cond, Some, None, get_or, refl, ap, ◌∙◌, sym, add-one, arith}
use Rattle.std.specs.List.{slice_get, position_from}
use Rattle.std.proofs.lemmas.Option.{slice_get_read}

later : {X : Type 0} (xs : List X) (x y z : X) (i : ℕ) → (slice_get xs i ≡ Some y) ⊎ ((i ≡ length xs) × (x ≡ y)) → (slice_get xs i ≡ Some y) ⊎ ((suc i ≡ length (z ∷ xs)) × (x ≡ y))
later xs x y z i (inl h) = inl h
later xs x y z i (inr p) = inr (omega (arith, p.0), p.1)

-- an element of a list with one more was there, or is the last
pub at_last : {X : Type 0} (xs : List X) (x y : X) (i : ℕ) → slice_get (xs ++ x ∷ []) i ≡ Some y → (slice_get xs i ≡ Some y) ⊎ ((i ≡ length xs) × (x ≡ y))
at_last [] x y zero e = inr (refl, cc)
at_last [] x y (suc i) e = absurd cc
at_last (z ∷ zs) x y zero e = inl e
at_last (z ∷ zs) x y (suc i) e = later zs x y z i (at_last zs x y i e)

take_suc : {X : Type 0} (xs : List X) (x : X) (i : ℕ) → slice_get xs i ≡ Some x → take (suc i) xs ≡ take i xs ++ x ∷ []
take_suc [] x i e = absurd cc
take_suc (y ∷ ys) x zero e = let same : y ≡ x = cc in rw same refl
take_suc {X} (y ∷ ys) x (suc i) e = ap (λ (zs : List X). y ∷ zs) (take_suc ys x i e)

pub take_one : {X : Type 0} (xs : List X) (x : X) (i : ℕ) → slice_get xs i ≡ Some x → take (i + 1) xs ≡ take i xs ++ x ∷ []
take_one xs x i e = rw add-one (take_suc xs x i e)

pub there : {X : Type 0} (xs : List X) (i : ℕ) → i < length xs → (x : X) × (slice_get xs i ≡ Some x)
there [] i h = absurd (omega arith)
there (x ∷ xs) zero h = (x, refl)
there (x ∷ xs) (suc i) h = there xs i (omega arith)

-- lists with equal elements at each place are equal
pub same_lists : {X : Type 0} (xs ys : List X) → length xs ≡ length ys → ((i : ℕ) (x y : X) → slice_get xs i ≡ Some x → slice_get ys i ≡ Some y → x ≡ y) → xs ≡ ys
same_lists [] [] n h = refl
same_lists [] (y ∷ ys) n h = absurd (omega (arith, n))
same_lists (x ∷ xs) [] n h = absurd (omega (arith, n))
same_lists (x ∷ xs) (y ∷ ys) n h =
    let first : x ≡ y = h zero x y refl refl in
    let others : xs ≡ ys = same_lists xs ys (omega (arith, n)) (λ i. h (suc i)) in
    cc

-- what an index gave
pub read_at : {X : Type 0} (xs : List X) (i : ℕ) (x y : X) → i < length xs → x ≡ get_or xs i x → y ≡ x → slice_get xs i ≡ Some y
read_at {X} xs i x y within is same = slice_get_read xs (length xs) i x refl within is ∙ ap (λ (z : X). Some z) (sym same)

none_by : {X : Type 0} (test : X → Bool) (b : Bool) (k : ℕ) (y : X) (ys : List X) (i : ℕ) (x : X) → test y ≡ b → cond b (Some k) (position_from test (k + 1) ys) ≡ None → slice_get (y ∷ ys) i ≡ Some x → (position_from test (k + 1) ys ≡ None → (j : ℕ) → slice_get ys j ≡ Some x → test x ≡ false) → test x ≡ false
none_by test true k y ys i x is e s later = absurd cc
none_by test false k y ys zero x is e s later = let same : y ≡ x = cc in ap test (sym same) ∙ is
none_by test false k y ys (suc i) x is e s later = later e i s

-- where none passes, each element fails
pub none_passes : {X : Type 0} (test : X → Bool) (k : ℕ) (xs : List X) (i : ℕ) (x : X) → position_from test k xs ≡ None → slice_get xs i ≡ Some x → test x ≡ false
none_passes test k [] i x e s = absurd cc
none_passes test k (y ∷ ys) i x e s = none_by test (test y) k y ys i x refl e s (λ f j g. none_passes test (k + 1) ys j x f g)
