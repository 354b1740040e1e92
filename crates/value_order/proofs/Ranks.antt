-- What a stable sort by a number makes, and where each element stands in it.
use Rattle.std.proofs.Common.{◌≡◌, ℕ, suc, ◌+◌, ◌<◌, Bool, true, false, cond, not, ◌&&◌, List, [], ◌∷◌, length, get_or, take, refl, sym, ◌∙◌, ap, arith, count_by}
use Rattle.std.specs.Prelude.{ℤ, int_lt}
use Rattle.std.proofs.Common.{Less, Equal, Greater}
use Rattle.std.specs.Ordering.{int_cmp, int_eq, is_lt, is_eq}
use Rattle.std.specs.Cmp.{IsStrictWeakOrder}
use Rattle.std.specs.Fn.{Called}
use Rattle.std.specs.List.{filter}
use Rattle.std.specs.List.Sorted.{ties, IsSortedByKeyClosure, IsStableByKeyClosure}
use Rattle.std.proofs.lemmas.Cmp.{int_cmp_total}
use Rattle.std.proofs.lemmas.Fn.{always_returns_same}
use Rattle.std.proofs.lemmas.List.Sorted.{ranks_by}
use Rattle.std.proofs.lemmas.List.Sums.{length-filter, sum_by-cons}
use denote.Param.Members.{Mut}
use denote.Ref.{Bor}
use Rattle.value_order.specs.Sorted.{insert_lt, sorted_lt, sorted_by, rank, StandsByRank}
use Rattle.value_order.proofs.Rising.{Rises-from_sorted, Rises-sorted, filter-sorted, same_rising, stands_at}

is_lt_at : (a b : ℤ) (p q : Bool) → int_lt a b ≡ p → int_lt b a ≡ q → is_lt (int_cmp a b) ≡ int_lt a b
is_lt_at a b true q e f = rw e refl
is_lt_at a b false true e f = rw (e, f) refl
is_lt_at a b false false e f = rw (e, f) refl

is_lt_int_cmp : (a b : ℤ) → is_lt (int_cmp a b) ≡ int_lt a b
is_lt_int_cmp a b = is_lt_at a b (int_lt a b) (int_lt b a) refl refl

ties_at : (a b : Bool) → (not a && not b) ≡ is_eq (cond b Less (cond a Greater Equal))
ties_at true true = refl
ties_at true false = refl
ties_at false true = refl
ties_at false false = refl

count_insert_at : {X : Type 0} (lt : X → X → Bool) (p : X → Bool) (v x : X) (xs : List X) (b : Bool) → lt x v ≡ b → count_by p (insert_lt lt v xs) ≡ count_by p (v ∷ xs) → count_by p (insert_lt lt v (x ∷ xs)) ≡ count_by p (v ∷ x ∷ xs)
count_insert_at lt p v x xs true e i =
    rw e (omega (arith, sum_by-cons (λ y. cond (p y) 1 0) x (insert_lt lt v xs), sum_by-cons (λ y. cond (p y) 1 0) v (x ∷ xs), sum_by-cons (λ y. cond (p y) 1 0) x xs, sum_by-cons (λ y. cond (p y) 1 0) v xs))
count_insert_at lt p v x xs false e i = rw e refl

count_insert : {X : Type 0} (lt : X → X → Bool) (p : X → Bool) (v : X) (xs : List X) → count_by p (insert_lt lt v xs) ≡ count_by p (v ∷ xs)
count_insert lt p v [] = refl
count_insert lt p v (x ∷ xs) = count_insert_at lt p v x xs (lt x v) refl (count_insert lt p v xs)

count_sorted : {X : Type 0} (lt : X → X → Bool) (p : X → Bool) (xs : List X) → count_by p (sorted_lt lt xs) ≡ count_by p xs
count_sorted lt p [] = refl
count_sorted lt p (x ∷ xs) =
    count_insert lt p x (sorted_lt lt xs) ∙ (sum_by-cons (λ y. cond (p y) 1 0) x (sorted_lt lt xs) ∙ (ap (λ n. cond (p x) 1 0 + n) (count_sorted lt p xs) ∙ sym (sum_by-cons (λ y. cond (p y) 1 0) x xs)))

length_insert_at : {X : Type 0} (lt : X → X → Bool) (v x : X) (xs : List X) (b : Bool) → lt x v ≡ b → length (insert_lt lt v xs) ≡ suc (length xs) → length (insert_lt lt v (x ∷ xs)) ≡ suc (suc (length xs))
length_insert_at lt v x xs true e i = rw e (ap suc i)
length_insert_at lt v x xs false e i = rw e refl

length_insert : {X : Type 0} (lt : X → X → Bool) (v : X) (xs : List X) → length (insert_lt lt v xs) ≡ suc (length xs)
length_insert lt v [] = refl
length_insert lt v (x ∷ xs) = length_insert_at lt v x xs (lt x v) refl (length_insert lt v xs)

length_sorted : {X : Type 0} (lt : X → X → Bool) (xs : List X) → length (sorted_lt lt xs) ≡ length xs
length_sorted lt [] = refl
length_sorted lt (x ∷ xs) = length_insert lt x (sorted_lt lt xs) ∙ ap suc (length_sorted lt xs)

module _ {X : Type 0} (key : X → ℤ) where
  abbrev less : X → X → Bool
  less x y = is_lt (int_cmp (key x) (key y))

  order : IsStrictWeakOrder less
  order = ranks_by int_cmp_total key

  less_is : less ≡ (λ x y. int_lt (key x) (key y))
  less_is = λ i x y. is_lt_int_cmp (key x) (key y) i

  -- what `sort_by_key` makes, from its clauses, where each call of its closure gives the key
  pub sorted_from_sort : {F : Type 0} {g : Mut F (Bor X × Unit {0}) ℤ} {f : F} (xs ys : List X) →
      IsSortedByKeyClosure g int_cmp f ys → IsStableByKeyClosure g int_cmp f xs ys →
      ((a : Bor X × Unit {0}) (r : ℤ) (f' : F) → Called g f a r f' → (r ≡ key a.0.now) × (f' ≡ f)) → ys ≡ sorted_by key xs
  sorted_from_sort {g = g} {f = f} xs ys up same h =
      let k = always_returns_same g (λ a r. r ≡ key a.0.now) f h in
      let e = same_rising less order ys (sorted_lt less xs) (Rises-from_sorted less order ys (up key k)) (Rises-sorted less order xs) (λ w. same key k w ∙ sym (filter-sorted less order w xs)) in
      e ∙ ap (λ lt. sorted_lt lt xs) less_is

  ties_is : (v : X) → ties less v ≡ (λ x. int_eq (key x) (key v))
  ties_is v = λ i x. (ap (λ lt. not (lt v x) && not (lt x v)) less_is ∙ ties_at (int_lt (key v) (key x)) (int_lt (key x) (key v))) i

  ranks_at : (xs : List X) (i : ℕ) (d : X) → i < length xs → get_or (sorted_by key xs) (rank key xs i (get_or xs i d)) d ≡ get_or xs i d
  ranks_at xs i d h =
      let v = get_or xs i d in
      let s = stands_at less order xs (sorted_lt less xs) i d h (Rises-sorted less order xs) (filter-sorted less order v xs) in
      let below : length (filter (λ x. less x v) (sorted_lt less xs)) ≡ count_by (λ x. int_lt (key x) (key v)) xs =
      length-filter (λ x. less x v) (sorted_lt less xs) ∙ (count_sorted less (λ x. less x v) xs ∙ ap (λ lt. count_by (λ x. lt x v) xs) less_is) in
      let equal : length (filter (ties less v) (take i xs)) ≡ count_by (λ x. int_eq (key x) (key v)) (take i xs) =
      length-filter (ties less v) (take i xs) ∙ ap (λ p. count_by p (take i xs)) (ties_is v) in
      let all : sorted_lt less xs ≡ sorted_by key xs = ap (λ lt. sorted_lt lt xs) less_is in
      rw (← below, ← equal, ← all) s

  pub ranks : (xs : List X) → StandsByRank key xs (sorted_by key xs)
  ranks xs = (length_sorted _ xs, λ i d h. ranks_at xs i d h)
