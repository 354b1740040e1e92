use Rattle.std.proofs.Common.{◌≡◌, ℕ, zero, suc, ◌+◌, ◌<◌, ◌≤◌, List, [], ◌∷◌, ◌++◌, length, refl, Contains, get_or, take, arith, sym, ◌∙◌, ap, subst, ◌⊎◌, inl, inr}
use Rattle.std.proofs.lemmas.List.{take_more, take_all}
use Rattle.std.proofs.lemmas.List.Elements.{Contains-push, Contains-append_left, Contains-push_cases}
use Rattle.chain_builder.specs.Lists.{list_at}

-- one more element of a front
pub in_front_cases : {X : Type 0} (xs : List X) (i : ℕ) (x y : X) → i < length xs → x ≡ get_or xs i x → Contains (take (i + 1) xs) y → Contains (take i xs) y ⊎ (y ≡ x)
in_front_cases {X} xs i x y h e c = elim (Contains-push_cases (take i xs) x y (subst (λ (t : List X). Contains t y) (take_more xs i x h ∙ ap (λ z. take i xs ++ z ∷ []) (sym e)) c)) [ inl old ↦ inl old | inr q ↦ inr (sym q) ]

pub in_front_old : {X : Type 0} (xs : List X) (i : ℕ) (y : X) → i < length xs → Contains (take i xs) y → Contains (take (i + 1) xs) y
in_front_old {X} xs i y h c = subst (λ (t : List X). Contains t y) (sym (take_more xs i y h)) (Contains-append_left (take i xs) (get_or xs i y ∷ []) y c)

pub in_front_new : {X : Type 0} (xs : List X) (i : ℕ) (x : X) → i < length xs → x ≡ get_or xs i x → Contains (take (i + 1) xs) x
in_front_new {X} xs i x h e = subst (λ (t : List X). Contains t x) (sym (take_more xs i x h ∙ ap (λ z. take i xs ++ z ∷ []) (sym e))) (Contains-push (take i xs) x)

pub none_in_nil : {X P : Type 0} (y : X) → Contains [] y → P
none_in_nil y h = absurd (omega (arith, h.1))

pub in_at : {X : Type 0} (xs : List X) (i : ℕ) (x : X) → i < length xs → x ≡ get_or xs i x → Contains xs x
in_at xs i x h e = (i, h, sym e)

pub list_at_read : {X Y : Type 0} (f : X → List Y) (xs : List X) (i : ℕ) (x : X) → i < length xs → x ≡ get_or xs i x → list_at f xs i ≡ f x
list_at_read f [] i x h e = absurd (omega arith)
list_at_read f (y ∷ xs) zero x h e = ap f (sym e)
list_at_read f (y ∷ xs) (suc i) x h e = list_at_read f xs i x (omega arith) e

pub list_at_past : {X Y : Type 0} (f : X → List Y) (xs : List X) (i : ℕ) → length xs ≤ i → list_at f xs i ≡ []
list_at_past f [] i h = refl
list_at_past f (y ∷ xs) zero h = absurd (omega arith)
list_at_past f (y ∷ xs) (suc i) h = list_at_past f xs i (omega arith)

pub list_at_within : {X Y : Type 0} (f : X → List Y) (xs : List X) (i : ℕ) (y : Y) → Contains (list_at f xs i) y → i < length xs
list_at_within f [] i y h = none_in_nil y h
list_at_within f (x ∷ xs) zero y h = omega arith
list_at_within f (x ∷ xs) (suc i) y h = let r : i < length xs = list_at_within f xs i y h in omega arith

pub list_at_push : {X Y : Type 0} (f : X → List Y) (xs : List X) (x : X) (i : ℕ) → i < length xs → list_at f (xs ++ x ∷ []) i ≡ list_at f xs i
list_at_push f [] x i h = absurd (omega arith)
list_at_push f (y ∷ xs) x zero h = refl
list_at_push f (y ∷ xs) x (suc i) h = list_at_push f xs x i (omega arith)

pub list_at_pushed : {X Y : Type 0} (f : X → List Y) (xs : List X) (x : X) (i : ℕ) → i ≡ length xs → list_at f (xs ++ x ∷ []) i ≡ f x
list_at_pushed f [] x zero h = refl
list_at_pushed f [] x (suc i) h = absurd (omega arith)
list_at_pushed f (y ∷ xs) x zero h = absurd (omega arith)
list_at_pushed f (y ∷ xs) x (suc i) h = list_at_pushed f xs x i (omega arith)

-- what is read at a place is read of an element
pub list_at_from : {X Y : Type 0} (f : X → List Y) (xs : List X) (i : ℕ) (y : Y) → Contains (list_at f xs i) y → (x : X) × Contains xs x × Contains (f x) y
list_at_from f [] i y h = none_in_nil y h
list_at_from f (x ∷ xs) zero y h = (x, (0, omega arith, refl), h)
list_at_from f (x ∷ xs) (suc i) y h =
    let r = list_at_from f xs i y h in
    let inside : r.1.0 < length xs = r.1.1 in
    (r.0, (suc r.1.0, omega arith, r.1.2), r.2)

pub list_at_lent : {X Y : Type 0} (f : X → List Y) (xs lent : List X) (i : ℕ) (x : X) → lent ≡ xs → i < length xs → x ≡ get_or lent i x → list_at f xs i ≡ f x
list_at_lent {X} f xs lent i x e h read = list_at_read f xs i x h (read ∙ ap (λ (ys : List X). get_or ys i x) e)

-- what holds of a front holds with one more
pub all_more : {X : Type 0} (P : X → Type 0) (xs : List X) (i : ℕ) (x : X) → i < length xs → x ≡ get_or xs i x → P x → ((y : X) → Contains (take i xs) y → P y) → (y : X) → Contains (take (i + 1) xs) y → P y
all_more P xs i x h e p all y c = elim (in_front_cases xs i x y h e c) [ inl old ↦ all y old | inr q ↦ subst P (sym q) p ]

pub all_all : {X : Type 0} (P : X → Type 0) (xs : List X) (i : ℕ) → length xs ≤ i → ((y : X) → Contains (take i xs) y → P y) → (y : X) → Contains xs y → P y
all_all {X} P xs i h all y c = all y (subst (λ (t : List X). Contains t y) (sym (take_all i xs h)) c)
