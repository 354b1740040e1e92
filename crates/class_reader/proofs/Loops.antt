-- The loop that collects, beside the recursion that says what it collects.
use Rattle.std.proofs.Common.{◌≡◌, ℕ, suc, ◌+◌, ◌-◌, ◌<◌, ◌≤◌, List, [], ◌∷◌, ◌++◌, Bool, true, false, ◌||◌, Ok, Err, refl, sym, ap, ◌∙◌, arith}
use Rattle.std.specs.List.{list_any}
use Rattle.class_pool.specs.declared.fault.ClassFault.{ClassFault}
use Rattle.class_pool.specs.declared.fault.ClassFault.TheVariants as fault
use Rattle.class_grammar.specs.Layout.{Place, Outcome, Layout, many}

pub goes_on : {A : Type 0} (step : List A → Layout (List A)) (n i : ℕ) (found xs : List A) (p q : Place) (whole : Outcome (List A)) → i < n → whole ≡ (many (n - i) found step).read p → (step found).read p ≡ Ok (xs, q)
    → whole ≡ (many (n - (i + 1)) (found ++ xs) step).read q
unfolding many
goes_on step n i found xs p q whole lt so_far h =
    let turn : n - i ≡ suc (n - (i + 1)) = omega arith in
    so_far ∙ ap (λ (k : ℕ). (many k found step).read p) turn ∙ rw h refl

pub stops : {A : Type 0} (step : List A → Layout (List A)) (n i : ℕ) (found : List A) (p : Place) (whole : Outcome (List A)) (e : ClassFault) → i < n → whole ≡ (many (n - i) found step).read p
    → ((e ≡ fault.Memory → ⊥) → (step found).read p ≡ Err e) → (e ≡ fault.Memory → ⊥) → whole ≡ Err e
unfolding many
stops step n i found p whole e lt so_far h some =
    let turn : n - i ≡ suc (n - (i + 1)) = omega arith in
    so_far ∙ ap (λ (k : ℕ). (many k found step).read p) turn ∙ rw (h some) refl

pub is_done : {A : Type 0} (step : List A → Layout (List A)) (n i : ℕ) (found : List A) (p : Place) (whole : Outcome (List A)) → n ≤ i → whole ≡ (many (n - i) found step).read p → whole ≡ Ok (found, p)
unfolding many
is_done step n i found p whole le so_far =
    let none : n - i ≡ 0 = omega arith in
    so_far ∙ ap (λ (k : ℕ). (many k found step).read p) none

pub or_true : (a b : Bool) → b ≡ true → true ≡ (a || b)
or_true true b e = refl
or_true false b e = sym e

pub or_false : (a b : Bool) → b ≡ false → a ≡ (a || b)
or_false true b e = refl
or_false false b e = sym e

or_assoc : (a b c : Bool) → (a || (b || c)) ≡ ((a || b) || c)
or_assoc true b c = refl
or_assoc false b c = refl

or_last : (a : Bool) → (a || false) ≡ a
or_last true = refl
or_last false = refl

pub any_more : {X : Type 0} (p : X → Bool) (xs : List X) (x : X) → list_any p (xs ++ x ∷ []) ≡ (list_any p xs || p x)
any_more p [] x = or_last (p x)
any_more p (y ∷ ys) x = ap (λ (b : Bool). p y || b) (any_more p ys x) ∙ or_assoc (p y) (list_any p ys) (p x)
