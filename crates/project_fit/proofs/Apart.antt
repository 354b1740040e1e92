-- Truth values in pairs, and texts that stand there once.
use Rattle.std.proofs.Common.{◌≡◌, sym, refl, subst, append_assoc, append-nil, ℕ, Bool, true, false, not, ◌&&◌, List, [], ◌∷◌, ◌++◌}
use Rattle.name_index.specs.Place.{has}
use Rattle.project_fit.specs.Fits.{none_twice}

pub and-true : (a b : Bool) → a ≡ true → b ≡ true → (a && b) ≡ true
and-true true true p q = refl
and-true true false p q = q
and-true false b p q = p

pub and-second : (a b x y : Bool) → x ≡ true → x ≡ a → y ≡ b → y ≡ (a && b)
and-second true b x y holds first second = second
and-second false b x y holds first second = cc

pub and-parts : (a b : Bool) → (a && b) ≡ true → (a ≡ true) × (b ≡ true)
and-parts true b is = (refl, is)
and-parts false b is = cc

-- more texts after those that stand there once
pub apart-append : (before xs ys : List (List ℕ)) → none_twice before xs ≡ true → none_twice (before ++ xs) ys ≡ true → none_twice before (xs ++ ys) ≡ true
apart-append before [] ys first later = subst (λ (all : List (List ℕ)). none_twice all ys ≡ true) (append-nil before) later
apart-append before (x ∷ xs) ys first later =
    let parts = and-parts (not (has before x)) (none_twice (before ++ x ∷ []) xs) first in
    and-true _ _ parts.0
    (apart-append (before ++ x ∷ []) xs ys parts.1
    (subst (λ (all : List (List ℕ)). none_twice all ys ≡ true) (sym (append_assoc before (x ∷ []) xs)) later))
