use Rattle.std.proofs.Common.{◌≡◌, ℕ, ◌+◌, ◌<◌, List, [], ◌∷◌, ◌++◌, length, refl, get_or, take, arith, sym, ◌∙◌, ap, subst, append_assoc}
use Rattle.std.specs.Prelude.{codes}
use Rattle.std.proofs.lemmas.List.{take_more, length-take}
use Rattle.item_types.specs.declared.step.StepDecl.{StepDecl}
use Rattle.chain_builder.specs.FaultText.{step_name, step_names}

-- one piece after another
pub after : (x y z a b : List ℕ) → y ≡ x ++ a → z ≡ y ++ b → z ≡ x ++ (a ++ b)
after x y z a b p q = q ∙ (ap (λ t. t ++ b) p ∙ append_assoc x a b)

pub names_push : (steps : List StepDecl) (xs : List ℕ) (s : ℕ) → 0 < length xs → step_names steps (xs ++ s ∷ []) ≡ step_names steps xs ++ (codes ", " ++ step_name steps s)
names_push steps [] s h = absurd (omega arith)
names_push steps (x ∷ []) s h = refl
names_push steps (x ∷ y ∷ rest) s h =
    ap (λ t. step_name steps x ++ (codes ", " ++ t)) (names_push steps (y ∷ rest) s (omega arith))
    ∙ (ap (λ t. step_name steps x ++ t) (sym (append_assoc (codes ", ") (step_names steps (y ∷ rest)) (codes ", " ++ step_name steps s)))
    ∙ sym (append_assoc (step_name steps x) (codes ", " ++ step_names steps (y ∷ rest)) (codes ", " ++ step_name steps s)))

pub names_more : (steps : List StepDecl) (xs : List ℕ) (i : ℕ) → i < length xs → 0 < i → step_names steps (take (i + 1) xs) ≡ step_names steps (take i xs) ++ (codes ", " ++ step_name steps (get_or xs i 0))
names_more steps xs i h some = ap (step_names steps) (take_more xs i 0 h) ∙ names_push steps (take i xs) (get_or xs i 0) (omega (arith, length-take i xs))

pub names_first : (steps : List StepDecl) (xs : List ℕ) (i : ℕ) → i < length xs → i ≡ 0 → step_names steps (take (i + 1) xs) ≡ step_names steps (take i xs) ++ step_name steps (get_or xs i 0)
names_first steps xs i h e = ap (step_names steps) (take_more xs i 0 h) ∙ subst (λ n. step_names steps (take n xs ++ get_or xs i 0 ∷ []) ≡ step_names steps (take n xs) ++ step_name steps (get_or xs i 0)) (sym e) refl
