-- Parts that were written in the declared order of their fields.
use Rattle.std.proofs.Common.{◌≡◌, ℕ, ◌+◌, ◌<◌, List, [], ◌∷◌, ◌++◌, length, take, drop, get_or, map, true, false, unwrap_or, Option, Some, None, Bor, refl, sym, ap, ◌∙◌}
use Rattle.std.proofs.lemmas.List.{map_more}
use Rattle.std.specs.Option.{is_some, option_copied}
use Rattle.std.specs.Str.{bytes_eq}
use Rattle.item_types.specs.declared.value.Value.{Value}
use Rattle.item_types.specs.declared.value.Value.TheVariants.{Null}
use Rattle.operators.specs.Found.{found}
use Rattle.step_state.specs.Operations.{arranged}
use Rattle.operators.proofs.CallerLemmas.{found_last}

-- one more field, written at its own place and not again after it
pub in_order_more : (fields : List (List ℕ)) (written : List (List ℕ × Value)) (i : ℕ) (f : List ℕ) (e : List ℕ × Value) → i < length fields → i < length written →
    f ≡ get_or fields i f → e ≡ get_or written i e → bytes_eq e.0 f ≡ true → found (drop (i + 1) written) f ≡ None →
    arranged (take i fields) written ≡ map (λ p. p.1) (take i written) →
    arranged (take (i + 1) fields) written ≡ map (λ p. p.1) (take (i + 1) written)
unfolding arranged
in_order_more fields written i f e in_fields in_written at_f at_e same none so_far =
    let value = λ (name : List ℕ). unwrap_or (found written name) Null in
    let here : value f ≡ e.1 = ap (λ o. unwrap_or o Null) (found_last written f i e in_written at_e same none) in
    map_more value fields i f in_fields ∙
    (ap (λ name. map value (take i fields) ++ value name ∷ []) (sym at_f) ∙
    (ap (λ v. map value (take i fields) ++ v ∷ []) here ∙
    (ap (λ vs. vs ++ e.1 ∷ []) so_far ∙
    (ap (λ (x : List ℕ × Value). map (λ p. p.1) (take i written) ++ x.1 ∷ []) at_e ∙
    sym (map_more (λ (p : List ℕ × Value). p.1) written i e in_written)))))

pub none_there : (o : Option (Bor Value)) → is_some o ≡ false → option_copied o ≡ None
none_there None h = refl
none_there (Some v) h = cc
