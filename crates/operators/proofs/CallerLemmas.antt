-- The newest value of a name, looked for from the end.
use Rattle.std.proofs.Common.{◌≡◌, ℕ, zero, suc, ◌+◌, ◌<◌, List, [], ◌∷◌, ◌++◌, length, take, drop, get_or, cond, true, false, Option, Some, None, refl, sym, ap, subst, ◌∙◌}
use Rattle.std.proofs.Math.Seq.{take-suc}
use Rattle.std.proofs.lemmas.List.{drop_more}
use Rattle.std.specs.Str.{bytes_eq}
use Rattle.operators.specs.Found.{found, or_else}

or_else-assoc : {A : Type 0} (a b c : Option A) → or_else (or_else a b) c ≡ or_else a (or_else b c)
or_else-assoc None b c = refl
or_else-assoc (Some v) b c = refl

or_else-none : {A : Type 0} (a : Option A) → or_else a None ≡ a
or_else-none None = refl
or_else-none (Some v) = refl

-- the last entry is looked at first
found-snoc : {A : Type 0} (es : List (List ℕ × A)) (e : List ℕ × A) (name : List ℕ) →
    found (es ++ e ∷ []) name ≡ or_else (cond (bytes_eq e.0 name) (Some e.1) None) (found es name)
found-snoc [] e name = sym (or_else-none (cond (bytes_eq e.0 name) (Some e.1) None))
found-snoc (x ∷ es) e name =
    ap (λ o. or_else o (cond (bytes_eq x.0 name) (Some x.1) None)) (found-snoc es e name) ∙
    or_else-assoc (cond (bytes_eq e.0 name) (Some e.1) None) (found es name) (cond (bytes_eq x.0 name) (Some x.1) None)

found-take : {A : Type 0} (es : List (List ℕ × A)) (name : List ℕ) (n : ℕ) (d : List ℕ × A) → n < length es →
    found (take (suc n) es) name ≡ or_else (cond (bytes_eq (get_or es n d).0 name) (Some (get_or es n d).1) None) (found (take n es) name)
found-take {A = A} es name n d h = ap (λ (l : List (List ℕ × A)). found l name) (take-suc es n d h) ∙ found-snoc (take n es) (get_or es n d) name

-- an entry of another name
pub newest_next : {A : Type 0} (es : List (List ℕ × A)) (name : List ℕ) (m n : ℕ) (e : List ℕ × A) → n < length es → m ≡ suc n → e ≡ get_or es n e → bytes_eq e.0 name ≡ false → found (take m es) name ≡ found es name →
    found (take n es) name ≡ found es name
newest_next {A = A} es name m n e h is at other so_far =
    let step : found (take m es) name ≡ or_else (cond (bytes_eq (get_or es n e).0 name) (Some (get_or es n e).1) None) (found (take n es) name) =
    ap (λ k. found (take k es) name) is ∙ found-take es name n e h in
    let differs : bytes_eq (get_or es n e).0 name ≡ false = subst (λ (x : List ℕ × A). bytes_eq x.0 name ≡ false) at other in
    sym (step ∙ ap (λ b. or_else (cond b (Some (get_or es n e).1) None) (found (take n es) name)) differs) ∙ so_far

-- an entry of this name
pub newest_there : {A : Type 0} (es : List (List ℕ × A)) (name : List ℕ) (m n : ℕ) (e : List ℕ × A) → n < length es → m ≡ suc n → e ≡ get_or es n e → bytes_eq e.0 name ≡ true → found (take m es) name ≡ found es name →
    Some e.1 ≡ found es name
newest_there {A = A} es name m n e h is at same so_far =
    let step : found (take m es) name ≡ or_else (cond (bytes_eq (get_or es n e).0 name) (Some (get_or es n e).1) None) (found (take n es) name) =
    ap (λ k. found (take k es) name) is ∙ found-take es name n e h in
    let fits : bytes_eq (get_or es n e).0 name ≡ true = subst (λ (x : List ℕ × A). bytes_eq x.0 name ≡ true) at same in
    ap (λ (x : List ℕ × A). Some x.1) at ∙ (sym (step ∙ ap (λ b. or_else (cond b (Some (get_or es n e).1) None) (found (take n es) name)) fits) ∙ so_far)

-- what is found in the entries from a place on is the newest of all
found_later : {A : Type 0} (es : List (List ℕ × A)) (name : List ℕ) (n : ℕ) (v : A) → found (drop n es) name ≡ Some v → found es name ≡ Some v
found_later es name zero v there = there
found_later [] name (suc n) v there = there
found_later (x ∷ es) name (suc n) v there =
    ap (λ o. or_else o (cond (bytes_eq x.0 name) (Some x.1) None)) (found_later es name n v there)

-- an entry of this name, with none of the name after it
pub found_last : {A : Type 0} (es : List (List ℕ × A)) (name : List ℕ) (n : ℕ) (e : List ℕ × A) → n < length es → e ≡ get_or es n e → bytes_eq e.0 name ≡ true → found (drop (n + 1) es) name ≡ None →
    found es name ≡ Some e.1
found_last {A = A} es name n e h at same none =
    let there : found (drop n es) name ≡ Some e.1 =
    ap (λ (l : List (List ℕ × A)). found l name) (drop_more es n e h) ∙
    (ap (λ (x : List ℕ × A). or_else (found (drop (n + 1) es) name) (cond (bytes_eq x.0 name) (Some x.1) None)) (sym at) ∙
    (ap (λ o. or_else o (cond (bytes_eq e.0 name) (Some e.1) None)) none ∙
    ap (λ b. cond b (Some e.1) None) same)) in
    found_later es name n e.1 there
