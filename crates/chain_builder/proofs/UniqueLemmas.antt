-- A chain has at most one fault.
use Rattle.std.proofs.Common.{◌≡◌, ℕ, zero, suc, ◌+◌, ◌-◌, ◌<◌, ◌≤◌, List, [], ◌∷◌, ◌++◌, length, refl, Contains, get_or, take, drop, reverse, arith, sym, ◌∙◌, ap, subst, inl, inr, Some, None, slice_get}
use Rattle.std.proofs.lemmas.List.{get_or_append_left, length-append, length-reverse, length-drop, get_or-reverse, get_or-drop, take_all, take-append-drop, append-nil, take-append-le, drop-append-le, drop_all}
use Rattle.std.proofs.lemmas.List.Elements.{Contains-append_left, Contains-append_right, Contains-append_cases, Contains-get_or}
use Rattle.std.proofs.lemmas.Option.{same_Some}
use Rattle.std.proofs.lemmas.Bool.{cases_lt, cases_eq}
use Rattle.item_types.specs.declared.decl.ItemDecl.{ItemDecl}
use Rattle.item_types.specs.declared.step.Consume.{Consume}
use Rattle.item_types.specs.declared.step.StepDecl.{StepDecl}
use Rattle.chain_builder.specs.declared.fault.ChainFault.{ChainFault}
use Rattle.chain_builder.specs.declared.fault.ChainFault.TheVariants.{Duplicate, Missing, Cycle, Memory}
use Rattle.chain_builder.specs.Consumption.{consumptions}
use Rattle.chain_builder.specs.ChainFaults.{IsDuplicate, IsMissingFinal, IsMissingConsumed, IsCycle, IsWalk, IsNext, IsLeastWith, IsInCore, Lacks}
use Rattle.chain_builder.specs.Fault.{IsFault}

-- Duplicates.

same_item : (steps : List StepDecl) (items : List ItemDecl) (t a b u c d : ℕ) → IsDuplicate steps items t a b → IsDuplicate steps items u c d → t ≡ u
same_item steps items t a b u c d f g = elim (cases_eq t u) [
  | inl e ↦ e
  | inr ne ↦ elim (cases_lt t u) [
    | inl lt ↦ absurd (g.least_item t lt (f.simple, (a, b, f.apart, f.first, f.second)))
    | inr ge ↦ absurd (f.least_item u (omega arith) (g.simple, (c, d, g.apart, g.first, g.second)))
  ]
]

same_producers : (steps : List StepDecl) (items : List ItemDecl) (t a b c d : ℕ) → IsDuplicate steps items t a b → IsDuplicate steps items t c d → (a ≡ c) × (b ≡ d)
same_producers steps items t a b c d f g =
    let first : a ≡ c = elim (f.two_least c g.first) [
      | inl e ↦ sym e
      | inr le ↦ elim (g.two_least a f.first) [
        | inl e ↦ e
        | inr le2 ↦ absurd (omega (arith, f.apart, g.apart))
      ]
    ] in
    let low : b ≤ d = elim (f.two_least d g.second) [ inl e ↦ absurd (omega (arith, g.apart)) | inr le ↦ le ] in
    let high : d ≤ b = elim (g.two_least b f.second) [ inl e ↦ absurd (omega (arith, f.apart)) | inr le ↦ le ] in
    (first, omega arith)

-- What is missing.

same_final : (steps : List StepDecl) (items : List ItemDecl) (finals : List ℕ) (t u : ℕ) → IsMissingFinal steps items finals t → IsMissingFinal steps items finals u → t ≡ u
same_final steps items finals t u f g =
    let place : f.place ≡ g.place = elim (cases_eq f.place g.place) [
      | inl e ↦ e
      | inr ne ↦ elim (cases_lt f.place g.place) [
        | inl lt ↦ absurd (g.first f.place lt f.within (subst (Lacks steps items finals) (sym f.is) f.lacks))
        | inr ge ↦ absurd (f.first g.place (omega arith) g.within (subst (Lacks steps items finals) (sym g.is) g.lacks))
      ]
    ] in
    sym f.is ∙ (ap (λ k. get_or finals k 0) place ∙ g.is)

final_first : (steps : List StepDecl) (items : List ItemDecl) (finals : List ℕ) (t u s : ℕ) → IsMissingFinal steps items finals t → IsMissingConsumed steps items finals u s → ⊥
final_first steps items finals t u s f g = g.finals_found f.place f.within f.within (subst (Lacks steps items finals) (sym f.is) f.lacks)

same_consumer : (steps : List StepDecl) (items : List ItemDecl) (finals : List ℕ) (t s u r : ℕ) → IsMissingConsumed steps items finals t s → IsMissingConsumed steps items finals u r → s ≡ r
same_consumer steps items finals t s u r f g = elim (cases_eq s r) [
  | inl e ↦ e
  | inr ne ↦ elim (cases_lt s r) [
    | inl lt ↦ absurd (g.first s f.place t (inl lt) f.wanted f.lacks)
    | inr ge ↦ absurd (f.first r g.place u (inl (omega arith)) g.wanted g.lacks)
  ]
]

same_wanted : (steps : List StepDecl) (items : List ItemDecl) (finals : List ℕ) (t u s : ℕ) → IsMissingConsumed steps items finals t s → IsMissingConsumed steps items finals u s → t ≡ u
same_wanted steps items finals t u s f g =
    let place : f.place ≡ g.place = elim (cases_eq f.place g.place) [
      | inl e ↦ e
      | inr ne ↦ elim (cases_lt f.place g.place) [
        | inl lt ↦ absurd (g.first s f.place t (inr (refl, lt)) f.wanted f.lacks)
        | inr ge ↦ absurd (f.first s g.place u (inr (refl, omega arith)) g.wanted g.lacks)
      ]
    ] in
    let at : slice_get (consumptions steps s) g.place ≡ Some f.wanted.1.0 = subst (λ k. slice_get (consumptions steps s) k ≡ Some f.wanted.1.0) place f.wanted.1.1 in
    let one : f.wanted.1.0 ≡ g.wanted.1.0 = same_Some _ _ (sym at ∙ g.wanted.1.1) in
    sym f.wanted.1.2 ∙ (ap (λ (c : Consume). c.item) one ∙ g.wanted.1.2)

-- Cycles: there is one walk, and one way to turn what it goes round.

least_same : (P : ℕ → Type 0) (x y : ℕ) → IsLeastWith P x → IsLeastWith P y → x ≡ y
least_same P x y p q = let a : x ≤ y = p.1 y q.0 in let b : y ≤ x = q.1 x p.0 in omega arith

walk_same : (steps : List StepDecl) (finals w v : List ℕ) → IsWalk steps finals w → IsWalk steps finals v → (k : ℕ) → k < length w → k < length v → get_or w k 0 ≡ get_or v k 0
walk_same steps finals w v p q zero h l = least_same (IsInCore steps finals) (get_or w 0 0) (get_or v 0 0) (p.starts h) (q.starts l)
walk_same steps finals w v p q (suc k) h l =
    let before : get_or w k 0 ≡ get_or v k 0 = walk_same steps finals w v p q k (omega arith) (omega arith) in
    let one : k + 1 ≡ suc k = omega arith in
    let a : IsNext steps finals (get_or w k 0) (get_or w (suc k) 0) = subst (λ n. IsNext steps finals (get_or w k 0) (get_or w n 0)) one (p.goes k (omega arith)) in
    let b : IsNext steps finals (get_or v k 0) (get_or v (suc k) 0) = subst (λ n. IsNext steps finals (get_or v k 0) (get_or v n 0)) one (q.goes k (omega arith)) in
    next_same (get_or w k 0) (get_or v k 0) (get_or w (suc k) 0) (get_or v (suc k) 0) before a b
  where
    next_same : (s r x y : ℕ) → s ≡ r → IsNext steps finals s x → IsNext steps finals r y → x ≡ y
    next_same s r x y e a b = let c : IsNext steps finals s y = subst (λ z. IsNext steps finals z y) (sym e) b in let le : x ≤ y = a.1 y c.0 in let ge : y ≤ x = c.1 x a.0 in omega arith

not_longer : (steps : List StepDecl) (finals w v : List ℕ) (back : ℕ) → IsWalk steps finals w → IsWalk steps finals v → back < length w → IsNext steps finals (get_or w (length w - 1) 0) (get_or w back 0) → length w < length v → ⊥
not_longer steps finals w v back p q within again longer =
    let last : get_or w (length w - 1) 0 ≡ get_or v (length w - 1) 0 = walk_same steps finals w v p q (length w - 1) (omega arith) (omega arith) in
    let there : get_or w back 0 ≡ get_or v back 0 = walk_same steps finals w v p q back within (omega arith) in
    let n : length w - 1 + 1 ≡ length w = omega arith in
    let goes : IsNext steps finals (get_or v (length w - 1) 0) (get_or v (length w) 0) = subst (λ k. IsNext steps finals (get_or v (length w - 1) 0) (get_or v k 0)) n (q.goes (length w - 1) (omega arith)) in
    let comes : IsNext steps finals (get_or v (length w - 1) 0) (get_or w back 0) = subst (λ z. IsNext steps finals z (get_or w back 0)) last again in
    let le : get_or v (length w) 0 ≤ get_or w back 0 = goes.1 _ comes.0 in
    let ge : get_or w back 0 ≤ get_or v (length w) 0 = comes.1 _ goes.0 in
    q.apart back (length w) within longer (omega arith)

same_lists : (xs ys : List ℕ) → length xs ≡ length ys → ((k : ℕ) → k < length xs → get_or xs k 0 ≡ get_or ys k 0) → xs ≡ ys
same_lists [] [] e all = refl
same_lists [] (y ∷ ys) e all = absurd (omega arith)
same_lists (x ∷ xs) [] e all = absurd (omega arith)
same_lists (x ∷ xs) (y ∷ ys) e all =
    let rest : xs ≡ ys = same_lists xs ys (omega arith) (λ k h. all (suc k) (omega arith)) in
    ap (λ z. z ∷ xs) (all 0 (omega arith)) ∙ ap (λ zs. y ∷ zs) rest

same_walk : (steps : List StepDecl) (finals a b : List ℕ) (f : IsCycle steps finals a) (g : IsCycle steps finals b) → f.walk ≡ g.walk
same_walk steps finals a b f g =
    let long : length f.walk ≡ length g.walk = elim (cases_eq (length f.walk) (length g.walk)) [
      | inl e ↦ e
      | inr ne ↦ elim (cases_lt (length f.walk) (length g.walk)) [
        | inl lt ↦ absurd (not_longer steps finals f.walk g.walk f.back f.walked g.walked f.within f.again lt)
        | inr ge ↦ absurd (not_longer steps finals g.walk f.walk g.back g.walked f.walked g.within g.again (omega arith))
      ]
    ] in
    same_lists f.walk g.walk long (λ k h. walk_same steps finals f.walk g.walk f.walked g.walked k h (omega arith))

-- no number stands twice
abbrev AreApart : List ℕ → Type 0
AreApart xs = (j k : ℕ) → j < k → k < length xs → get_or xs j 0 ≡ get_or xs k 0 → ⊥

same_place : (xs : List ℕ) (j k : ℕ) → AreApart xs → j < length xs → k < length xs → get_or xs j 0 ≡ get_or xs k 0 → j ≡ k
same_place xs j k apart h l e = elim (cases_eq j k) [
  | inl q ↦ q
  | inr ne ↦ elim (cases_lt j k) [ inl lt ↦ absurd (apart j k lt l e) | inr ge ↦ absurd (apart k j (omega arith) h (sym e)) ]
]

-- the list from a place on, and then what stands before
abbrev turn : ℕ → List ℕ → List ℕ
turn a xs = drop a xs ++ take a xs

drop_front : (xs ys : List ℕ) → drop (length xs) (xs ++ ys) ≡ ys
drop_front xs ys = drop-append-le (length xs) xs ys (omega arith) ∙ ap (λ zs. zs ++ ys) (drop_all (length xs) xs (omega arith))

take_front : (xs ys : List ℕ) → take (length xs) (xs ++ ys) ≡ xs
take_front xs ys = take-append-le (length xs) xs ys (omega arith) ∙ take_all (length xs) xs (omega arith)

turned_at : (xs front rest cycle : List ℕ) → xs ≡ front ++ rest → cycle ≡ rest ++ front → cycle ≡ turn (length front) xs
turned_at xs front rest cycle e is =
    let d : drop (length front) xs ≡ rest = ap (drop (length front)) e ∙ drop_front front rest in
    let t : take (length front) xs ≡ front = ap (take (length front)) e ∙ take_front front rest in
    is ∙ sym (ap (λ (ys : List ℕ). ys ++ take (length front) xs) d ∙ ap (λ (ys : List ℕ). rest ++ ys) t)

-- a turn by all is a turn by none
turned_within : (xs front rest cycle : List ℕ) → 0 < length xs → xs ≡ front ++ rest → cycle ≡ rest ++ front → (a : ℕ) × (a < length xs) × (cycle ≡ turn a xs)
turned_within xs front [] cycle some e is = (0, some, is ∙ sym (append-nil xs ∙ (e ∙ append-nil front)))
turned_within xs front (r ∷ rest) cycle some e is =
    let n : length xs ≡ length front + length (r ∷ rest) = ap length e ∙ length-append front (r ∷ rest) in
    (length front, omega arith, turned_at xs front (r ∷ rest) cycle e is)

turn_head : (xs : List ℕ) (a : ℕ) → a < length xs → get_or (turn a xs) 0 0 ≡ get_or xs a 0
turn_head xs a h = get_or_append_left (drop a xs) (take a xs) 0 0 (omega (arith, length-drop a xs)) ∙ (get_or-drop a xs 0 0 ∙ ap (λ k. get_or xs k 0) (omega arith))

turn_has : (xs : List ℕ) (a y : ℕ) → Contains xs y → Contains (turn a xs) y
turn_has xs a y h = elim (Contains-append_cases (take a xs) (drop a xs) y (subst (λ (zs : List ℕ). Contains zs y) (sym (take-append-drop a xs)) h)) [
  | inl c ↦ Contains-append_right (drop a xs) (take a xs) y c
  | inr c ↦ Contains-append_left (drop a xs) (take a xs) y c
]

abbrev IsLeastFirst : List ℕ → Type 0
IsLeastFirst xs = (s : ℕ) → Contains xs s → get_or xs 0 0 ≤ s

first_below : (xs c : List ℕ) (a b : ℕ) → a < length xs → b < length xs → c ≡ turn a xs → IsLeastFirst c → get_or xs a 0 ≤ get_or xs b 0
first_below xs c a b h l e least =
    let head : get_or c 0 0 ≡ get_or xs a 0 = ap (λ (ys : List ℕ). get_or ys 0 0) e ∙ turn_head xs a h in
    let le : get_or c 0 0 ≤ get_or xs b 0 = least (get_or xs b 0) (subst (λ (ys : List ℕ). Contains ys (get_or xs b 0)) (sym e) (turn_has xs a (get_or xs b 0) (Contains-get_or xs b 0 l))) in
    omega arith

same_turn : (xs c d : List ℕ) (a b : ℕ) → AreApart xs → a < length xs → b < length xs → c ≡ turn a xs → d ≡ turn b xs → IsLeastFirst c → IsLeastFirst d → c ≡ d
same_turn xs c d a b apart h l e f lc ld =
    let p : get_or xs a 0 ≤ get_or xs b 0 = first_below xs c a b h l e lc in
    let q : get_or xs b 0 ≤ get_or xs a 0 = first_below xs d b a l h f ld in
    let one : a ≡ b = same_place xs a b apart h l (omega arith) in
    e ∙ (ap (λ k. turn k xs) one ∙ sym f)

-- what a walk goes round has no number twice
back_at : (walk : List ℕ) (back k : ℕ) → k < length walk - back → get_or (reverse (drop back walk)) k 0 ≡ get_or walk (length walk - 1 - k) 0
back_at walk back k h = get_or-reverse (drop back walk) k 0 (omega (arith, length-drop back walk)) ∙ (get_or-drop back walk (length (drop back walk) - 1 - k) 0 ∙ ap (λ j. get_or walk j 0) (omega (arith, length-drop back walk)))

back_apart : (walk : List ℕ) (back : ℕ) → AreApart walk → AreApart (reverse (drop back walk))
back_apart walk back apart j k lt h e =
    let n : length (reverse (drop back walk)) ≡ length walk - back = length-reverse (drop back walk) ∙ length-drop back walk in
    apart (length walk - 1 - k) (length walk - 1 - j) (omega arith) (omega arith) (sym (back_at walk back k (omega arith)) ∙ (sym e ∙ back_at walk back j (omega arith)))

same_cycle : (steps : List StepDecl) (finals a b : List ℕ) → IsCycle steps finals a → IsCycle steps finals b → a ≡ b
same_cycle steps finals a b f g =
    let e : g.walk ≡ f.walk = sym (same_walk steps finals a b f g) in
    let within : g.back < length f.walk = subst (λ (ws : List ℕ). g.back < length ws) e g.within in
    let again : IsNext steps finals (get_or f.walk (length f.walk - 1) 0) (get_or f.walk g.back 0) = subst (λ (ws : List ℕ). IsNext steps finals (get_or ws (length ws - 1) 0) (get_or ws g.back 0)) e g.again in
    let le : get_or f.walk f.back 0 ≤ get_or f.walk g.back 0 = f.again.1 _ again.0 in
    let ge : get_or f.walk g.back 0 ≤ get_or f.walk f.back 0 = again.1 _ f.again.0 in
    let back : f.back ≡ g.back = same_place f.walk f.back g.back f.walked.apart f.within within (omega arith) in
    let round : List ℕ = reverse (drop f.back f.walk) in
    let n : length (reverse (drop f.back f.walk)) ≡ length f.walk - f.back = length-reverse (drop f.back f.walk) ∙ length-drop f.back f.walk in
    let inside : f.back < length f.walk = f.within in
    let some : 0 < length (reverse (drop f.back f.walk)) = omega arith in
    let turned : reverse (drop f.back f.walk) ≡ g.front ++ g.rest = ap (λ k. reverse (drop k f.walk)) back ∙ (ap (λ (ws : List ℕ). reverse (drop g.back ws)) (sym e) ∙ g.turned) in
    let p = turned_within (reverse (drop f.back f.walk)) f.front f.rest a some f.turned f.is in
    let q = turned_within (reverse (drop f.back f.walk)) g.front g.rest b some turned g.is in
    same_turn (reverse (drop f.back f.walk)) a b p.0 q.0 (back_apart f.walk f.back f.walked.apart) p.1 q.1 p.2 q.2 f.least g.least

-- Faults.

not_both_missing : (steps : List StepDecl) (items : List ItemDecl) (finals cycle : List ℕ) (t : ℕ) → IsMissingFinal steps items finals t → IsFault steps items finals (Cycle cycle) → ⊥
not_both_missing steps items finals cycle t f g = g.1.finals_found f.place f.within f.within (subst (Lacks steps items finals) (sym f.is) f.lacks)

pub same_fault : (steps : List StepDecl) (items : List ItemDecl) (finals : List ℕ) (f g : ChainFault) → (f ≡ Memory → ⊥) → (g ≡ Memory → ⊥) → IsFault steps items finals f → IsFault steps items finals g → f ≡ g
same_fault steps items finals Memory g m n p q = absurd (m refl)
same_fault steps items finals (Duplicate t a b) Memory m n p q = absurd (n refl)
same_fault steps items finals (Duplicate t a b) (Duplicate u c d) m n p q =
    let e : t ≡ u = same_item steps items t a b u c d p q in
    let f = same_producers steps items t a b c d p (subst (λ z. IsDuplicate steps items z c d) (sym e) q) in
    ap (λ z. Duplicate z a b) e ∙ (ap (λ z. Duplicate u z b) f.0 ∙ ap (λ z. Duplicate u c z) f.1)
same_fault steps items finals (Duplicate t a b) (Missing u None) m n p q = absurd (q.0 t (p.simple, (a, b, p.apart, p.first, p.second)))
same_fault steps items finals (Duplicate t a b) (Missing u (Some s)) m n p q = absurd (q.0 t (p.simple, (a, b, p.apart, p.first, p.second)))
same_fault steps items finals (Duplicate t a b) (Cycle cycle) m n p q = absurd (q.0 t (p.simple, (a, b, p.apart, p.first, p.second)))
same_fault steps items finals (Missing t None) Memory m n p q = absurd (n refl)
same_fault steps items finals (Missing t None) (Duplicate u a b) m n p q = absurd (p.0 u (q.simple, (a, b, q.apart, q.first, q.second)))
same_fault steps items finals (Missing t None) (Missing u None) m n p q = ap (λ z. Missing z None) (same_final steps items finals t u p.1 q.1)
same_fault steps items finals (Missing t None) (Missing u (Some s)) m n p q = absurd (final_first steps items finals t u s p.1 q.1)
same_fault steps items finals (Missing t None) (Cycle cycle) m n p q = absurd (not_both_missing steps items finals cycle t p.1 q)
same_fault steps items finals (Missing t (Some s)) Memory m n p q = absurd (n refl)
same_fault steps items finals (Missing t (Some s)) (Duplicate u a b) m n p q = absurd (p.0 u (q.simple, (a, b, q.apart, q.first, q.second)))
same_fault steps items finals (Missing t (Some s)) (Missing u None) m n p q = absurd (final_first steps items finals u t s q.1 p.1)
same_fault steps items finals (Missing t (Some s)) (Missing u (Some r)) m n p q =
    let e : s ≡ r = same_consumer steps items finals t s u r p.1 q.1 in
    let f : t ≡ u = same_wanted steps items finals t u s p.1 (subst (λ z. IsMissingConsumed steps items finals u z) (sym e) q.1) in
    ap (λ z. Missing z (Some s)) f ∙ ap (λ z. Missing u (Some z)) e
same_fault steps items finals (Missing t (Some s)) (Cycle cycle) m n p q = absurd (q.1.wanted_found s p.1.place t p.1.wanted p.1.lacks)
same_fault steps items finals (Cycle cycle) Memory m n p q = absurd (n refl)
same_fault steps items finals (Cycle cycle) (Duplicate u a b) m n p q = absurd (p.0 u (q.simple, (a, b, q.apart, q.first, q.second)))
same_fault steps items finals (Cycle cycle) (Missing u None) m n p q = absurd (not_both_missing steps items finals cycle u q.1 p)
same_fault steps items finals (Cycle cycle) (Missing u (Some s)) m n p q = absurd (p.1.wanted_found s q.1.place u q.1.wanted q.1.lacks)
same_fault steps items finals (Cycle cycle) (Cycle other) m n p q = ap (λ z. Cycle z) (same_cycle steps finals cycle other p.2 q.2)
