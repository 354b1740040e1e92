use Rattle.std.proofs.Common.{◌∷◌, [], Contains, suc, ◌≡◌, ℕ, ◌+◌, ◌-◌, ◌<◌, ◌≤◌, List, ◌++◌, length, refl, get_or, drop, reverse, arith, sym, ◌∙◌, ap, subst, inl, inr, Some, None, ◌↔◌}
use Rattle.std.proofs.lemmas.List.{get_or_append_left, length-append, length-reverse, length-drop, get_or-reverse, get_or-drop, get_or-append_right, get_or_default}
use Rattle.std.specs.List.Sorted.{IsStrictlyIncreasing}
use Rattle.chain_builder.proofs.ListLemmas.{none_in_nil}
use Rattle.chain_builder.proofs.NeededLemmas.{cons_cases}
use Rattle.chain_builder.proofs.FaultLemmas.{rising_le, simple_within, must_within}
use Rattle.chain_builder.proofs.ChainLemmas.{producer_within, needed_within}
use Rattle.item_types.specs.Numbered.{IsNumbered}
use Rattle.chain_builder.specs.Needed.{IsNeeded}
use Rattle.chain_builder.specs.FaultText.{IsNamed}
use Rattle.std.proofs.lemmas.Bool.{cases_lt, cases_eq}
use Rattle.item_types.specs.declared.decl.ItemDecl.{ItemDecl}
use Rattle.item_types.specs.declared.step.StepDecl.{StepDecl}
use Rattle.chain_builder.specs.declared.fault.ChainFault.{ChainFault}
use Rattle.chain_builder.specs.declared.fault.ChainFault.TheVariants.{Duplicate, Missing, Cycle, Memory}
use Rattle.chain_builder.specs.Edge.{HasEdge}
use Rattle.chain_builder.specs.Accepted.{IsAccepted}
use Rattle.chain_builder.specs.ChainFaults.{IsCycle, Lacks}
use Rattle.chain_builder.specs.Fault.{IsFault}

pub refused : (steps : List StepDecl) (items : List ItemDecl) (finals : List ℕ) (fault : ChainFault) → (fault ≡ Memory → ⊥) → IsFault steps items finals fault → IsAccepted steps items finals → ⊥
refused steps items finals (Duplicate t a b) m f ok = ok.no_duplicate t (f.simple, (a, b, f.apart, f.first, f.second))
refused steps items finals (Missing t None) m f ok = ok.no_missing.finals_found f.1.place f.1.within f.1.within (subst (Lacks steps items finals) (sym f.1.is) f.1.lacks)
refused steps items finals (Missing t (Some s)) m f ok = ok.no_missing.wanted_found s f.1.place t f.1.wanted f.1.lacks
refused steps items finals (Cycle cycle) m f ok = ok.no_cycle _ (f.2.walked.starts (let w : f.2.back < length f.2.walk = f.2.within in omega arith)).0
refused steps items finals Memory m f ok = m refl

-- R holds round the list
record GoesRound (R : ℕ → ℕ → Type 0) (xs : List ℕ) : Type 0 where
  some : 0 < length xs
  next : (k : ℕ) → k + 1 < length xs → R (get_or xs k 0) (get_or xs (k + 1) 0)
  back : R (get_or xs (length xs - 1) 0) (get_or xs 0 0)

turned_round : (R : ℕ → ℕ → Type 0) (front rest : List ℕ) → GoesRound R (front ++ rest) → GoesRound R (rest ++ front)
turned_round R front rest g =
    let n : length (front ++ rest) ≡ length front + length rest = length-append front rest in
    let m : length (rest ++ front) ≡ length rest + length front = length-append rest front in
    let early : (k : ℕ) → k < length rest → get_or (rest ++ front) k 0 ≡ get_or (front ++ rest) (length front + k) 0 = λ k h. get_or_append_left rest front 0 k h ∙ sym (get_or-append_right front rest (length front) (length front + k) 0 refl (omega arith) ∙ ap (λ j. get_or rest j 0) (omega arith)) in
    let late : (k : ℕ) → length rest ≤ k → k < length rest + length front → get_or (rest ++ front) k 0 ≡ get_or (front ++ rest) (k - length rest) 0 = λ k h l. get_or-append_right rest front (length rest) k 0 refl h ∙ sym (get_or_append_left front rest 0 (k - length rest) (omega arith)) in
    record {
      some = let s : 0 < length (front ++ rest) = g.some in omega arith;
      next = λ k h. elim (cases_lt (k + 1) (length rest)) [
        | inl inside ↦ subst (λ z. R z (get_or (rest ++ front) (k + 1) 0)) (sym (early k (omega arith))) (subst (R (get_or (front ++ rest) (length front + k) 0)) (sym (early (k + 1) inside ∙ ap (λ j. get_or (front ++ rest) j 0) (omega arith))) (g.next (length front + k) (omega arith)))
        | inr past ↦ elim (cases_lt k (length rest)) [
          | inl last ↦ subst (λ z. R z (get_or (rest ++ front) (k + 1) 0)) (sym (early k last ∙ ap (λ j. get_or (front ++ rest) j 0) (omega arith))) (subst (R (get_or (front ++ rest) (length (front ++ rest) - 1) 0)) (sym (late (k + 1) (omega arith) (omega arith) ∙ ap (λ j. get_or (front ++ rest) j 0) (omega arith))) g.back)
          | inr after ↦ subst (λ z. R z (get_or (rest ++ front) (k + 1) 0)) (sym (late k after (omega arith))) (subst (R (get_or (front ++ rest) (k - length rest) 0)) (sym (late (k + 1) (omega arith) (omega arith) ∙ ap (λ j. get_or (front ++ rest) j 0) (omega arith))) (g.next (k - length rest) (omega arith)))
        ]
      ];
      back =
          let s : 0 < length (front ++ rest) = g.some in
          elim (cases_eq (length front) 0) [
            | inl none ↦ subst (λ z. R z (get_or (rest ++ front) 0 0)) (sym (early (length (rest ++ front) - 1) (omega arith) ∙ ap (λ j. get_or (front ++ rest) j 0) (omega arith))) (subst (R (get_or (front ++ rest) (length (front ++ rest) - 1) 0)) (sym (early 0 (omega arith) ∙ ap (λ j. get_or (front ++ rest) j 0) (omega arith))) g.back)
            | inr some ↦ elim (cases_eq (length rest) 0) [
              | inl empty ↦ subst (λ z. R z (get_or (rest ++ front) 0 0)) (sym (late (length (rest ++ front) - 1) (omega arith) (omega arith) ∙ ap (λ j. get_or (front ++ rest) j 0) (omega arith))) (subst (R (get_or (front ++ rest) (length (front ++ rest) - 1) 0)) (sym (late 0 (omega arith) (omega arith) ∙ ap (λ j. get_or (front ++ rest) j 0) (omega arith))) g.back)
              | inr both ↦ subst (λ z. R z (get_or (rest ++ front) 0 0)) (sym (late (length (rest ++ front) - 1) (omega arith) (omega arith) ∙ ap (λ j. get_or (front ++ rest) j 0) (omega arith))) (subst (R (get_or (front ++ rest) (length front - 1) 0)) (sym (early 0 (omega arith) ∙ ap (λ j. get_or (front ++ rest) j 0) (omega arith))) (g.next (length front - 1) (omega arith)))
            ]
          ];
    }

walk_round : (R : ℕ → ℕ → Type 0) (walk : List ℕ) (back : ℕ) → back < length walk → ((k : ℕ) → k + 1 < length walk → R (get_or walk (k + 1) 0) (get_or walk k 0)) → R (get_or walk back 0) (get_or walk (length walk - 1) 0) → GoesRound R (reverse (drop back walk))
walk_round R walk back within goes again =
    let n : length (reverse (drop back walk)) ≡ length walk - back = length-reverse (drop back walk) ∙ length-drop back walk in
    let at : (k : ℕ) → k < length walk - back → get_or (reverse (drop back walk)) k 0 ≡ get_or walk (length walk - 1 - k) 0 = λ k h. get_or-reverse (drop back walk) k 0 (omega (arith, length-drop back walk)) ∙ (get_or-drop back walk (length (drop back walk) - 1 - k) 0 ∙ ap (λ j. get_or walk j 0) (omega (arith, length-drop back walk))) in
    record {
      some = omega arith;
      next = λ k h. subst (λ z. R z (get_or (reverse (drop back walk)) (k + 1) 0)) (sym (at k (omega arith) ∙ ap (λ j. get_or walk j 0) (omega arith))) (subst (R (get_or walk (length walk - 1 - (k + 1) + 1) 0)) (sym (at (k + 1) (omega arith))) (goes (length walk - 1 - (k + 1)) (omega arith)));
      back = subst (λ z. R z (get_or (reverse (drop back walk)) 0 0)) (sym (at (length (reverse (drop back walk)) - 1) (omega arith) ∙ ap (λ j. get_or walk j 0) (omega arith))) (subst (R (get_or walk back 0)) (sym (at 0 (omega arith) ∙ ap (λ j. get_or walk j 0) (omega arith))) again);
    }

cycle_round : (steps : List StepDecl) (finals cycle : List ℕ) → IsCycle steps finals cycle → GoesRound (HasEdge steps finals) cycle
cycle_round steps finals cycle c = subst (GoesRound (HasEdge steps finals)) (sym c.is) (turned_round (HasEdge steps finals) c.front c.rest (subst (GoesRound (HasEdge steps finals)) c.turned (walk_round (HasEdge steps finals) c.walk c.back c.within (λ k h. (c.walked.goes k h).0.1) c.again.0.1)))

pub round_some : (steps : List StepDecl) (finals cycle : List ℕ) → IsCycle steps finals cycle → 0 < length cycle
round_some steps finals cycle c = (cycle_round steps finals cycle c).some

pub round_next : (steps : List StepDecl) (finals cycle : List ℕ) → IsCycle steps finals cycle → (k : ℕ) → k + 1 < length cycle → HasEdge steps finals (get_or cycle k 0) (get_or cycle (k + 1) 0)
round_next steps finals cycle c = (cycle_round steps finals cycle c).next

pub round_back : (steps : List StepDecl) (finals cycle : List ℕ) → IsCycle steps finals cycle → HasEdge steps finals (get_or cycle (length cycle - 1) 0) (get_or cycle 0 0)
round_back steps finals cycle c = (cycle_round steps finals cycle c).back

-- each step of a cycle is needed
on_cycle : (steps : List StepDecl) (finals cycle : List ℕ) → IsCycle steps finals cycle → (s : ℕ) → Contains cycle s → IsNeeded steps finals s
on_cycle steps finals cycle c s h =
    let inside : h.0 < length cycle = h.1 in
    let is : get_or cycle h.0 0 ≡ s = get_or_default cycle h.0 0 s inside ∙ h.2 in
    elim (cases_lt (h.0 + 1) (length cycle)) [
      | inl lt ↦ subst (IsNeeded steps finals) is (round_next steps finals cycle c h.0 lt).producer_needed
      | inr ge ↦ let e : length cycle - 1 ≡ h.0 = omega arith in subst (IsNeeded steps finals) (ap (λ k. get_or cycle k 0) e ∙ is) (round_back steps finals cycle c).producer_needed
    ]

-- the numbers of a fault are those of steps and items
pub named : (steps : List StepDecl) (items : List ItemDecl) (finals : List ℕ) (fault : ChainFault) → IsNumbered steps items finals → (fault ≡ Memory → ⊥) → IsFault steps items finals fault → IsNamed steps items fault
named steps items finals (Duplicate t a b) n m f = (simple_within items t f.simple, producer_within steps a t f.first, producer_within steps b t f.second)
named steps items finals (Missing t None) n m f = must_within items t f.1.lacks.0
named steps items finals (Missing t (Some s)) n m f = (must_within items t f.1.lacks.0, needed_within steps finals s f.1.wanted.0)
named steps items finals (Cycle cycle) n m f = λ s h. needed_within steps finals s (on_cycle steps finals cycle f.2 s h)
named steps items finals Memory n m f = absurd (m refl)

rising_tail : (x : ℕ) (xs : List ℕ) → IsStrictlyIncreasing (x ∷ xs) → IsStrictlyIncreasing xs
rising_tail x xs up k h =
    let e : get_or (x ∷ xs) (suc k) 0 < get_or (x ∷ xs) (suc k + 1) 0 = up (suc k) (omega arith) in
    let q : suc k + 1 ≡ suc (k + 1) = omega arith in
    subst (λ n. get_or xs k 0 < get_or (x ∷ xs) n 0) q e

head_below : (x : ℕ) (xs : List ℕ) (y : ℕ) → IsStrictlyIncreasing (x ∷ xs) → Contains xs y → x < y
head_below x xs y up c =
    let inside : c.0 < length xs = c.1 in
    let lt : x < get_or xs c.0 0 = rising_le (x ∷ xs) up 0 (suc c.0) (omega arith) (omega arith) in
    let is : get_or xs c.0 0 ≡ y = get_or_default xs c.0 0 y inside ∙ c.2 in
    omega arith

tail_in : (x : ℕ) (xs : List ℕ) (y : ℕ) → Contains xs y → Contains (x ∷ xs) y
tail_in x xs y c = let inside : c.0 < length xs = c.1 in (suc c.0, omega arith, c.2)

-- lists in strict order with the same numbers are equal
pub same_rising : (xs ys : List ℕ) → IsStrictlyIncreasing xs → IsStrictlyIncreasing ys → ((n : ℕ) → Contains xs n ↔ Contains ys n) → xs ≡ ys
same_rising [] [] up vp m = refl
same_rising [] (y ∷ ys) up vp m = none_in_nil y ((m y).1 (0, omega arith, refl))
same_rising (x ∷ xs) [] up vp m = none_in_nil x ((m x).0 (0, omega arith, refl))
same_rising (x ∷ xs) (y ∷ ys) up vp m =
    let a : Contains (y ∷ ys) x = (m x).0 (0, omega arith, refl) in
    let b : Contains (x ∷ xs) y = (m y).1 (0, omega arith, refl) in
    let e : x ≡ y = elim (cons_cases y ys x a.0 a.1 a.2) [
      | inl p ↦ p
      | inr c ↦ elim (cons_cases x xs y b.0 b.1 b.2) [ inl q ↦ sym q | inr d ↦ let p : y < x = head_below y ys x vp c in let q : x < y = head_below x xs y up d in absurd (omega arith) ]
    ] in
    let rest : xs ≡ ys = same_rising xs ys (rising_tail x xs up) (rising_tail y ys vp) (λ n. (
      λ c. let p : x < n = head_below x xs n up c in let h : Contains (y ∷ ys) n = (m n).0 (tail_in x xs n c) in elim (cons_cases y ys n h.0 h.1 h.2) [ inl q ↦ absurd (omega arith) | inr d ↦ d ],
      λ c. let p : y < n = head_below y ys n vp c in let h : Contains (x ∷ xs) n = (m n).1 (tail_in y ys n c) in elim (cons_cases x xs n h.0 h.1 h.2) [ inl q ↦ absurd (omega arith) | inr d ↦ d ],
    )) in
    ap (λ z. z ∷ xs) e ∙ ap (λ zs. y ∷ zs) rest
