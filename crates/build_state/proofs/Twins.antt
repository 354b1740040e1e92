-- Puts in reverse, and room for those that are kept.
use Rattle.std.proofs.Common.{◌≡◌, ◌≢◌, ℕ, ◌<◌, ◌≤◌, ◌+◌, List, [], ◌∷◌, ◌++◌, reverse, map, length, get_or, take, count_by, sum_by, Bool, true, false, cond, ◌==◌, refl, sym, ap, ◌∙◌, subst, arith, ◌⊎◌, inl, inr}
use Rattle.std.proofs.lemmas.Bool.{eqb-true, eqb-false}
use Rattle.std.proofs.lemmas.List.{reverse-reverse, reverse-append, map-append, take_more, length-append}
use Rattle.std.proofs.lemmas.List.Elements.{filter-append}
use Rattle.std.proofs.lemmas.List.Sums.{sum_by-append, sum_by-cons}
use Rattle.item_types.specs.declared.value.Value.{Value}
use Rattle.item_store.specs.Kept.{Kept as Stored, values_of, spare_of, SameElsewhere, Held}
use Rattle.build_history.specs.Jobs.{JobView, is_effective}
use Rattle.build_history.specs.Scripts.{kept}
use Rattle.build_state.specs.Keeping.{values_kept}
use Rattle.build_state.specs.Rooms.{IsRoomier, HasMore}
use Rattle.build_state.specs.Twins.{Put, value_of}

reverse_cons : {X : Type 0} (x : X) (xs : List X) → reverse (x ∷ xs) ≡ reverse xs ++ x ∷ []
reverse_cons x xs = reverse-append (x ∷ []) xs

pub map-reverse : {X Y : Type 0} (f : X → Y) (xs : List X) → map f (reverse xs) ≡ reverse (map f xs)
map-reverse f [] = refl
map-reverse f (x ∷ xs) = ap (map f) (reverse_cons x xs) ∙ map-append f (reverse xs) (x ∷ []) ∙ ap (λ z. z ++ f x ∷ []) (map-reverse f xs) ∙ sym (reverse_cons (f x) (map f xs))

-- a list that was turned round, seen from its end, and the values of its elements
pub seen_back : (ps turned : List Put) → turned ≡ reverse ps → reverse turned ≡ ps
seen_back ps turned is = ap reverse is ∙ reverse-reverse ps

pub values_back : (again both : List Value) (ps turned : List Put) → again ≡ map value_of ps → both ≡ reverse again → turned ≡ reverse ps → both ≡ map value_of turned
values_back again both ps turned values is back = is ∙ ap reverse values ∙ sym (map-reverse value_of ps) ∙ sym (ap (map value_of) back)

-- the puts that are kept of the first ones, and of one more
pub kept_take : (job : JobView) (s : ℕ) (puts : List Put) (i : ℕ) (p : Put) → i < length puts → p ≡ get_or puts i p → kept job s (take (i + 1) puts) ≡ kept job s (take i puts) ++ kept job s (p ∷ [])
kept_take job s puts i p lt is =
    ap (kept job s) (take_more puts i p lt ∙ ap (λ z. take i puts ++ z ∷ []) (sym is)) ∙ filter-append (λ (q : Put). is_effective job.plan.steps s q.0) (take i puts) (p ∷ [])

pub values_take : (job : JobView) (s : ℕ) (puts : List Put) (i : ℕ) (p : Put) → i < length puts → p ≡ get_or puts i p → values_kept job s (take i puts) ++ values_kept job s (p ∷ []) ≡ values_kept job s (take (i + 1) puts)
values_take job s puts i p lt is = sym (ap (map value_of) (kept_take job s puts i p lt is) ∙ map-append value_of (kept job s (take i puts)) (kept job s (p ∷ [])))

same_or : (a b : ℕ) → (a ≡ b) ⊎ (a ≢ b)
same_or a b = same_at (a == b) refl where
  same_at : (c : Bool) → (a == b) ≡ c → (a ≡ b) ⊎ (a ≢ b)
  same_at true q = inl (eqb-true a b q)
  same_at false q = inr (eqb-false a b q)

-- room for some puts and for others is room for all
pub more_room : (old mid new : ℕ) (before between after : Stored) (ps qs : List Put) → HasMore old mid before between ps → HasMore mid new between after qs → HasMore old new before after (ps ++ qs)
more_room old mid new before between after ps qs first then = record {
  events = (let a : mid ≡ old + length ps = first.events in let b : new ≡ mid + length qs = then.events in let c : length (ps ++ qs) ≡ length ps + length qs = length-append ps qs in omega (arith, a, b, c));
  spares = λ item.
      let one : Put → ℕ = λ x. cond (x.0 == item) 1 0 in
      let a : sum_by one (ps ++ qs) ≡ sum_by one ps + sum_by one qs = sum_by-append one ps qs in
      let b : spare_of between item ≡ spare_of before item + sum_by one ps = first.spares item in
      let c : spare_of after item ≡ spare_of between item + sum_by one qs = then.spares item in
      omega (arith, a, b, c);
}

pub roomier_more : (before between after : Stored) → IsRoomier before between → IsRoomier between after → IsRoomier before after
roomier_more before between after first then = record {
  names = then.names ∙ first.names;
  values = λ i. then.values i ∙ first.values i;
  spares = λ i. let a : spare_of before i ≤ spare_of between i = first.spares i in let b : spare_of between i ≤ spare_of after i = then.spares i in omega (arith, a, b);
}

pub roomier_none : (store : Stored) → IsRoomier store store
roomier_none store = record { names = refl; values = λ i. refl; spares = λ i. omega arith }

pub more_none : (n : ℕ) (store : Stored) → HasMore n n store store []
more_none n store = record { events = omega arith; spares = λ i. omega arith }

-- one put that isn't kept, and one that is
pub none_kept : (job : JobView) (s : ℕ) (p : Put) → is_effective job.plan.steps s p.0 ≡ false → kept job s (p ∷ []) ≡ []
none_kept job s p not = ap (λ b. cond b (p ∷ []) []) not

pub one_kept : (job : JobView) (s : ℕ) (p : Put) → is_effective job.plan.steps s p.0 ≡ true → kept job s (p ∷ []) ≡ p ∷ []
one_kept job s p is = ap (λ b. cond b (p ∷ []) []) is

-- room for one put more
pub roomier_one : (before after : Stored) (item : ℕ) → values_of after item ≡ values_of before item → spare_of after item ≡ spare_of before item + 1 → SameElsewhere item before after → IsRoomier before after
roomier_one before after item values spare others = record {
  names = others.0;
  values = λ i. elim (same_or item i) [
    | inl e ↦ subst (λ n. values_of after n ≡ values_of before n) e values
    | inr ne ↦ ap (λ (x : Held). x.values) (others.1 i (λ q. ne (sym q)))
  ];
  spares = λ i. elim (same_or item i) [
    | inl e ↦ let s : spare_of after i ≡ spare_of before i + 1 = subst (λ n. spare_of after n ≡ spare_of before n + 1) e spare in omega (arith, s)
    | inr ne ↦ let s : spare_of after i ≡ spare_of before i = ap (λ (x : Held). x.spare) (others.1 i (λ q. ne (sym q))) in omega (arith, s)
  ];
}

one_at : (before after : Stored) (p : Put) (item : ℕ) (b : Bool) → (p.0 == item) ≡ b → spare_of after p.0 ≡ spare_of before p.0 + 1 → SameElsewhere p.0 before after
    → spare_of after item ≡ spare_of before item + count_by (λ q. q.0 == item) (p ∷ [])
one_at before after p item true q spare others =
    let e : p.0 ≡ item = eqb-true p.0 item q in
    let one : Put → ℕ = λ x. cond (x.0 == item) 1 0 in
    let c : sum_by one (p ∷ []) ≡ 1 = sum_by-cons one p [] ∙ ap (λ b. cond b 1 0 + 0) q in
    let s : spare_of after item ≡ spare_of before item + 1 = subst (λ n. spare_of after n ≡ spare_of before n + 1) e spare in
    omega (arith, c, s)
one_at before after p item false q spare others =
    let one : Put → ℕ = λ x. cond (x.0 == item) 1 0 in
    let c : sum_by one (p ∷ []) ≡ 0 = sum_by-cons one p [] ∙ ap (λ b. cond b 1 0 + 0) q in
    let s : spare_of after item ≡ spare_of before item = ap (λ (x : Held). x.spare) (others.1 item (λ r. eqb-false p.0 item q (sym r))) in
    omega (arith, c, s)

pub more_one : (old new : ℕ) (before after : Stored) (p : Put) → new ≡ old + 1 → spare_of after p.0 ≡ spare_of before p.0 + 1 → SameElsewhere p.0 before after → HasMore old new before after (p ∷ [])
more_one old new before after p events spare others = record {
  events = events;
  spares = λ item. one_at before after p item (p.0 == item) refl spare others;
}
