-- Before anything has happened.
use Rattle.std.proofs.Common.{◌≡◌, ◌↔◌, ℕ, zero, suc, ◌<◌, ◌+◌, length, get_or, take, List, [], ◌∷◌, ◌++◌, arith, refl, sym, ap, ◌∙◌, subst, sum_by, All, Contains, ◌⊎◌, inl, inr, Bool}
use Rattle.std.proofs.lemmas.Bool.{cases_lt}
use Rattle.std.proofs.lemmas.List.{get_or_default, get_or_append_left, get_or_push, length_push, take_more}
use Rattle.std.proofs.lemmas.List.Elements.{All-nil, Contains-append_cases, Contains-append_left, Contains-append_right}
use Rattle.std.proofs.lemmas.List.Sums.{sum_by-cons}
use Rattle.item_store.specs.Kept.{Kept as Stored, held_of, nothing, Held}
use Rattle.dep_counter.proofs.CallerLemmas.{in_none, in_head}
use Rattle.dep_counter.proofs.CallerLemmas.{decide}
use Rattle.build_history.specs.Events.{put_in}
use Rattle.build_history.specs.Jobs.{JobView, Precedes}
use Rattle.build_history.specs.Room.{Kept}
use Rattle.build_history.proofs.CallerLemmas.{run_nil}
use Rattle.build_state.specs.declared.mark.Mark.{Mark}
use Rattle.build_state.specs.declared.mark.Mark.TheVariants.{Unneeded, Waiting, Released, Taking, Ready, Putting, Failing, Ended, Failed}
use Rattle.build_state.specs.declared.slot.Slot.{Slot}
use Rattle.build_state.specs.Marks.{no_slot, slot_at, HasWaited, AtMark, IsState}
use Rattle.step_set.specs.Members.{Has}
use Rattle.build_state.specs.Parts.{IsFirst, IsOpen, AreOpen, AreReleased, IsNoted}
use Rattle.build_state.specs.Rooms.{owed, owed_at, owed_of, IsKeyed, IsSmall, HasSmallArgs, HasRoom}

pub waits_for_none : (job : JobView) (s : ℕ) (into : List ℕ) → ((p : ℕ) → Contains into p ↔ Precedes job p s) → into ≡ [] → HasWaited job s []
waits_for_none job s into exact none p q = absurd (in_none p (subst (λ l. Contains l p) none ((exact p).1 q)))

pub waits_for_some : (job : JobView) (s p : ℕ) (into : List ℕ) → ((p : ℕ) → Contains into p ↔ Precedes job p s) → Contains into p → HasWaited job s [] → ⊥
waits_for_some job s p into exact some w = in_none p (w p ((exact p).0 some))

-- an opening slot stands where it should
open_at : (job : JobView) (s : ℕ) (t : Slot) (m : Mark) → t ≡ record no_slot { mark = m } → IsFirst job s m → AtMark job s t [] m
open_at job s t Unneeded e f = (f, ap (λ (x : Slot). x.left) e)
open_at job s t Waiting e f = (record { needed = f.0; events = refl; inputs = ap (λ (x : Slot). x.inputs.lists) e; left = ap (λ (x : Slot). x.left) e }, f.1)
open_at job s t Released e f = (record { needed = f.0; events = refl; inputs = ap (λ (x : Slot). x.inputs.lists) e; left = ap (λ (x : Slot). x.left) e }, f.1)
open_at job s t Taking e f = absurd f
open_at job s t Ready e f = absurd f
open_at job s t Putting e f = absurd f
open_at job s t Failing e f = absurd f
open_at job s t Ended e f = absurd f
open_at job s t Failed e f = absurd f

pub open_state : (job : JobView) (slots : List Slot) → AreOpen job (length job.plan.steps) slots → IsState job [] slots
open_state job slots are = record {
  many = are.many;
  run = run_nil job;
  each = λ s lt. let o = are.each s lt in open_at job s (slot_at slots s) (slot_at slots s).mark o.empty o.first;
}

not_failing : (job : JobView) (s : ℕ) (m : Mark) → IsFirst job s m → owed_at m ≡ 0
not_failing job s Unneeded f = refl
not_failing job s Waiting f = refl
not_failing job s Released f = refl
not_failing job s Taking f = absurd f
not_failing job s Ready f = absurd f
not_failing job s Putting f = absurd f
not_failing job s Failing f = absurd f
not_failing job s Ended f = absurd f
not_failing job s Failed f = absurd f

sum_zero : (f : Slot → ℕ) (xs : List Slot) → ((i : ℕ) → i < length xs → f (slot_at xs i) ≡ 0) → sum_by f xs ≡ 0
sum_zero f [] all = refl
sum_zero f (x ∷ xs) all =
    let a : f x ≡ 0 = all 0 (omega arith) in
    let b : sum_by f xs ≡ 0 = sum_zero f xs (λ i lt. all (suc i) (omega (arith, lt))) in
    let e : sum_by f (x ∷ xs) ≡ f x + sum_by f xs = sum_by-cons f x xs in
    omega (arith, a, b, e)

-- what holds of an empty slot, at each place
past : (P : Slot → Type 0) (xs : List Slot) → P no_slot → ((i : ℕ) → i < length xs → P (slot_at xs i)) → (i : ℕ) → P (slot_at xs i)
past P [] n all i = n
past P (x ∷ xs) n all zero = all 0 (omega arith)
past P (x ∷ xs) n all (suc i) = past P xs n (λ j lt. all (suc j) (omega (arith, lt))) i

pub open_room : (job : JobView) (h : Kept) (store : Stored) (slots : List Slot) → AreOpen job (length job.plan.steps) slots
    → h.events ≡ [] → store.names ≡ job.names → ((item : ℕ) → held_of store item ≡ nothing) → HasRoom job h store slots
open_room job h store slots are none names empty = record {
  events =
      let z : sum_by owed slots ≡ 0 = sum_zero owed slots (λ i lt.
      let o = are.each i (omega (arith, lt, are.many)) in
      let l : length (slot_at slots i).left ≡ 0 = ap (λ (x : Slot). length x.left) o.empty in
      let m : owed_at (slot_at slots i).mark ≡ 0 = not_failing job i (slot_at slots i).mark o.first in
      omega (arith, l, m)) in
      omega (arith, z);
  names = names;
  values = λ item lt. ap (λ (x : Held). x.values) (empty item) ∙ sym (ap (put_in item) none);
  spares = λ item.
      let z : sum_by (owed_of item) slots ≡ 0 = sum_zero (owed_of item) slots (λ i lt.
      let o = are.each i (omega (arith, lt, are.many)) in ap (λ (x : Slot). owed_of item x) o.empty) in
      omega (arith, z);
  keyed = past (λ x. All (IsKeyed job.names) x.left) slots (All-nil (IsKeyed job.names)) (λ i lt.
      subst (All (IsKeyed job.names)) (sym (ap (λ (x : Slot). x.left) (are.each i (omega (arith, lt, are.many))).empty)) (All-nil (IsKeyed job.names)));
  small = past (λ x. All IsSmall x.left) slots (All-nil IsSmall) (λ i lt.
      subst (All IsSmall) (sym (ap (λ (x : Slot). x.left) (are.each i (omega (arith, lt, are.many))).empty)) (All-nil IsSmall));
  calls = past (λ x. All HasSmallArgs x.calls) slots (All-nil HasSmallArgs) (λ i lt.
      subst (All HasSmallArgs) (sym (ap (λ (x : Slot). x.calls) (are.each i (omega (arith, lt, are.many))).empty)) (All-nil HasSmallArgs));
}

-- by the number of edges
pub none_into : (job : JobView) (s : ℕ) (into : List ℕ) → ((p : ℕ) → Contains into p ↔ Precedes job p s) → length into ≡ 0 → HasWaited job s []
none_into job s [] exact z = waits_for_none job s [] exact refl
none_into job s (x ∷ into) exact z = absurd (omega (arith, z))

pub some_into : (job : JobView) (s : ℕ) (into : List ℕ) → ((p : ℕ) → Contains into p ↔ Precedes job p s) → (length into ≡ 0 → ⊥) → HasWaited job s [] → ⊥
some_into job s [] exact n w = n refl
some_into job s (x ∷ into) exact n w = waits_for_some job s x (x ∷ into) exact (in_head x into) w

-- one slot more
pub open_more : (job : JobView) (n : ℕ) (slots new : List Slot) (t : Slot) → AreOpen job n slots → t ≡ record no_slot { mark = t.mark } → IsFirst job n t.mark → new ≡ slots ++ t ∷ [] → AreOpen job (n + 1) new
open_more job n slots new t are empty first is =
    let P : List Slot → Type 0 = λ l. AreOpen job (n + 1) l in
    subst P (sym is) (record {
      many = length_push slots t ∙ ap (λ k. k + 1) are.many;
      each = λ s lt. elim (cases_lt s n) [
        | inl l ↦ subst (IsOpen job s) (sym (get_or_append_left slots (t ∷ []) no_slot s (omega (arith, l, are.many)))) (are.each s l)
        | inr l ↦ let e : s ≡ n = omega (arith, l, lt) in
            let at : slot_at (slots ++ t ∷ []) s ≡ t = get_or_push slots t no_slot s (omega (arith, e, are.many)) in
            subst (IsOpen job s) (sym at) (record { empty = empty; first = subst (λ k. IsFirst job k t.mark) (sym e) first })
      ];
    })

pub open_none : (job : JobView) → AreOpen job 0 []
open_none job = record { many = refl; each = λ s lt. absurd (omega (arith, lt)) }

is_released : (m : Mark) → (m ≡ Released) ⊎ (m ≡ Released → ⊥)
is_released Unneeded = inr (λ q. cc q)
is_released Waiting = inr (λ q. cc q)
is_released Released = inl refl
is_released Taking = inr (λ q. cc q)
is_released Ready = inr (λ q. cc q)
is_released Putting = inr (λ q. cc q)
is_released Failing = inr (λ q. cc q)
is_released Ended = inr (λ q. cc q)
is_released Failed = inr (λ q. cc q)

noted_at : (slots : List Slot) (k : ℕ) (old new : List Bool) (m : Mark) → (slot_at slots k).mark ≡ m
    → ((i : ℕ) → Has old i ↔ ((i < k) × ((slot_at slots i).mark ≡ Released))) → IsNoted (slot_at slots k).mark k old new
    → (i : ℕ) → Has new i ↔ ((i < k + 1) × ((slot_at slots i).mark ≡ Released))
noted_at slots k old new m q before noted i = elim (is_released (slot_at slots k).mark) [
  | inl r ↦ (
    λ c. elim ((noted.released r i).0 c) [
      | inl o ↦ let w = (before i).0 o in let l : i < k = w.0 in (omega (arith, l), w.1)
      | inr e ↦ (omega (arith, e), ap (λ n. (slot_at slots n).mark) e ∙ r)
    ],
    λ w. elim (cases_lt i k) [
      | inl l ↦ (noted.released r i).1 (inl ((before i).1 (l, w.1)))
      | inr l ↦ let u : i < k + 1 = w.0 in (noted.released r i).1 (inr (omega (arith, l, u)))
    ],
  )
  | inr n ↦ (
    λ c. let w = (before i).0 (subst (λ l. Has l i) (noted.others n) c) in let l : i < k = w.0 in (omega (arith, l), w.1),
    λ w. elim (cases_lt i k) [
      | inl l ↦ subst (λ x. Has x i) (sym (noted.others n)) ((before i).1 (l, w.1))
      | inr l ↦ let u : i < k + 1 = w.0 in let e : i ≡ k = omega (arith, l, u) in absurd (n (ap (λ j. (slot_at slots j).mark) (sym e) ∙ w.1))
    ],
  )
]

-- one step more is looked at
pub noted_more : (slots : List Slot) (k : ℕ) (t : Slot) (old new : List Bool) → k < length slots
    → ((i : ℕ) → Has old i ↔ ((i < k) × ((slot_at slots i).mark ≡ Released))) → IsNoted (get_or slots k t).mark k old new
    → (i : ℕ) → Has new i ↔ ((i < k + 1) × ((slot_at slots i).mark ≡ Released))
noted_more slots k t old new lt before noted = noted_at slots k old new (slot_at slots k).mark refl before (subst (λ (u : Slot). IsNoted u.mark k old new) (get_or_default slots k t no_slot lt) noted)

pub release_none : (slots : List Slot) → AreReleased [] slots slots
release_none slots = record { many = refl; those = λ i il c. absurd (in_none i c); others = λ i il c. refl }

pub release_more : (done : List ℕ) (d : ℕ) (old mid new : List Slot) → AreReleased done old mid → AreReleased (d ∷ []) mid new → AreReleased (done ++ d ∷ []) old new
release_more done d old mid new one two = record {
  many = two.many ∙ one.many;
  those = λ i il c. elim (decide (d ∷ []) i) [
    | inl r ↦ two.those i (omega (arith, il, one.many)) r ∙ (elim (decide done i) [
      | inl l ↦ ap (λ (x : Slot). record x { mark = Released }) (one.those i il l)
      | inr n ↦ ap (λ (x : Slot). record x { mark = Released }) (one.others i il n)
    ])
    | inr n ↦ two.others i (omega (arith, il, one.many)) n ∙ one.those i il (elim (Contains-append_cases done (d ∷ []) i c) [ inl l ↦ l | inr r ↦ absurd (n r) ])
  ];
  others = λ i il c. two.others i (omega (arith, il, one.many)) (λ r. c (Contains-append_right done (d ∷ []) i r)) ∙ one.others i il (λ l. c (Contains-append_left done (d ∷ []) i l));
}

pub release_turn : (steps : List ℕ) (i : ℕ) (old mid new : List Slot) → i < length steps → AreReleased (take i steps) old mid → AreReleased (get_or steps i 0 ∷ []) mid new → AreReleased (take (i + 1) steps) old new
release_turn steps i old mid new lt one two = subst (λ l. AreReleased l old new) (sym (take_more steps i 0 lt)) (release_more (take i steps) (get_or steps i 0) old mid new one two)
