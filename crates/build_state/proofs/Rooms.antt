-- Room for what is owed, and the store, as events come.
use Rattle.std.proofs.Common.{◌≡◌, ◌≢◌, ℕ, zero, suc, ◌<◌, ◌≤◌, ◌+◌, length, set, List, [], ◌∷◌, ◌++◌, arith, Bool, true, false, ◌==◌, cond, refl, sym, ap, ◌∙◌, subst, sum_by, count_by, All}
use Rattle.std.proofs.lemmas.Bool.{eqb-true, eqb-false, eq-eqb}
use Rattle.std.proofs.lemmas.Grind.{flat_map-append}
use Rattle.std.proofs.lemmas.List.{append-nil, length-set}
use Rattle.std.proofs.lemmas.List.Elements.{All-tail, All-head}
use Rattle.std.proofs.lemmas.List.Sums.{sum_by-set, sum_by-cons}
use Rattle.item_types.specs.declared.value.Value.{Value}
use Rattle.item_store.specs.Kept.{Kept as Stored, values_of, spare_of, SameElsewhere, Held}
use Rattle.build_history.specs.declared.event.Event.{Event}
use Rattle.build_history.specs.declared.event.Event.TheVariants.{Put}
use Rattle.build_history.specs.Events.{put_in, put_of}
use Rattle.build_history.specs.Jobs.{JobView}
use Rattle.build_history.specs.Room.{Kept}
use Rattle.build_state.specs.declared.slot.Slot.{Slot}
use Rattle.build_state.specs.Marks.{no_slot, slot_at}
use Rattle.build_state.specs.Rooms.{owed, owed_at, owed_of, IsKeyed, IsSmall, HasSmallArgs, HasRoom, IsRoomier}

-- sums over slots that agree place by place are equal
pub sum_same : (f : Slot → ℕ) (xs ys : List Slot) → length xs ≡ length ys → ((i : ℕ) → f (slot_at xs i) ≡ f (slot_at ys i)) → sum_by f xs ≡ sum_by f ys
sum_same f [] [] e all = refl
sum_same f [] (y ∷ ys) e all = absurd (omega (arith, e))
sum_same f (x ∷ xs) [] e all = absurd (omega (arith, e))
sum_same f (x ∷ xs) (y ∷ ys) e all = sum_by-cons f x xs ∙ ap (λ n. n + sum_by f xs) (all 0) ∙ ap (λ n. f y + n) (sum_same f xs ys (omega (arith, e)) (λ i. all (suc i))) ∙ sym (sum_by-cons f y ys)

-- one of the terms is at most the sum
pub sum_has : (f : Slot → ℕ) (xs : List Slot) (i : ℕ) → f (slot_at xs i) ≤ sum_by f xs + f no_slot
sum_has f [] i = omega arith
sum_has f (x ∷ xs) zero = let e : sum_by f (x ∷ xs) ≡ f x + sum_by f xs = sum_by-cons f x xs in omega (arith, e)
sum_has f (x ∷ xs) (suc i) = let e : sum_by f (x ∷ xs) ≡ f x + sum_by f xs = sum_by-cons f x xs in let r : f (slot_at xs i) ≤ sum_by f xs + f no_slot = sum_has f xs i in omega (arith, e, r)

pub put_in-append : (item : ℕ) (h : List Event) (e : Event) → put_in item (h ++ e ∷ []) ≡ put_in item h ++ put_of item e
put_in-append item h e = flat_map-append (put_of item) h (e ∷ []) ∙ ap (λ z. put_in item h ++ z) (append-nil (put_of item e))

-- an event that puts nothing
abbrev pub PutsNothing : Event → Type 0
PutsNothing e = (item : ℕ) → put_of item e ≡ []

put_in-quiet : (item : ℕ) (h : List Event) (e : Event) → PutsNothing e → put_in item (h ++ e ∷ []) ≡ put_in item h
put_in-quiet item h e q = put_in-append item h e ∙ ap (λ z. put_in item h ++ z) (q item) ∙ append-nil (put_in item h)

-- the history goes on by an event that puts nothing, and the slots owe no more than it leaves room for
pub room_quiet : (job : JobView) (h h' : Kept) (e : Event) (store : Stored) (slots new : List Slot) → HasRoom job h store slots
    → h'.events ≡ h.events ++ e ∷ [] → PutsNothing e → sum_by owed new ≤ h'.spare
    → length new ≡ length slots → ((i : ℕ) → (slot_at new i).left ≡ (slot_at slots i).left)
    → ((i : ℕ) → All HasSmallArgs (slot_at new i).calls)
    → HasRoom job h' store new
room_quiet job h h' e store slots new room events quiet fits many left calls = record {
  events = fits;
  names = room.names;
  values = λ item lt. room.values item lt ∙ sym (ap (put_in item) events ∙ put_in-quiet item h.events e quiet);
  spares = λ item. subst (λ n. n ≤ spare_of store item) (sym (sum_same (owed_of item) new slots many (λ i. ap (λ l. count_by (λ (p : ℕ × Value). p.0 == item) l) (left i)))) (room.spares item);
  keyed = λ s. subst (All (IsKeyed job.names)) (sym (left s)) (room.keyed s);
  small = λ s. subst (All IsSmall) (sym (left s)) (room.small s);
  calls = calls;
}

-- what holds of each slot and of the new one holds after the write
pub slots_set : (P : Slot → Type 0) (slots : List Slot) (s : ℕ) (t : Slot) → s < length slots → ((i : ℕ) → P (slot_at slots i)) → P t → (i : ℕ) → P (slot_at (set slots s t) i)
slots_set P [] s t lt all p i = absurd (omega (arith, lt))
slots_set P (x ∷ slots) zero t lt all p zero = p
slots_set P (x ∷ slots) zero t lt all p (suc i) = all (suc i)
slots_set P (x ∷ slots) (suc s) t lt all p zero = all zero
slots_set P (x ∷ slots) (suc s) t lt all p (suc i) = slots_set P slots s t (omega (arith, lt)) (λ j. all (suc j)) p i

pub left_set : (slots : List Slot) (s : ℕ) (t : Slot) → s < length slots → t.left ≡ (slot_at slots s).left → (i : ℕ) → (slot_at (set slots s t) i).left ≡ (slot_at slots i).left
left_set [] s t lt e i = absurd (omega (arith, lt))
left_set (x ∷ slots) zero t lt e zero = e
left_set (x ∷ slots) zero t lt e (suc i) = refl
left_set (x ∷ slots) (suc s) t lt e zero = refl
left_set (x ∷ slots) (suc s) t lt e (suc i) = left_set slots s t (omega (arith, lt)) e i

-- one slot changes, but not its puts, and owes no more than before
pub room_event : (job : JobView) (h h' : Kept) (e : Event) (store : Stored) (slots : List Slot) (s : ℕ) (t t' : Slot) → HasRoom job h store slots → s < length slots → slot_at slots s ≡ t
    → h'.events ≡ h.events ++ e ∷ [] → PutsNothing e → h.spare + owed t' ≤ h'.spare + owed t
    → t'.left ≡ t.left → All HasSmallArgs t'.calls
    → HasRoom job h' store (set slots s t')
room_event job h h' e store slots s t t' room lt slot events quiet fits left calls =
    let e1 : sum_by owed (set slots s t') + owed (slot_at slots s) ≡ sum_by owed slots + owed t' = sum_by-set owed slots s t' no_slot lt in
    let e2 : owed (slot_at slots s) ≡ owed t = ap owed slot in
    let r : sum_by owed slots ≤ h.spare = room.events in
    room_quiet job h h' e store slots (set slots s t') room events quiet (omega (arith, e1, e2, r, fits)) (length-set slots s t')
    (left_set slots s t' lt (left ∙ ap (λ (x : Slot). x.left) (sym slot)))
    (slots_set (λ x. All HasSmallArgs x.calls) slots s t' lt room.calls calls)

count-cons : (item : ℕ) (p : ℕ × Value) (rest : List (ℕ × Value)) → count_by (λ (q : ℕ × Value). q.0 == item) (p ∷ rest) ≡ cond (p.0 == item) 1 0 + count_by (λ (q : ℕ × Value). q.0 == item) rest
count-cons item p rest = sum_by-cons (λ (q : ℕ × Value). cond (q.0 == item) 1 0) p rest

-- one put less is owed of its item, and as many of the others
spares_put : (store store' : Stored) (item : ℕ) (p : ℕ × Value) (b : Bool) → (p.0 == item) ≡ b → (new was old now left : ℕ) → new + was ≡ old + now → was ≡ cond b 1 0 + left → now ≡ left → old ≤ spare_of store item
    → spare_of store' p.0 + 1 ≡ spare_of store p.0 → SameElsewhere p.0 store store' → new ≤ spare_of store' item
spares_put store store' item p true q new was old now left e1 e2 e3 r spares others =
    let same : p.0 ≡ item = eqb-true p.0 item q in
    let one : spare_of store' item + 1 ≡ spare_of store item = subst (λ n. spare_of store' n + 1 ≡ spare_of store n) same spares in
    omega (arith, e1, e2, e3, r, one)
spares_put store store' item p false q new was old now left e1 e2 e3 r spares others =
    let ne : item ≢ p.0 = λ x. eqb-false p.0 item q (sym x) in
    let one : spare_of store' item ≡ spare_of store item = ap (λ (x : Held). x.spare) (others.1 item ne) in
    omega (arith, e1, e2, e3, r, one)

-- the next put of a step
pub room_put : (job : JobView) (h h' : Kept) (store store' : Stored) (slots : List Slot) (s : ℕ) (t t' : Slot) (p : ℕ × Value) (rest : List (ℕ × Value))
    → HasRoom job h store slots → s < length slots → slot_at slots s ≡ t → t.left ≡ p ∷ rest → t'.left ≡ rest → t'.mark ≡ t.mark → t'.calls ≡ t.calls
    → h'.events ≡ h.events ++ Put s p.0 p.1 ∷ [] → h'.spare + 1 ≡ h.spare
    → values_of store' p.0 ≡ values_of store p.0 ++ p.1 ∷ [] → spare_of store' p.0 + 1 ≡ spare_of store p.0 → SameElsewhere p.0 store store'
    → HasRoom job h' store' (set slots s t')
room_put job h h' store store' slots s t t' p rest room lt slot left left' mark calls events spare values spares others = record {
  events =
      let e1 : sum_by owed (set slots s t') + owed (slot_at slots s) ≡ sum_by owed slots + owed t' = sum_by-set owed slots s t' no_slot lt in
      let e2 : owed (slot_at slots s) ≡ owed t = ap owed slot in
      let e3 : length t.left ≡ suc (length rest) = ap length left in
      let e4 : length t'.left ≡ length rest = ap length left' in
      let e5 : owed_at t'.mark ≡ owed_at t.mark = ap owed_at mark in
      let r : sum_by owed slots ≤ h.spare = room.events in
      omega (arith, e1, e2, e3, e4, e5, r, spare);
  names = others.0 ∙ room.names;
  values = λ item il. values_at item il (p.0 == item) refl;
  spares = λ item. spares_at item (p.0 == item) refl;
  keyed = slots_set (λ x. All (IsKeyed job.names) x.left) slots s t' lt room.keyed
      (subst (All (IsKeyed job.names)) (sym left') (All-tail (IsKeyed job.names) p rest (subst (All (IsKeyed job.names)) (ap (λ (x : Slot). x.left) slot ∙ left) (room.keyed s))));
  small = slots_set (λ x. All IsSmall x.left) slots s t' lt room.small
      (subst (All IsSmall) (sym left') (All-tail IsSmall p rest (subst (All IsSmall) (ap (λ (x : Slot). x.left) slot ∙ left) (room.small s))));
  calls = slots_set (λ x. All HasSmallArgs x.calls) slots s t' lt room.calls
      (subst (All HasSmallArgs) (ap (λ (x : Slot). x.calls) slot ∙ sym calls) (room.calls s));
} where
  values_at : (item : ℕ) → item < length job.names.items → (b : Bool) → (p.0 == item) ≡ b → values_of store' item ≡ put_in item h'.events
  values_at item il true q =
      let same : p.0 ≡ item = eqb-true p.0 item q in
      let new : values_of store' item ≡ values_of store item ++ p.1 ∷ [] = subst (λ n. values_of store' n ≡ values_of store n ++ p.1 ∷ []) same values in
      new ∙ ap (λ z. z ++ p.1 ∷ []) (room.values item il) ∙ ap (λ b. put_in item h.events ++ cond b (p.1 ∷ []) []) (sym q) ∙ sym (put_in-append item h.events (Put s p.0 p.1)) ∙ ap (put_in item) (sym events)
  values_at item il false q =
      let ne : item ≢ p.0 = λ r. eqb-false p.0 item q (sym r) in
      ap (λ (x : Held). x.values) (others.1 item ne) ∙ room.values item il ∙ sym (append-nil (put_in item h.events)) ∙ ap (λ b. put_in item h.events ++ cond b (p.1 ∷ []) []) (sym q) ∙ sym (put_in-append item h.events (Put s p.0 p.1)) ∙ ap (put_in item) (sym events)

  spares_at : (item : ℕ) (b : Bool) → (p.0 == item) ≡ b → sum_by (owed_of item) (set slots s t') ≤ spare_of store' item
  spares_at item b q =
      let e1 : sum_by (owed_of item) (set slots s t') + owed_of item (slot_at slots s) ≡ sum_by (owed_of item) slots + owed_of item t' = sum_by-set (owed_of item) slots s t' no_slot lt in
      let e2 : owed_of item (slot_at slots s) ≡ cond b 1 0 + count_by (λ (z : ℕ × Value). z.0 == item) rest = ap (owed_of item) slot ∙ ap (count_by (λ (z : ℕ × Value). z.0 == item)) left ∙ count-cons item p rest ∙ ap (λ c. cond c 1 0 + count_by (λ (z : ℕ × Value). z.0 == item) rest) q in
      let e3 : owed_of item t' ≡ count_by (λ (z : ℕ × Value). z.0 == item) rest = ap (count_by (λ (z : ℕ × Value). z.0 == item)) left' in
      spares_put store store' item p b q (sum_by (owed_of item) (set slots s t')) (owed_of item (slot_at slots s)) (sum_by (owed_of item) slots) (owed_of item t') (count_by (λ (z : ℕ × Value). z.0 == item) rest) e1 e2 e3 (room.spares item) spares others

-- room for one more event, where one is owed
pub room_for : (job : JobView) (h : Kept) (store : Stored) (slots : List Slot) (s : ℕ) → HasRoom job h store slots → 1 ≤ owed (slot_at slots s) → 1 ≤ h.spare
room_for job h store slots s room one =
    let a : owed (slot_at slots s) ≤ sum_by owed slots + 0 = sum_has owed slots s in
    let r : sum_by owed slots ≤ h.spare = room.events in
    omega (arith, a, r, one)

-- room for one more value of the item, where one is owed
pub room_of : (job : JobView) (h : Kept) (store : Stored) (slots : List Slot) (s item : ℕ) → HasRoom job h store slots → 1 ≤ owed_of item (slot_at slots s) → 1 ≤ spare_of store item
room_of job h store slots s item room one =
    let a : owed_of item (slot_at slots s) ≤ sum_by (owed_of item) slots + 0 = sum_has (owed_of item) slots s in
    let r : sum_by (owed_of item) slots ≤ spare_of store item = room.spares item in
    omega (arith, a, r, one)

pub owes_head : (t : Slot) (p : ℕ × Value) (rest : List (ℕ × Value)) → t.left ≡ p ∷ rest → (1 ≤ owed t) × (1 ≤ owed_of p.0 t)
owes_head t p rest left =
    let a : length t.left ≡ suc (length rest) = ap length left in
    let b : owed_of p.0 t ≡ 1 + count_by (λ (z : ℕ × Value). z.0 == p.0) rest = ap (count_by (λ (z : ℕ × Value). z.0 == p.0)) left ∙ count-cons p.0 p rest ∙ ap (λ c. cond c 1 0 + count_by (λ (z : ℕ × Value). z.0 == p.0) rest) (eq-eqb p.0 p.0 refl) in
    (omega (arith, a), omega (arith, b))

-- the head of what is left can be put
pub head_keyed : (job : JobView) (h : Kept) (store : Stored) (slots : List Slot) (s : ℕ) (p : ℕ × Value) (rest : List (ℕ × Value)) → HasRoom job h store slots → (slot_at slots s).left ≡ p ∷ rest → IsKeyed job.names p × IsSmall p
head_keyed job h store slots s p rest room left = (
  All-head (IsKeyed job.names) p rest (subst (All (IsKeyed job.names)) left (room.keyed s)),
  All-head IsSmall p rest (subst (All IsSmall) left (room.small s)),
)

-- there is more room
pub room_more : (job : JobView) (h h' : Kept) (store store' : Stored) (slots : List Slot) → HasRoom job h store slots → h'.events ≡ h.events → h.spare ≤ h'.spare → IsRoomier store store' → HasRoom job h' store' slots
room_more job h h' store store' slots room events spare more = record {
  events = (let r : sum_by owed slots ≤ h.spare = room.events in omega (arith, r, spare));
  names = more.names ∙ room.names;
  values = λ item lt. more.values item ∙ room.values item lt ∙ ap (put_in item) (sym events);
  spares = λ item. (let r : sum_by (owed_of item) slots ≤ spare_of store item = room.spares item in let m : spare_of store item ≤ spare_of store' item = more.spares item in omega (arith, r, m));
  keyed = room.keyed;
  small = room.small;
  calls = room.calls;
}

-- a slot that owed nothing owes what room was made for
pub room_hand : (job : JobView) (h h' : Kept) (store store' : Stored) (slots : List Slot) (s : ℕ) (t' : Slot) → HasRoom job h store slots → s < length slots
    → h'.events ≡ h.events → h'.spare ≡ h.spare + owed t' → IsRoomier store store' → ((item : ℕ) → spare_of store' item ≡ spare_of store item + owed_of item t')
    → All (IsKeyed job.names) t'.left → All IsSmall t'.left → All HasSmallArgs t'.calls
    → HasRoom job h' store' (set slots s t')
room_hand job h h' store store' slots s t' room lt events spare more spares keyed small calls = record {
  events =
      let e : sum_by owed (set slots s t') + owed (slot_at slots s) ≡ sum_by owed slots + owed t' = sum_by-set owed slots s t' no_slot lt in
      let r : sum_by owed slots ≤ h.spare = room.events in
      omega (arith, e, r, spare);
  names = more.names ∙ room.names;
  values = λ item il. more.values item ∙ room.values item il ∙ ap (put_in item) (sym events);
  spares = λ item.
      let e : sum_by (owed_of item) (set slots s t') + owed_of item (slot_at slots s) ≡ sum_by (owed_of item) slots + owed_of item t' = sum_by-set (owed_of item) slots s t' no_slot lt in
      let r : sum_by (owed_of item) slots ≤ spare_of store item = room.spares item in
      let m : spare_of store' item ≡ spare_of store item + owed_of item t' = spares item in
      omega (arith, e, r, m);
  keyed = slots_set (λ x. All (IsKeyed job.names) x.left) slots s t' lt room.keyed keyed;
  small = slots_set (λ x. All IsSmall x.left) slots s t' lt room.small small;
  calls = slots_set (λ x. All HasSmallArgs x.calls) slots s t' lt room.calls calls;
}
