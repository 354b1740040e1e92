-- Histories that go on in turn, and least-first.
use Rattle.std.proofs.Common.{◌≡◌, ◌≢◌, ℕ, ◌<◌, length, length-append, List, [], ◌∷◌, ◌++◌, Contains, All, arith, sym, ap, ◌∙◌, subst, append_assoc, inl, inr}
use Rattle.std.proofs.lemmas.Bool.{eq-eqb, ne_eqb}
use Rattle.std.proofs.lemmas.List.{append-nil}
use Rattle.std.proofs.lemmas.List.Elements.{All-head, All-tail, Contains-append_left}
use Rattle.std.proofs.lemmas.Grind.{flat_map-append}
use Rattle.build_history.specs.declared.event.Event.{Event}
use Rattle.build_history.specs.declared.event.Event.TheVariants.{Start}
use Rattle.build_history.specs.Events.{step_of, events_of, ended, end_of}
use Rattle.build_history.specs.Jobs.{JobView}
use Rattle.build_history.specs.Kinds.{MayStart, IsLeastFirst}
use Rattle.build_history.proofs.CallerLemmas.{snoc_split, nowhere, events_of-same, events_of-other}
use Rattle.build_state.specs.Going.{IsLaterOf}
use Rattle.build_state.specs.Turns.{IsOver, IsTurn, GoesInTurn}

pub ended_on : (h new : List Event) (i : ℕ) → Contains (ended h) i → Contains (ended (h ++ new)) i
ended_on h new i c = subst (λ l. Contains l i) (sym (flat_map-append end_of h new)) (Contains-append_left (ended h) (ended new) i c)

other_event : (h : List Event) (e : Event) (i : ℕ) → i ≢ step_of e → events_of i (h ++ e ∷ []) ≡ events_of i h
other_event h e i ne = events_of-other i h e (ne_eqb (step_of e) i (λ r. ne (sym r)))

-- who was over stays over, whoever else goes on
over_on : (h : List Event) (e : Event) (i : ℕ) → i ≢ step_of e → IsOver h i → IsOver (h ++ e ∷ []) i
over_on h e i ne over some = ended_on h (e ∷ []) i (over (λ z. some (other_event h e i ne ∙ z)))

some_snoc : {X : Type 0} (xs : List X) (x : X) → xs ++ x ∷ [] ≡ [] → ⊥
some_snoc [] x q = cc
some_snoc (y ∷ xs) x q = cc

pub own_event : (h : List Event) (e : Event) (s : ℕ) → step_of e ≡ s → events_of s (h ++ e ∷ []) ≢ []
own_event h e s of z = some_snoc (events_of s h) e (sym (events_of-same s h e (eq-eqb (step_of e) s of)) ∙ z)

pub turn_nil : (job : JobView) (h : List Event) → GoesInTurn job h h
turn_nil job h g k e q = absurd (omega (arith, ap length q, length-append (h ++ g) (e ∷ k), length-append h g))

pub turn_snoc : (job : JobView) (a h : List Event) (e : Event) → GoesInTurn job a h → IsTurn job h (step_of e) → GoesInTurn job a (h ++ e ∷ [])
turn_snoc job a h e before turn g k x q = elim (snoc_split h e (a ++ g) x k q) [
  | inl w ↦ let P : List Event → Type 0 = λ l. IsTurn job l (step_of x) in
      let Q : Event → Type 0 = λ y. IsTurn job h (step_of y) in
      subst P w.1 (subst Q w.2 turn)
  | inr w ↦ before g w.0 x w.2
]

turn_head : (job : JobView) (h : List Event) (e : Event) (y : List Event) → GoesInTurn job h (h ++ e ∷ y) → IsTurn job h (step_of e)
turn_head job h e y all =
    let P : List Event → Type 0 = λ l. IsTurn job l (step_of e) in
    subst P (append-nil h) (all [] y e (ap (λ l. l ++ e ∷ y) (sym (append-nil h))))

turn_tail : (job : JobView) (h : List Event) (e : Event) (y : List Event) → GoesInTurn job h (h ++ e ∷ y) → GoesInTurn job (h ++ e ∷ []) ((h ++ e ∷ []) ++ y)
turn_tail job h e y all g k x q =
    let P : List Event → Type 0 = λ l. IsTurn job l (step_of x) in
    let one : (h ++ e ∷ []) ++ g ≡ h ++ e ∷ g = append_assoc h (e ∷ []) g in
    let whole : h ++ e ∷ y ≡ (h ++ e ∷ g) ++ x ∷ k = sym (append_assoc h (e ∷ []) y) ∙ q ∙ ap (λ l. l ++ x ∷ k) one in
    subst P (sym one) (all (e ∷ g) k x whole)

-- what goes on in turn twice goes on in turn
pub turn_trans : (job : JobView) (a h y : List Event) → GoesInTurn job a h → GoesInTurn job h (h ++ y) → GoesInTurn job a (h ++ y)
turn_trans job a h [] p q = subst (GoesInTurn job a) (sym (append-nil h)) p
turn_trans job a h (e ∷ y) p q =
    subst (GoesInTurn job a) (append_assoc h (e ∷ []) y) (turn_trans job a (h ++ e ∷ []) y (turn_snoc job a h e p (turn_head job h e y q)) (turn_tail job h e y q))

-- later events of a step that has started, where each lesser one that has started has ended
pub turn_later : (job : JobView) (a h : List Event) (s : ℕ) (new : List Event) → GoesInTurn job a h → events_of s h ≢ [] → ((i : ℕ) → i < s → IsOver h i)
    → All (IsLaterOf s) new → GoesInTurn job a (h ++ new)
turn_later job a h s [] p some over later = subst (GoesInTurn job a) (sym (append-nil h)) p
turn_later job a h s (e ∷ new) p some over later =
    let one = All-head (IsLaterOf s) e new later in
    let P : ℕ → Type 0 = λ n. IsTurn job h n in
    let turn : IsTurn job h (step_of e) = subst P (sym one.of) (inl (some, over)) in
    let over2 : (i : ℕ) → i < s → IsOver (h ++ e ∷ []) i = λ i lt. over_on h e i (λ r. absurd (let q : i ≡ s = r ∙ one.of in omega (arith, q, lt))) (over i lt) in
    subst (GoesInTurn job a) (append_assoc h (e ∷ []) new)
    (turn_later job a (h ++ e ∷ []) s new (turn_snoc job a h e p turn) (own_event h e s one.of) over2 (All-tail (IsLaterOf s) e new later))

-- later events keep a history least-first, where each other step is over
least_on : (job : JobView) (h : List Event) (e : Event) → IsLeastFirst job h → ((i : ℕ) → i ≢ step_of e → IsOver h i) → ((r : ℕ) → e ≢ Start r) → IsLeastFirst job (h ++ e ∷ [])
least_on job h e lf over no_start = record {
  alone = λ g k x i q ne some. elim (snoc_split h e g x k q) [
    | inl w ↦ let P : List Event → Type 0 = λ l. IsOver l i in
        subst P w.1 (over i (λ r. ne (r ∙ ap step_of w.2))) some
    | inr w ↦ lf.alone g w.0 x i w.2 ne some
  ];
  least = λ g k s p q lt may. elim (snoc_split h e g (Start s) k q) [
    | inl w ↦ no_start s w.2
    | inr w ↦ lf.least g w.0 s p w.2 lt may
  ];
}

-- a start of the least step that may start, where each step is over
pub least_start : (job : JobView) (h : List Event) (s : ℕ) → IsLeastFirst job h → ((i : ℕ) → IsOver h i) → ((p : ℕ) → p < s → MayStart job h p → ⊥) → IsLeastFirst job (h ++ Start s ∷ [])
least_start job h s lf over least = record {
  alone = λ g k x i q ne some. elim (snoc_split h (Start s) g x k q) [
    | inl w ↦ let P : List Event → Type 0 = λ l. IsOver l i in
        subst P w.1 (over i) some
    | inr w ↦ lf.alone g w.0 x i w.2 ne some
  ];
  least = λ g k r p q lt may. elim (snoc_split h (Start s) g (Start r) k q) [
    | inl w ↦ let same : s ≡ r = ap step_of w.2 in
        let P : List Event → Type 0 = λ l. MayStart job l p in
        least p (omega (arith, lt, same)) (subst P (sym w.1) may)
    | inr w ↦ lf.least g w.0 r p w.2 lt may
  ];
}

pub least_nil : (job : JobView) → IsLeastFirst job []
least_nil job = record { alone = λ g k e s q ne some. absurd (nowhere g k e q); least = λ g k s p q lt may. nowhere g k (Start s) q }

-- later events of one step, where each other step is over
pub least_later : (job : JobView) (h : List Event) (s : ℕ) (new : List Event) → IsLeastFirst job h → ((i : ℕ) → i ≢ s → IsOver h i) → All (IsLaterOf s) new → IsLeastFirst job (h ++ new)
least_later job h s [] lf over later = subst (IsLeastFirst job) (sym (append-nil h)) lf
least_later job h s (e ∷ new) lf over later =
    let one = All-head (IsLaterOf s) e new later in
    let lf2 : IsLeastFirst job (h ++ e ∷ []) = least_on job h e lf (λ i ne. over i (λ r. ne (r ∙ sym one.of))) one.no_start in
    let over2 : (i : ℕ) → i ≢ s → IsOver (h ++ e ∷ []) i = λ i ne. over_on h e i (λ r. ne (r ∙ one.of)) (over i ne) in
    subst (IsLeastFirst job) (append_assoc h (e ∷ []) new) (least_later job (h ++ e ∷ []) s new lf2 over2 (All-tail (IsLaterOf s) e new later))

-- after a start, each other step is over still
pub over_start : (h : List Event) (s : ℕ) → ((i : ℕ) → IsOver h i) → (i : ℕ) → i ≢ s → IsOver (h ++ Start s ∷ []) i
over_start h s over i ne = over_on h (Start s) i ne (over i)
