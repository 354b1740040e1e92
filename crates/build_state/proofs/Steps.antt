-- A state goes on by one event.
use Rattle.std.proofs.Common.{◌≡◌, ℕ, ◌<◌, length, get_or, set, Contains, List, [], ◌∷◌, ◌++◌, arith, Bool, true, false, ◌||◌, ◌==◌, refl, sym, ap, ◌∙◌, subst}
use Rattle.std.proofs.lemmas.Bool.{eqb-true, eqb-false}
use Rattle.std.proofs.lemmas.Grind.{flat_map-append}
use Rattle.std.proofs.lemmas.List.{append-nil, length-set, get_or-set_same, get_or-set_other, get_or_read}
use Rattle.std.proofs.lemmas.List.Elements.{Contains-append_left}
use Rattle.build_history.specs.declared.event.Event.{Event}
use Rattle.build_history.specs.Events.{step_of, ended, end_of, has_failed, is_failure}
use Rattle.build_history.specs.Jobs.{JobView}
use Rattle.build_history.proofs.CallerLemmas.{events_of-other, has_failed-append}
use Rattle.build_history.specs.Follow.{MayFollow}
use Rattle.build_history.proofs.CallerLemmas.{run_snoc}
use Rattle.build_state.specs.declared.mark.Mark.{Mark}
use Rattle.build_state.specs.declared.mark.Mark.TheVariants.{Unneeded, Waiting, Released, Taking, Ready, Putting, Failing, Ended, Failed}
use Rattle.build_state.specs.declared.slot.Slot.{Slot}
use Rattle.build_state.specs.Marks.{no_slot, slot_at, HasWaited, IsFresh, HasBegun, AtMark, IsState}

pub ended-append : (h : List Event) (e : Event) → ended (h ++ e ∷ []) ≡ ended h ++ end_of e
ended-append h e = flat_map-append end_of h (e ∷ []) ∙ ap (λ z. ended h ++ z) (append-nil (end_of e))

-- who has ended has ended later
pub waits_on : (job : JobView) (s : ℕ) (h : List Event) (e : Event) → HasWaited job s h → HasWaited job s (h ++ e ∷ [])
waits_on job s h e w p q = subst (λ l. Contains l p) (sym (ended-append h e)) (Contains-append_left (ended h) (end_of e) p (w p q))

-- no step ends by this event
abbrev pub IsQuiet : Event → Type 0
IsQuiet e = end_of e ≡ []

quiet_ended : (h : List Event) (e : Event) → IsQuiet e → ended (h ++ e ∷ []) ≡ ended h
quiet_ended h e q = ended-append h e ∙ ap (λ z. ended h ++ z) q ∙ append-nil (ended h)

fresh_on : (job : JobView) (s : ℕ) (t : Slot) (h : List Event) (e : Event) → (step_of e == s) ≡ false → IsFresh job s t h → IsFresh job s t (h ++ e ∷ [])
fresh_on job s t h e ne f = record { needed = f.needed; events = events_of-other s h e ne ∙ f.events; inputs = f.inputs; left = f.left }

begun_on : (job : JobView) (s : ℕ) (h : List Event) (e : Event) (events : List Event) → (step_of e == s) ≡ false → HasBegun job s h events → HasBegun job s (h ++ e ∷ []) events
begun_on job s h e events ne b = record { needed = b.needed; waited = waits_on job s h e b.waited; are = events_of-other s h e ne ∙ b.are }

-- an event of another step leaves a step where it stands, if it waits for nothing that ends
pub mark_other : (job : JobView) (s : ℕ) (t : Slot) (h : List Event) (e : Event) (at : Mark) → (step_of e == s) ≡ false → (at ≡ Waiting → HasWaited job s (h ++ e ∷ []) → HasWaited job s h)
    → AtMark job s t h at → AtMark job s t (h ++ e ∷ []) at
mark_other job s t h e Unneeded ne q a = a
mark_other job s t h e Waiting ne q a = (fresh_on job s t h e ne a.0, λ w. a.1 (q refl w))
mark_other job s t h e Released ne q a = (fresh_on job s t h e ne a.0, waits_on job s h e a.1)
mark_other job s t h e Taking ne q a = (begun_on job s h e _ ne a.0, a.1, a.2)
mark_other job s t h e Ready ne q a = (begun_on job s h e _ ne a.0, a.1, a.2)
mark_other job s t h e Putting ne q a = (a.0, begun_on job s h e _ ne a.1, a.2, a.3)
mark_other job s t h e Failing ne q a = (a.0, begun_on job s h e _ ne a.1, a.2, a.3, a.4)
mark_other job s t h e Ended ne q a = (a.0, a.1, begun_on job s h e _ ne a.2, a.3, a.4)
mark_other job s t h e Failed ne q a = (a.0, begun_on job s h e _ ne a.1, a.2, a.3)

still_waits : (job : JobView) (s : ℕ) (h : List Event) (e : Event) → IsQuiet e → HasWaited job s (h ++ e ∷ []) → HasWaited job s h
still_waits job s h e q w p i = subst (λ l. Contains l p) (quiet_ended h e q) (w p i)

each_more : (job : JobView) (h : List Event) (slots : List Slot) (e : Event) (t : Slot) (n : ℕ)
    → length slots ≡ n → step_of e < n
    → ((s : ℕ) → s < n → AtMark job s (slot_at slots s) h (slot_at slots s).mark)
    → IsQuiet e → AtMark job (step_of e) t (h ++ e ∷ []) t.mark
    → (s : ℕ) → s < n → (b : Bool) → (step_of e == s) ≡ b
    → AtMark job s (slot_at (set slots (step_of e) t) s) (h ++ e ∷ []) (slot_at (set slots (step_of e) t) s).mark
each_more job h slots e t n many lt each q new s sl true is =
    let same : step_of e ≡ s = eqb-true (step_of e) s is in
    let here : slot_at (set slots (step_of e) t) (step_of e) ≡ t = get_or-set_same slots (step_of e) t no_slot (omega (arith, many, lt)) in
    let P : Slot → Type 0 = λ u. AtMark job (step_of e) u (h ++ e ∷ []) u.mark in
    let Q : ℕ → Type 0 = λ m. AtMark job m (slot_at (set slots (step_of e) t) m) (h ++ e ∷ []) (slot_at (set slots (step_of e) t) m).mark in
    subst Q same (subst P (sym here) new)
each_more job h slots e t n many lt each q new s sl false is =
    let ne : s ≡ step_of e → ⊥ = λ r. eqb-false (step_of e) s is (sym r) in
    let here : slot_at (set slots (step_of e) t) s ≡ slot_at slots s = get_or-set_other slots (step_of e) s t no_slot ne in
    let P : Slot → Type 0 = λ u. AtMark job s u (h ++ e ∷ []) u.mark in
    subst P (sym here) (mark_other job s (slot_at slots s) h e (slot_at slots s).mark is (λ w. still_waits job s h e q) (each s sl))

-- a state goes on by one event that ends no step
pub state_more : (job : JobView) (h : List Event) (slots : List Slot) (e : Event) (t : Slot)
    → IsState job h slots → step_of e < length job.plan.steps → MayFollow job h e → IsQuiet e
    → AtMark job (step_of e) t (h ++ e ∷ []) t.mark
    → IsState job (h ++ e ∷ []) (set slots (step_of e) t)
state_more job h slots e t st lt may q new = record {
  many = length-set slots (step_of e) t ∙ st.many;
  run = run_snoc job h e st.run may;
  each = λ s sl. each_more job h slots e t (length job.plan.steps) st.many lt st.each q new s sl (step_of e == s) refl;
}

each_keep : (job : JobView) (h : List Event) (slots : List Slot) (n m : ℕ) (t : Slot)
    → length slots ≡ m → n < m
    → ((s : ℕ) → s < m → AtMark job s (slot_at slots s) h (slot_at slots s).mark)
    → AtMark job n t h t.mark
    → (s : ℕ) → s < m → (b : Bool) → (n == s) ≡ b
    → AtMark job s (slot_at (set slots n t) s) h (slot_at (set slots n t) s).mark
each_keep job h slots n m t many lt each new s sl true is =
    let same : n ≡ s = eqb-true n s is in
    let here : slot_at (set slots n t) n ≡ t = get_or-set_same slots n t no_slot (omega (arith, many, lt)) in
    let P : Slot → Type 0 = λ u. AtMark job n u h u.mark in
    let Q : ℕ → Type 0 = λ i. AtMark job i (slot_at (set slots n t) i) h (slot_at (set slots n t) i).mark in
    subst Q same (subst P (sym here) new)
each_keep job h slots n m t many lt each new s sl false is =
    let ne : s ≡ n → ⊥ = λ r. eqb-false n s is (sym r) in
    let here : slot_at (set slots n t) s ≡ slot_at slots s = get_or-set_other slots n s t no_slot ne in
    let P : Slot → Type 0 = λ u. AtMark job s u h u.mark in
    subst P (sym here) (each s sl)

-- a slot changes without an event
pub keep_state : (job : JobView) (h : List Event) (slots : List Slot) (s : ℕ) (t : Slot)
    → IsState job h slots → s < length job.plan.steps → AtMark job s t h t.mark → IsState job h (set slots s t)
keep_state job h slots s t st lt new = record {
  many = length-set slots s t ∙ st.many;
  run = st.run;
  each = λ i il. each_keep job h slots s (length job.plan.steps) t st.many lt st.each new i il (s == i) refl;
}

-- a slot that was read
pub slot_read : (slots : List Slot) (s : ℕ) (t : Slot) → s < length slots → t ≡ get_or slots s t → slot_at slots s ≡ t
slot_read slots s t lt r = sym (get_or_read slots s t lt r no_slot)

or_none : (a : Bool) → (a || false) ≡ a
or_none true = refl
or_none false = refl

pub failed_more : (h : List Event) (e : Event) → is_failure e ≡ false → has_failed (h ++ e ∷ []) ≡ has_failed h
failed_more h e q = has_failed-append h (e ∷ []) ∙ ap (λ b. has_failed h || (b || false)) q ∙ or_none (has_failed h)
