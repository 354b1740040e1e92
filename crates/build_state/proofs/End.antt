-- The end of a step releases the steps that waited for it alone.
use Rattle.std.proofs.Common.{◌≡◌, ◌↔◌, ℕ, ◌<◌, ◌≤◌, ◌-◌, length, take, drop, Contains, List, [], ◌∷◌, ◌++◌, arith, Bool, true, false, ◌==◌, cond, refl, sym, ap, ◌∙◌, subst, ◌⊎◌, inl, inr}
use Rattle.std.proofs.lemmas.Bool.{eqb-true, eqb-false, eq-eqb}
use Rattle.std.proofs.lemmas.Grind.{flat_map-append}
use Rattle.std.proofs.lemmas.List.{append-nil, take_all, length-drop}
use Rattle.std.proofs.lemmas.List.Elements.{Contains-append_cases, Contains-append_left, Contains-append_right}
use Rattle.item_types.specs.declared.step.Consume.{Consume}
use Rattle.item_types.specs.declared.value.Value.{Value}
use Rattle.dep_counter.specs.Counting.{IsReleasedBy}
use Rattle.dep_counter.proofs.CallerLemmas.{in_none, in_cases}
use Rattle.dep_counter.proofs.CallerLemmas.{decide}
use Rattle.recorder_proxy.specs.declared.call.Call.{Call}
use Rattle.build_history.specs.declared.event.Event.{Event}
use Rattle.build_history.specs.declared.event.Event.TheVariants.{Start, Take, Put, End, Fail}
use Rattle.build_history.specs.Events.{step_of, events_of, taken, ended, end_of, has_failed}
use Rattle.build_history.specs.Jobs.{JobView, Precedes, consumes_at}
use Rattle.build_history.specs.Scripts.{takes_of, puts_of, kept, opening, script}
use Rattle.build_history.proofs.CallerLemmas.{events_of-same, events_of-other}
use Rattle.build_history.specs.Follow.{MayFollow}
use Rattle.build_history.proofs.CallerLemmas.{run_snoc}
use Rattle.build_state.specs.declared.mark.Mark.{Mark}
use Rattle.build_state.specs.declared.mark.Mark.TheVariants.{Unneeded, Waiting, Released, Taking, Ready, Putting, Failing, Ended, Failed}
use Rattle.build_state.specs.declared.slot.Slot.{Slot}
use Rattle.build_state.specs.Built.{after_end}
use Rattle.build_state.specs.Marks.{slot_at, IsFresh, HasBegun, IsDone, IsPartly, AtMark, IsState}
use Rattle.build_state.proofs.Scripts.{taken_before, scripted_by, end_next}
use Rattle.build_state.proofs.Steps.{ended-append, waits_on, mark_other}
use Rattle.build_state.proofs.Events.{eq_refl, at_mark}

end_own : (s : ℕ) (e : Event) → Contains (end_of e) s → (step_of e == s) ≡ true
end_own s (Start t) c = absurd (in_none s c)
end_own s (Take t i v) c = absurd (in_none s c)
end_own s (Put t i v) c = absurd (in_none s c)
end_own s (End t calls) c = elim (in_cases t [] s c) [ inl e ↦ eq-eqb t s e | inr r ↦ absurd (in_none s r) ]
end_own s (Fail t r) c = absurd (in_none s c)

own_at : (s : ℕ) (e : Event) (h : List Event) (b : Bool) → (step_of e == s) ≡ b → (Contains (ended h) s → Contains (ended (events_of s h)) s)
    → Contains (end_of e ++ ended h) s → Contains (ended (cond b (e ∷ events_of s h) (events_of s h))) s
own_at s e h true q rec c = elim (Contains-append_cases (end_of e) (ended h) s c) [
  | inl l ↦ Contains-append_left (end_of e) (ended (events_of s h)) s l
  | inr r ↦ Contains-append_right (end_of e) (ended (events_of s h)) s (rec r)
]
own_at s e h false q rec c = elim (Contains-append_cases (end_of e) (ended h) s c) [
  | inl l ↦ absurd (let z : true ≡ false = sym (end_own s e l) ∙ q in cc)
  | inr r ↦ rec r
]

-- a step's end stands among its own events
pub ended_own : (s : ℕ) (h : List Event) → Contains (ended h) s → Contains (ended (events_of s h)) s
ended_own s [] c = c
ended_own s (e ∷ h) c = own_at s e h (step_of e == s) refl (ended_own s h) c

takes_open : (s : ℕ) (cs : List Consume) (vs : List (List Value)) → ended (takes_of s cs vs) ≡ []
takes_open s [] vs = refl
takes_open s (c ∷ cs) [] = refl
takes_open s (c ∷ cs) (v ∷ vs) = takes_open s cs vs

puts_open : (s : ℕ) (ps : List (ℕ × Value)) → ended (puts_of s ps) ≡ []
puts_open s [] = refl
puts_open s (p ∷ ps) = puts_open s ps

-- a step whose events are its start, its takes and puts hasn't ended
pub not_ended : (job : JobView) (s : ℕ) (h : List Event) (vs : List (List Value)) (ps : List (ℕ × Value)) → events_of s h ≡ opening job s vs ++ puts_of s ps → Contains (ended h) s → ⊥
not_ended job s h vs ps are c =
    let none : ended (opening job s vs ++ puts_of s ps) ≡ [] = flat_map-append end_of (opening job s vs) (puts_of s ps) ∙ ap (λ z. z ++ ended (puts_of s ps)) (takes_open s (consumes_at job s) vs) ∙ puts_open s ps in
    in_none s (subst (λ l. Contains l s) (ap ended are ∙ none) (ended_own s h c))

-- a step one of whose edge producers hasn't ended has no event
waiting_fresh : (job : JobView) (i s : ℕ) (t : Slot) (h : List Event) (m : Mark) → AtMark job i t h m → Precedes job s i → (Contains (ended h) s → ⊥) → IsFresh job i t h
waiting_fresh job i s t h Unneeded a edge fresh = absurd (a.0 edge.consumer_needed)
waiting_fresh job i s t h Waiting a edge fresh = a.0
waiting_fresh job i s t h Released a edge fresh = absurd (fresh (a.1 s edge))
waiting_fresh job i s t h Taking a edge fresh = absurd (fresh (a.0.waited s edge))
waiting_fresh job i s t h Ready a edge fresh = absurd (fresh (a.0.waited s edge))
waiting_fresh job i s t h Putting a edge fresh = absurd (fresh (a.1.waited s edge))
waiting_fresh job i s t h Failing a edge fresh = absurd (fresh (a.1.waited s edge))
waiting_fresh job i s t h Ended a edge fresh = absurd (fresh (a.2.waited s edge))
waiting_fresh job i s t h Failed a edge fresh = absurd (fresh (a.1.waited s edge))

-- and it stands at Waiting
pub waits_at : (job : JobView) (i s : ℕ) (t : Slot) (h : List Event) (m : Mark) → AtMark job i t h m → Precedes job s i → (Contains (ended h) s → ⊥) → m ≡ Waiting
waits_at job i s t h Unneeded a edge fresh = absurd (a.0 edge.consumer_needed)
waits_at job i s t h Waiting a edge fresh = refl
waits_at job i s t h Released a edge fresh = absurd (fresh (a.1 s edge))
waits_at job i s t h Taking a edge fresh = absurd (fresh (a.0.waited s edge))
waits_at job i s t h Ready a edge fresh = absurd (fresh (a.0.waited s edge))
waits_at job i s t h Putting a edge fresh = absurd (fresh (a.1.waited s edge))
waits_at job i s t h Failing a edge fresh = absurd (fresh (a.1.waited s edge))
waits_at job i s t h Ended a edge fresh = absurd (fresh (a.2.waited s edge))
waits_at job i s t h Failed a edge fresh = absurd (fresh (a.1.waited s edge))

-- another step after the end
other_end : (job : JobView) (h : List Event) (s i : ℕ) (calls : List Call) (told : List ℕ) (old new : Slot)
    → (s == i) ≡ false → (i ≡ s → ⊥) → (Contains (ended h) s → ⊥) → Contains told i ↔ IsReleasedBy job.plan (ended h) s i
    → AtMark job i old h old.mark → after_end s told i old new
    → (Contains told i) ⊎ (Contains told i → ⊥) → AtMark job i new (h ++ End s calls ∷ []) new.mark
other_end job h s i calls told old new ne other fresh is at after (inl c) =
    let r = is.0 c in
    let f = waiting_fresh job i s old h old.mark at r.0 fresh in
    let e : Event = End s calls in
    let u : Slot = record old { mark = Released } in
    let P : Slot → Type 0 = λ x. AtMark job i x (h ++ e ∷ []) x.mark in
    subst P (sym (after.1 other c)) (
      record { needed = f.needed; events = events_of-other i h e ne ∙ f.events; inputs = f.inputs; left = f.left },
      λ p q. subst (λ l. Contains l p) (sym (ended-append h e)) (r.1 p q),
    )
other_end job h s i calls told old new ne other fresh is at after (inr n) =
    let e : Event = End s calls in
    let P : Slot → Type 0 = λ x. AtMark job i x (h ++ e ∷ []) x.mark in
    subst P (sym (after.2 other n)) (mark_other job i old h e old.mark ne (λ waits w p q.
    elim (Contains-append_cases (ended h) (s ∷ []) p (subst (λ l. Contains l p) (ended-append h e) (w p q))) [
      | inl l ↦ l
      | inr r ↦ absurd (elim (in_cases s [] p r) [
        | inl same ↦ n (is.1 (subst (λ m. Precedes job m i) (sym same) q, λ m k. subst (λ l. Contains l m) (ended-append h e) (w m k)))
        | inr none ↦ in_none p none
      ])
    ]) at)

end_at : (job : JobView) (h : List Event) (slots new : List Slot) (s : ℕ) (t : Slot) (told : List ℕ)
    → IsState job h slots → s < length job.plan.steps → slot_at slots s ≡ t
    → ((i : ℕ) → Contains told i ↔ IsReleasedBy job.plan (ended h) s i)
    → ((i : ℕ) → i < length slots → after_end s told i (slot_at slots i) (slot_at new i))
    → (Contains (ended h) s → ⊥) → AtMark job s (record t { mark = Ended; calls = [] }) (h ++ End s t.calls ∷ []) Ended
    → (i : ℕ) → i < length job.plan.steps → (c : Bool) → (s == i) ≡ c → AtMark job i (slot_at new i) (h ++ End s t.calls ∷ []) (slot_at new i).mark
end_at job h slots new s t told st lt slot is after fresh own i il true q =
    let same : s ≡ i = eqb-true s i q in
    let u : Slot = record t { mark = Ended; calls = [] } in
    let P : ℕ → Type 0 = λ n. AtMark job n (slot_at new n) (h ++ End s t.calls ∷ []) (slot_at new n).mark in
    let Q : Slot → Type 0 = λ x. AtMark job s x (h ++ End s t.calls ∷ []) x.mark in
    let is_new : slot_at new s ≡ u = (after s (omega (arith, lt, st.many))).0 refl ∙ ap (λ (x : Slot). record x { mark = Ended; calls = [] }) slot in
    subst P same (subst Q (sym is_new) own)
end_at job h slots new s t told st lt slot is after fresh own i il false q =
    other_end job h s i t.calls told (slot_at slots i) (slot_at new i) q (λ r. eqb-false s i q (sym r)) fresh (is i) (st.each i il) (after i (omega (arith, il, st.many))) (decide told i)

pub end_state : (job : JobView) (h : List Event) (slots new : List Slot) (s : ℕ) (t : Slot) (told : List ℕ)
    → IsState job h slots → has_failed h ≡ false → s < length job.plan.steps → slot_at slots s ≡ t → t.mark ≡ Putting → t.left ≡ []
    → ((i : ℕ) → Contains told i ↔ IsReleasedBy job.plan (ended h) s i)
    → length new ≡ length slots
    → ((i : ℕ) → i < length slots → after_end s told i (slot_at slots i) (slot_at new i))
    → IsState job (h ++ End s t.calls ∷ []) new
end_state job h slots new s t told st go lt slot mark left is many after =
    let here = at_mark job h slots s t Putting st lt slot mark in
    let all : List (ℕ × Value) = here.0 in
    let b = here.1 in
    let done : IsDone job s t all t.calls = here.2 in
    let partly : IsPartly t (kept job s all) = here.3 in
    let vs : List (List Value) = t.inputs.lists in
    let ps : List (ℕ × Value) = kept job s all in
    let none : drop t.made ps ≡ [] = sym partly.rest ∙ left in
    let long : length (drop t.made ps) ≡ length ps - t.made = length-drop t.made ps in
    let zero : length (drop t.made ps) ≡ 0 = ap length none in
    let whole : take t.made ps ≡ ps = take_all t.made ps (let le : t.made ≤ length ps = partly.some in omega (arith, long, zero)) in
    let e : Event = End s t.calls in
    let evs : events_of s h ≡ opening job s vs ++ puts_of s ps = b.are ∙ ap (λ z. opening job s vs ++ puts_of s z) whole in
    let took : taken (opening job s vs ++ puts_of s ps) ++ [] ≡ vs = append-nil (taken (opening job s vs ++ puts_of s ps)) ∙ taken_before job s vs ps (omega (arith, done.full)) in
    let full : (opening job s vs ++ puts_of s ps) ++ e ∷ [] ≡ script job s vs = end_next job s vs all t.calls done.full done.gave in
    let may : MayFollow job h e = record {
      open_yet = go;
      of_needed = b.needed;
      scripted = scripted_by job h e (opening job s vs ++ puts_of s ps) vs evs took ([], append-nil ((opening job s vs ++ puts_of s ps) ++ e ∷ []) ∙ full);
      owes = tt;
    } in
    let are : events_of s (h ++ e ∷ []) ≡ (opening job s vs ++ puts_of s ps) ++ e ∷ [] = events_of-same s h e (eq_refl s) ∙ ap (λ z. z ++ e ∷ []) evs in
    let u : Slot = record t { mark = Ended; calls = [] } in
    let begun : HasBegun job s (h ++ e ∷ []) ((opening job s vs ++ puts_of s ps) ++ e ∷ []) = record { needed = b.needed; waited = waits_on job s h e b.waited; are = are } in
    let own : AtMark job s u (h ++ e ∷ []) Ended = (all, t.calls, begun, record { full = done.full; gave = done.gave }, left) in
    let fresh : Contains (ended h) s → ⊥ = not_ended job s h vs ps evs in
    record {
      many = many ∙ st.many;
      run = run_snoc job h e st.run may;
      each = λ i il. end_at job h slots new s t told st lt slot is after fresh own i il (s == i) refl;
    }
