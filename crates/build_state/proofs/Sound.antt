-- Each call keeps what a build state keeps.
use Rattle.std.proofs.Common.{◌≡◌, ◌↔◌, ℕ, zero, suc, ◌<◌, ◌≤◌, ◌+◌, length, get_or, set, List, [], ◌∷◌, ◌++◌, Contains, All, take, sum_by, count_by, arith, Bool, true, false, ◌||◌, ◌==◌, cond, refl, sym, ap, ◌∙◌, subst, ◌⊎◌, inl, inr, Some, None}
use Rattle.std.proofs.lemmas.Bool.{eqb-true, eqb-false}
use Rattle.std.proofs.lemmas.List.{append-nil, length-set, get_or-set_same, get_or-set_other}
use Rattle.std.proofs.lemmas.List.Elements.{All-nil, All-filter}
use Rattle.item_types.specs.declared.value.Value.{Value}
use Rattle.step_state.specs.declared.outcome.Outcome.{Outcome}
use Rattle.step_state.specs.declared.outcome.Outcome.TheVariants.{Done, Fails}
use Rattle.step_eval.specs.BoundedOutcome.{HasBoundedValues}
use Rattle.step_state.specs.declared.outcome.Reason.{Reason}
use Rattle.item_store.specs.Kept.{Kept as Stored, values_of, spare_of, held_of, nothing, SameElsewhere}
use Rattle.dep_counter.specs.Counting.{AreCounts, IsReleasedBy}
use Rattle.dep_counter.proofs.CallerLemmas.{decide}
use Rattle.step_set.specs.Members.{Has, IsWithout, IsWithAll}
use Rattle.build_history.specs.declared.event.Event.{Event}
use Rattle.build_history.specs.declared.event.Event.TheVariants.{Start, Take, Put, End, Fail}
use Rattle.build_history.proofs.CallerLemmas.{has_failed-append}
use Rattle.build_history.specs.Events.{ended, end_of, has_failed}
use Rattle.build_history.specs.Jobs.{JobView, consumes_at, meaning_at, is_effective}
use Rattle.build_history.specs.Room.{Kept}
use Rattle.build_history.specs.Scripts.{kept}
use Rattle.build_history.specs.Runs.{found_in}
use Rattle.build_state.specs.declared.mark.Mark.TheVariants.{Waiting, Released, Taking, Ready, Putting, Failing, Ended, Failed}
use Rattle.build_state.specs.declared.slot.Slot.{Slot}
use Rattle.build_history.specs.Next.{no_consume}
use Rattle.build_state.specs.Built.{mark_after, settled, after_end}
use Rattle.build_state.specs.Keeping.{IsRoomFor, HasKeys}
use Rattle.build_state.specs.Marks.{no_slot, slot_at, IsState}
use Rattle.build_state.specs.Parts.{AreOpen}
use Rattle.build_state.specs.Rooms.{owed, owed_at, owed_of, IsKeyed, IsSmall, HasSmallArgs, IsRoomier}
use Rattle.build_state.specs.Sound.{IsReleasedSet, IsSound}
use Rattle.build_state.proofs.End.{not_ended, waits_at, end_state}
use Rattle.build_state.proofs.Events.{at_mark, start_state, take_state, put_state, fail_state, outcome_state}
use Rattle.build_state.proofs.Finish.{needed_in}
use Rattle.build_state.proofs.Opening.{open_state, open_room}
use Rattle.build_state.proofs.Rooms.{room_event, room_quiet, room_put, room_more, room_hand, sum_same}
use Rattle.build_state.proofs.Steps.{ended-append, failed_more}

plus_zero : (n : ℕ) → n + 0 ≡ n
plus_zero n = omega arith

or_true : (b : Bool) → (b || (true || false)) ≡ true
or_true true = refl
or_true false = refl

counts_quiet : (job : JobView) (h h' : Kept) (e : Event) (counts : List ℕ) → h'.events ≡ h.events ++ e ∷ [] → end_of e ≡ [] → AreCounts job.plan (ended h.events) counts → AreCounts job.plan (ended h'.events) counts
counts_quiet job h h' e counts events quiet are =
    let same : ended h'.events ≡ ended h.events = ap ended events ∙ ended-append h.events e ∙ ap (λ z. ended h.events ++ z) quiet ∙ append-nil (ended h.events) in
    subst (λ l. AreCounts job.plan l counts) (sym same) are

-- a slot that didn't stand at Released and doesn't
released_set : (members : List Bool) (slots : List Slot) (s : ℕ) (t' : Slot) → IsReleasedSet members slots → s < length slots → ((slot_at slots s).mark ≡ Released → ⊥) → (t'.mark ≡ Released → ⊥) → IsReleasedSet members (set slots s t')
released_set members slots s t' are lt before after i = released_at (s == i) refl where
  released_at : (b : Bool) → (s == i) ≡ b → Has members i ↔ ((i < length (set slots s t')) × ((slot_at (set slots s t') i).mark ≡ Released))
  released_at true q =
      let e : s ≡ i = eqb-true s i q in
      let here : slot_at (set slots s t') i ≡ t' = ap (λ n. slot_at (set slots s t') n) (sym e) ∙ get_or-set_same slots s t' no_slot lt in (
        λ c. absurd (before (ap (λ n. (slot_at slots n).mark) e ∙ ((are i).0 c).1)),
        λ w. absurd (after (ap (λ (x : Slot). x.mark) (sym here) ∙ w.1)),
      )
  released_at false q =
      let here : slot_at (set slots s t') i ≡ slot_at slots i = get_or-set_other slots s i t' no_slot (λ e. eqb-false s i q (sym e)) in
      let long : length (set slots s t') ≡ length slots = length-set slots s t' in (
        λ c. let w = (are i).0 c in let l : i < length slots = w.0 in (omega (arith, long, l), ap (λ (x : Slot). x.mark) here ∙ w.1),
        λ w. let l : i < length (set slots s t') = w.0 in (are i).1 (omega (arith, long, l), sym (ap (λ (x : Slot). x.mark) here) ∙ w.1),
      )

-- the step was taken out of the set, and doesn't stand at Released any more
released_out : (members less : List Bool) (slots : List Slot) (s : ℕ) (t' : Slot) → IsReleasedSet members slots → s < length slots → IsWithout members s less → (t'.mark ≡ Released → ⊥) → IsReleasedSet less (set slots s t')
released_out members less slots s t' are lt out after i = released_at (s == i) refl where
  released_at : (b : Bool) → (s == i) ≡ b → Has less i ↔ ((i < length (set slots s t')) × ((slot_at (set slots s t') i).mark ≡ Released))
  released_at true q =
      let e : s ≡ i = eqb-true s i q in
      let here : slot_at (set slots s t') i ≡ t' = ap (λ n. slot_at (set slots s t') n) (sym e) ∙ get_or-set_same slots s t' no_slot lt in (
        λ c. absurd (((out i).0 c).1 (sym e)),
        λ w. absurd (after (ap (λ (x : Slot). x.mark) (sym here) ∙ w.1)),
      )
  released_at false q =
      let here : slot_at (set slots s t') i ≡ slot_at slots i = get_or-set_other slots s i t' no_slot (λ e. eqb-false s i q (sym e)) in
      let long : length (set slots s t') ≡ length slots = length-set slots s t' in (
        λ c. let w = (are i).0 ((out i).0 c).0 in let l : i < length slots = w.0 in (omega (arith, long, l), ap (λ (x : Slot). x.mark) here ∙ w.1),
        λ w. let l : i < length (set slots s t') = w.0 in (out i).1 ((are i).1 (omega (arith, long, l), sym (ap (λ (x : Slot). x.mark) here) ∙ w.1), λ e. eqb-false s i q (sym e)),
      )

after_takes_not : (b : Bool) → cond b Ready Taking ≡ Released → ⊥
after_takes_not true q = cc q
after_takes_not false q = cc q

after_takes_owes : (b : Bool) → owed_at (cond b Ready Taking) ≡ 0
after_takes_owes true = refl
after_takes_owes false = refl

pub start_sound : (job : JobView) (h h' : Kept) (store : Stored) (counts : List ℕ) (members less : List Bool) (slots : List Slot) (failed : Bool) (s : ℕ) (t t' : Slot)
    → IsSound job h store counts members slots failed → failed ≡ false → s < length job.plan.steps → slot_at slots s ≡ t → t.mark ≡ Released
    → t' ≡ record t { mark = mark_after job s 0 } → h'.events ≡ h.events ++ Start s ∷ [] → h'.spare ≡ h.spare → length less ≡ length members → IsWithout members s less
    → IsSound job h' store counts less (set slots s t') failed
start_sound job h h' store counts members less slots failed s t t' is go lt slot mark new events spare wide out =
    let within : s < length slots = omega (arith, lt, is.state.many) in
    let going : has_failed h.events ≡ false = sym is.failed_is ∙ go in
    let owes : owed t' ≡ length t.left = ap owed new ∙ ap (λ n. length t.left + n) (after_takes_owes (0 == length (consumes_at job s))) ∙ plus_zero (length t.left) in
    let had : owed t ≡ length t.left = ap (λ m. length t.left + owed_at m) mark ∙ plus_zero (length t.left) in
    record {
      many = length-set slots s t' ∙ is.many;
      state = subst (λ l. IsState job l (set slots s t')) (sym events) (start_state job h.events slots s t t' is.state going lt slot mark new);
      room = room_event job h h' (Start s) store slots s t t' is.room within slot events (λ item. refl) (omega (arith, owes, had, spare)) (ap (λ (x : Slot). x.left) new)
          (subst (All HasSmallArgs) (ap (λ (x : Slot). x.calls) slot ∙ sym (ap (λ (x : Slot). x.calls) new)) (is.room.calls s));
      counts_are = counts_quiet job h h' (Start s) counts events refl is.counts_are;
      roomy = wide ∙ is.roomy ∙ sym (length-set slots s t');
      released = released_out members less slots s t' is.released within out (λ q. after_takes_not (0 == length (consumes_at job s)) (sym (ap (λ (x : Slot). x.mark) new) ∙ q));
      failed_is = is.failed_is ∙ sym (ap has_failed events ∙ failed_more h.events (Start s) refl);
    }

pub take_sound : (job : JobView) (h h' : Kept) (store : Stored) (counts : List ℕ) (members : List Bool) (slots : List Slot) (failed : Bool) (s : ℕ) (t t' : Slot) (item : ℕ) (x : List Value)
    → IsSound job h store counts members slots failed → failed ≡ false → s < length job.plan.steps → slot_at slots s ≡ t → t.mark ≡ Taking
    → item ≡ (get_or (consumes_at job s) (length t.inputs.lists) no_consume).item → x ≡ found_in job item h.events
    → t' ≡ record t { mark = mark_after job s (length t.inputs.lists + 1); inputs = record { lists = t.inputs.lists ++ x ∷ [] } }
    → h'.events ≡ h.events ++ Take s item x ∷ [] → h'.spare ≡ h.spare
    → IsSound job h' store counts members (set slots s t') failed
take_sound job h h' store counts members slots failed s t t' item x is go lt slot mark which values new events spare =
    let within : s < length slots = omega (arith, lt, is.state.many) in
    let going : has_failed h.events ≡ false = sym is.failed_is ∙ go in
    let owes : owed t' ≡ length t.left = ap owed new ∙ ap (λ n. length t.left + n) (after_takes_owes (length t.inputs.lists + 1 == length (consumes_at job s))) ∙ plus_zero (length t.left) in
    let had : owed t ≡ length t.left = ap (λ m. length t.left + owed_at m) mark ∙ plus_zero (length t.left) in
    record {
      many = length-set slots s t' ∙ is.many;
      state = subst (λ l. IsState job l (set slots s t')) (sym events) (take_state job h.events slots s t t' item x is.state going lt slot mark which values new);
      room = room_event job h h' (Take s item x) store slots s t t' is.room within slot events (λ i. refl) (omega (arith, owes, had, spare)) (ap (λ (z : Slot). z.left) new)
          (subst (All HasSmallArgs) (ap (λ (z : Slot). z.calls) slot ∙ sym (ap (λ (z : Slot). z.calls) new)) (is.room.calls s));
      counts_are = counts_quiet job h h' (Take s item x) counts events refl is.counts_are;
      roomy = is.roomy ∙ sym (length-set slots s t');
      released = released_set members slots s t' is.released within (λ q. let m : Taking ≡ Released = sym (ap (λ (z : Slot). z.mark) slot ∙ mark) ∙ q in cc m)
          (λ q. after_takes_not (length t.inputs.lists + 1 == length (consumes_at job s)) (sym (ap (λ (z : Slot). z.mark) new) ∙ q));
      failed_is = is.failed_is ∙ sym (ap has_failed events ∙ failed_more h.events (Take s item x) refl);
    }

pub put_sound : (job : JobView) (h h' : Kept) (store store' : Stored) (counts : List ℕ) (members : List Bool) (slots : List Slot) (failed : Bool) (s : ℕ) (t t' : Slot) (p : ℕ × Value) (rest : List (ℕ × Value))
    → IsSound job h store counts members slots failed → failed ≡ false → s < length job.plan.steps → slot_at slots s ≡ t → t.mark ≡ Putting
    → t.left ≡ p ∷ rest → t' ≡ record t { made = t.made + 1; left = rest }
    → h'.events ≡ h.events ++ Put s p.0 p.1 ∷ [] → h'.spare + 1 ≡ h.spare
    → values_of store' p.0 ≡ values_of store p.0 ++ p.1 ∷ [] → spare_of store' p.0 + 1 ≡ spare_of store p.0 → SameElsewhere p.0 store store'
    → IsSound job h' store' counts members (set slots s t') failed
put_sound job h h' store store' counts members slots failed s t t' p rest is go lt slot mark left new events spare values spares others =
    let within : s < length slots = omega (arith, lt, is.state.many) in
    let going : has_failed h.events ≡ false = sym is.failed_is ∙ go in
    record {
      many = length-set slots s t' ∙ is.many;
      state = subst (λ l. IsState job l (set slots s t')) (sym events) (put_state job h.events slots s t t' p rest is.state going lt slot mark left new);
      room = room_put job h h' store store' slots s t t' p rest is.room within slot left (ap (λ (z : Slot). z.left) new) (ap (λ (z : Slot). z.mark) new) (ap (λ (z : Slot). z.calls) new) events spare values spares others;
      counts_are = counts_quiet job h h' (Put s p.0 p.1) counts events refl is.counts_are;
      roomy = is.roomy ∙ sym (length-set slots s t');
      released = released_set members slots s t' is.released within (λ q. let m : Putting ≡ Released = sym (ap (λ (z : Slot). z.mark) slot ∙ mark) ∙ q in cc m)
          (λ q. let m : Putting ≡ Released = sym (ap (λ (z : Slot). z.mark) new ∙ mark) ∙ q in cc m);
      failed_is = is.failed_is ∙ sym (ap has_failed events ∙ failed_more h.events (Put s p.0 p.1) refl);
    }

pub fail_sound : (job : JobView) (h h' : Kept) (store : Stored) (counts : List ℕ) (members : List Bool) (slots : List Slot) (failed : Bool) (s : ℕ) (t t' : Slot) (r : Reason)
    → IsSound job h store counts members slots failed → failed ≡ false → s < length job.plan.steps → slot_at slots s ≡ t → t.mark ≡ Failing
    → t.reason ≡ Some r → t' ≡ record t { mark = Failed; reason = None }
    → h'.events ≡ h.events ++ Fail s r ∷ [] → h'.spare + 1 ≡ h.spare
    → IsSound job h' store counts members (set slots s t') true
fail_sound job h h' store counts members slots failed s t t' r is go lt slot mark why new events spare =
    let within : s < length slots = omega (arith, lt, is.state.many) in
    let going : has_failed h.events ≡ false = sym is.failed_is ∙ go in
    let owes : owed t' ≡ length t.left + 0 = ap owed new in
    let had : owed t ≡ length t.left + 1 = ap (λ m. length t.left + owed_at m) mark in
    record {
      many = length-set slots s t' ∙ is.many;
      state = subst (λ l. IsState job l (set slots s t')) (sym events) (fail_state job h.events slots s t t' r is.state going lt slot mark why new);
      room = room_event job h h' (Fail s r) store slots s t t' is.room within slot events (λ i. refl) (omega (arith, owes, had, spare)) (ap (λ (z : Slot). z.left) new)
          (subst (All HasSmallArgs) (ap (λ (z : Slot). z.calls) slot ∙ sym (ap (λ (z : Slot). z.calls) new)) (is.room.calls s));
      counts_are = counts_quiet job h h' (Fail s r) counts events refl is.counts_are;
      roomy = is.roomy ∙ sym (length-set slots s t');
      released = released_set members slots s t' is.released within (λ q. let m : Failing ≡ Released = sym (ap (λ (z : Slot). z.mark) slot ∙ mark) ∙ q in cc m)
          (λ q. let m : Failed ≡ Released = sym (ap (λ (z : Slot). z.mark) new) ∙ q in cc m);
      failed_is = sym (ap has_failed events ∙ has_failed-append h.events (Fail s r ∷ []) ∙ or_true (has_failed h.events));
    }

-- there is more room
pub more_sound : (job : JobView) (h h' : Kept) (store store' : Stored) (counts : List ℕ) (members : List Bool) (slots : List Slot) (failed : Bool)
    → IsSound job h store counts members slots failed → h'.events ≡ h.events → h.spare ≤ h'.spare → IsRoomier store store'
    → IsSound job h' store' counts members slots failed
more_sound job h h' store store' counts members slots failed is events spare more = record {
  many = is.many;
  state = subst (λ l. IsState job l slots) (sym events) is.state;
  room = room_more job h h' store store' slots is.room events spare more;
  counts_are = subst (λ l. AreCounts job.plan (ended l) counts) (sym events) is.counts_are;
  roomy = is.roomy;
  released = is.released;
  failed_is = is.failed_is ∙ ap has_failed (sym events);
}

-- the set and the slots after an end
end_set : (job : JobView) (h : List Event) (members more : List Bool) (told : List ℕ) (slots new : List Slot) (s : ℕ) → IsState job h slots → IsReleasedSet members slots → s < length job.plan.steps
    → (slot_at slots s).mark ≡ Putting → (Contains (ended h) s → ⊥)
    → ((i : ℕ) → Contains told i ↔ IsReleasedBy job.plan (ended h) s i) → IsWithAll members told more
    → length new ≡ length slots → ((i : ℕ) → i < length slots → after_end s told i (slot_at slots i) (slot_at new i))
    → (i : ℕ) → (b : Bool) → (s == i) ≡ b → (Contains told i) ⊎ (Contains told i → ⊥) → Has more i ↔ ((i < length new) × ((slot_at new i).mark ≡ Released))
end_set job h members more told slots new s st are lt mark fresh is with_told many after i true q w =
    let e : s ≡ i = eqb-true s i q in
    let ended_now : i < length slots → (slot_at new i).mark ≡ Ended = λ l. ap (λ (x : Slot). x.mark) ((after i l).0 (sym e)) in (
      λ c. elim ((with_told i).0 c) [
        | inl m ↦ let r : (slot_at slots i).mark ≡ Released = ((are i).0 m).1 in let p : (slot_at slots i).mark ≡ Putting = ap (λ n. (slot_at slots n).mark) (sym e) ∙ mark in absurd (let z : Putting ≡ Released = sym p ∙ r in cc z)
        | inr m ↦ let r = (is i).0 m in let l : i < length job.plan.steps = omega (arith, lt, e) in
            let v = waits_at job i s (slot_at slots i) h (slot_at slots i).mark (st.each i l) r.0 fresh in
            let p : (slot_at slots i).mark ≡ Putting = ap (λ n. (slot_at slots n).mark) (sym e) ∙ mark in absurd (let z : Putting ≡ Waiting = sym p ∙ v in cc z)
      ],
      λ v. let l : i < length new = v.0 in let m : (slot_at new i).mark ≡ Ended = ended_now (omega (arith, l, many)) in absurd (let z : Ended ≡ Released = sym m ∙ v.1 in cc z),
    )
end_set job h members more told slots new s st are lt mark fresh is with_told many after i false q (inl c) =
    let r = (is i).0 c in
    let l : i < length job.plan.steps = needed_in job i r.0.consumer_needed in
    let n : i < length slots = omega (arith, l, st.many) in (
      λ m. (omega (arith, n, many), ap (λ (x : Slot). x.mark) ((after i n).1 (λ e. eqb-false s i q (sym e)) c)),
      λ v. (with_told i).1 (inr c),
    )
end_set job h members more told slots new s st are lt mark fresh is with_told many after i false q (inr out) = (
  λ m. elim ((with_told i).0 m) [
    | inl o ↦ let w = (are i).0 o in let n : i < length slots = w.0 in (omega (arith, n, many), ap (λ (x : Slot). x.mark) ((after i n).2 (λ e. eqb-false s i q (sym e)) out) ∙ w.1)
    | inr t ↦ absurd (out t)
  ],
  λ v. let l : i < length new = v.0 in let n : i < length slots = omega (arith, l, many) in
      (with_told i).1 (inl ((are i).1 (n, sym (ap (λ (x : Slot). x.mark) ((after i n).2 (λ e. eqb-false s i q (sym e)) out)) ∙ v.1))),
)

-- a step that stands at Putting hasn't ended
pub putting_open : (job : JobView) (h : List Event) (slots : List Slot) (s : ℕ) → IsState job h slots → s < length job.plan.steps → (slot_at slots s).mark ≡ Putting → Contains (ended h) s → ⊥
putting_open job h slots s st lt mark c =
    let here = at_mark job h slots s (slot_at slots s) Putting st lt refl mark in
    not_ended job s h (slot_at slots s).inputs.lists (take (slot_at slots s).made (kept job s here.0)) here.1.are c

-- what an end leaves of a slot
end_left : (s : ℕ) (told : List ℕ) (i : ℕ) (old new : Slot) (b : Bool) → (s == i) ≡ b → (Contains told i) ⊎ (Contains told i → ⊥) → after_end s told i old new → new.left ≡ old.left
end_left s told i old new true q w a = ap (λ (x : Slot). x.left) (a.0 (sym (eqb-true s i q)))
end_left s told i old new false q (inl c) a = ap (λ (x : Slot). x.left) (a.1 (λ e. eqb-false s i q (sym e)) c)
end_left s told i old new false q (inr n) a = ap (λ (x : Slot). x.left) (a.2 (λ e. eqb-false s i q (sym e)) n)

end_calls : (s : ℕ) (told : List ℕ) (i : ℕ) (old new : Slot) (b : Bool) → (s == i) ≡ b → (Contains told i) ⊎ (Contains told i → ⊥) → after_end s told i old new → All HasSmallArgs old.calls → All HasSmallArgs new.calls
end_calls s told i old new true q w a all = subst (All HasSmallArgs) (sym (ap (λ (x : Slot). x.calls) (a.0 (sym (eqb-true s i q))))) (All-nil HasSmallArgs)
end_calls s told i old new false q (inl c) a all = subst (All HasSmallArgs) (sym (ap (λ (x : Slot). x.calls) (a.1 (λ e. eqb-false s i q (sym e)) c))) all
end_calls s told i old new false q (inr n) a all = subst (All HasSmallArgs) (sym (ap (λ (x : Slot). x.calls) (a.2 (λ e. eqb-false s i q (sym e)) n))) all

end_owed : (s : ℕ) (told : List ℕ) (i : ℕ) (old new : Slot) (b : Bool) → (s == i) ≡ b → (Contains told i) ⊎ (Contains told i → ⊥) → after_end s told i old new
    → (s ≡ i → old.mark ≡ Putting) → (Contains told i → old.mark ≡ Waiting) → owed new ≡ owed old
end_owed s told i old new true q w a own waits = let e : s ≡ i = eqb-true s i q in ap owed (a.0 (sym e)) ∙ sym (ap (λ m. length old.left + owed_at m) (own e))
end_owed s told i old new false q (inl c) a own waits = ap owed (a.1 (λ e. eqb-false s i q (sym e)) c) ∙ sym (ap (λ m. length old.left + owed_at m) (waits c))
end_owed s told i old new false q (inr n) a own waits = ap owed (a.2 (λ e. eqb-false s i q (sym e)) n)

-- from what holds below the length to what holds everywhere
everywhere : (P : Slot → Slot → Type 0) (xs ys : List Slot) → length xs ≡ length ys → P no_slot no_slot → ((i : ℕ) → i < length xs → P (slot_at xs i) (slot_at ys i)) → (i : ℕ) → P (slot_at xs i) (slot_at ys i)
everywhere P [] [] e n all i = n
everywhere P [] (y ∷ ys) e n all i = absurd (omega (arith, e))
everywhere P (x ∷ xs) [] e n all i = absurd (omega (arith, e))
everywhere P (x ∷ xs) (y ∷ ys) e n all zero = all 0 (omega arith)
everywhere P (x ∷ xs) (y ∷ ys) e n all (suc i) = everywhere P xs ys (omega (arith, e)) n (λ j lt. all (suc j) (omega (arith, lt))) i

pub end_sound : (job : JobView) (h h' : Kept) (store : Stored) (counts counts' : List ℕ) (members more : List Bool) (told : List ℕ) (slots new : List Slot) (failed : Bool) (s : ℕ)
    → IsSound job h store counts members slots failed → failed ≡ false → s < length job.plan.steps → (slot_at slots s).mark ≡ Putting → (slot_at slots s).left ≡ []
    → ((i : ℕ) → Contains told i ↔ IsReleasedBy job.plan (ended h.events) s i) → length more ≡ length members → IsWithAll members told more
    → length new ≡ length slots → ((i : ℕ) → i < length slots → after_end s told i (slot_at slots i) (slot_at new i))
    → h'.events ≡ h.events ++ End s (slot_at slots s).calls ∷ [] → h'.spare ≡ h.spare → AreCounts job.plan (ended h.events ++ s ∷ []) counts'
    → IsSound job h' store counts' more new failed
end_sound job h h' store counts counts' members more told slots new failed s is go lt mark left told_is wide with_told many after events spare counts_are =
    let st = is.state in
    let going : has_failed h.events ≡ false = sym is.failed_is ∙ go in
    let fresh : Contains (ended h.events) s → ⊥ = putting_open job h.events slots s st lt mark in
    let e : Event = End s (slot_at slots s).calls in
    let same_left : (i : ℕ) → (slot_at new i).left ≡ (slot_at slots i).left
    = everywhere (λ x y. x.left ≡ y.left) new slots many refl (λ i l. end_left s told i (slot_at slots i) (slot_at new i) (s == i) refl (decide told i) (after i (omega (arith, l, many)))) in
    let same_owed : (i : ℕ) → owed (slot_at new i) ≡ owed (slot_at slots i)
    = everywhere (λ x y. owed x ≡ owed y) new slots many refl (λ i l.
    let n : i < length slots = omega (arith, l, many) in
    end_owed s told i (slot_at slots i) (slot_at new i) (s == i) refl (decide told i) (after i n) (λ q. ap (λ m. (slot_at slots m).mark) (sym q) ∙ mark)
    (λ c. waits_at job i s (slot_at slots i) h.events (slot_at slots i).mark (st.each i (omega (arith, n, st.many))) ((told_is i).0 c).0 fresh)) in
    let small : (i : ℕ) → All HasSmallArgs (slot_at new i).calls
    = everywhere (λ x y. All HasSmallArgs x.calls) new slots many (All-nil HasSmallArgs) (λ i l. end_calls s told i (slot_at slots i) (slot_at new i) (s == i) refl (decide told i) (after i (omega (arith, l, many))) (is.room.calls i)) in
    let sum : sum_by owed new ≡ sum_by owed slots = sum_same owed new slots many same_owed in
    let fits : sum_by owed slots ≤ h.spare = is.room.events in
    record {
      many = many ∙ is.many;
      state = subst (λ l. IsState job l new) (sym events) (end_state job h.events slots new s (slot_at slots s) told st going lt refl mark left told_is many after);
      room = room_quiet job h h' e store slots new is.room events (λ i. refl) (omega (arith, sum, fits, spare)) many same_left small;
      counts_are = subst (λ l. AreCounts job.plan l counts') (sym (ap ended events ∙ ended-append h.events e)) counts_are;
      roomy = wide ∙ is.roomy ∙ sym many;
      released = λ i. end_set job h.events members more told slots new s st is.released lt mark fresh told_is with_told many after i (s == i) refl (decide told i);
      failed_is = is.failed_is ∙ sym (ap has_failed events ∙ failed_more h.events e refl);
    }

pub open_sound : (job : JobView) (h : Kept) (store : Stored) (counts : List ℕ) (members : List Bool) (slots : List Slot) → AreOpen job (length job.plan.steps) slots
    → h.events ≡ [] → store.names ≡ job.names → ((item : ℕ) → held_of store item ≡ nothing) → AreCounts job.plan [] counts → length members ≡ length slots → IsReleasedSet members slots
    → IsSound job h store counts members slots false
open_sound job h store counts members slots are none names empty counts_are roomy released = record {
  many = are.many;
  state = subst (λ l. IsState job l slots) (sym none) (open_state job slots are);
  room = open_room job h store slots are none names empty;
  counts_are = subst (λ l. AreCounts job.plan (ended l) counts) (sym none) counts_are;
  roomy = roomy;
  released = released;
  failed_is = sym (ap has_failed none);
}

-- the slot with what is kept of an outcome
kept_small : (job : JobView) (s : ℕ) (t : Slot) (o : Outcome) → HasBoundedValues o → t.left ≡ [] → All HasSmallArgs t.calls
    → All IsSmall (settled job s t o).left × All HasSmallArgs (settled job s t o).calls
kept_small job s t (Done puts calls) small none had = (All-filter (λ p. is_effective job.plan.steps s p.0) IsSmall puts small.0, small.1)
kept_small job s t (Fails r) small none had = (subst (All IsSmall) (sym none) (All-nil IsSmall), had)

kept_keyed : (job : JobView) (s : ℕ) (t : Slot) (o : Outcome) → HasKeys job s o → t.left ≡ [] → All (IsKeyed job.names) (settled job s t o).left
kept_keyed job s t (Done puts calls) keys none = keys
kept_keyed job s t (Fails r) keys none = subst (All (IsKeyed job.names)) (sym none) (All-nil (IsKeyed job.names))

kept_room : (job : JobView) (s old new : ℕ) (before after : Stored) (t : Slot) (o : Outcome) → IsRoomFor job s o old new before after → t.left ≡ []
    → (new ≡ old + owed (settled job s t o)) × ((item : ℕ) → spare_of after item ≡ spare_of before item + owed_of item (settled job s t o))
kept_room job s old new before after t (Done puts calls) room none = (
  (let e : new ≡ old + length (kept job s puts) = room.events in omega (arith, e)),
  λ item. room.spares item,
)
kept_room job s old new before after t (Fails r) room none = (
  (let e : new ≡ old + 1 = room.0 in let l : length t.left ≡ 0 = ap length none in omega (arith, e, l)),
  λ item. ap (λ x. spare_of x item) room.1 ∙ sym (ap (λ n. spare_of before item + n) (ap (count_by (λ (p : ℕ × Value). p.0 == item)) none) ∙ plus_zero (spare_of before item)),
)

settled_not_released : (job : JobView) (s : ℕ) (t : Slot) (o : Outcome) → (settled job s t o).mark ≡ Released → ⊥
settled_not_released job s t (Done puts calls) q = cc q
settled_not_released job s t (Fails r) q = cc q

pub hand_sound : (job : JobView) (h h' : Kept) (store store' : Stored) (counts : List ℕ) (members : List Bool) (slots : List Slot) (failed : Bool) (s : ℕ) (t t' : Slot) (o : Outcome)
    → IsSound job h store counts members slots failed → s < length job.plan.steps → slot_at slots s ≡ t → t.mark ≡ Ready
    → meaning_at job s t.inputs.lists ≡ o → HasBoundedValues o → t' ≡ settled job s t o
    → h'.events ≡ h.events → IsRoomier store store' → IsRoomFor job s o h.spare h'.spare store store' → HasKeys job s o
    → IsSound job h' store' counts members (set slots s t') failed
hand_sound job h h' store store' counts members slots failed s t t' o is lt slot mark gave small new events more room keys =
    let within : s < length slots = omega (arith, lt, is.many) in
    let here = at_mark job h.events slots s t Ready is.state lt slot mark in
    let u : Slot = settled job s t o in
    let sizes = kept_small job s t o small here.2 (subst (All HasSmallArgs) (ap (λ (x : Slot). x.calls) slot) (is.room.calls s)) in
    let rooms = kept_room job s h.spare h'.spare store store' t o room here.2 in
    let old_not : (slot_at slots s).mark ≡ Released → ⊥ = λ q. let m : Ready ≡ Released = sym (ap (λ (z : Slot). z.mark) slot ∙ mark) ∙ q in cc m in
    let P : Slot → Type 0 = λ x. IsSound job h' store' counts members (set slots s x) failed in
    subst P (sym new) (record {
      many = length-set slots s u ∙ is.many;
      state = subst (λ l. IsState job l (set slots s u)) (sym events) (outcome_state job h.events slots s t o is.state lt slot mark gave);
      room = room_hand job h h' store store' slots s u is.room within events rooms.0 more rooms.1 (kept_keyed job s t o keys here.2) sizes.0 sizes.1;
      counts_are = subst (λ l. AreCounts job.plan (ended l) counts) (sym events) is.counts_are;
      roomy = is.roomy ∙ sym (length-set slots s u);
      released = released_set members slots s u is.released within old_not (settled_not_released job s t o);
      failed_is = is.failed_is ∙ ap has_failed (sym events);
    })
