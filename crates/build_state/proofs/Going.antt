-- How the calls go on, and how many steps are yet to end.
use Rattle.std.proofs.Common.{◌≡◌, ◌≢◌, ℕ, zero, suc, ◌<◌, ◌≤◌, ◌+◌, ◌-◌, length, length-append, set, List, [], ◌∷◌, ◌++◌, Contains, All, sum_by, arith, Bool, true, false, ◌||◌, ◌==◌, cond, refl, sym, ap, ◌∙◌, subst, append_assoc, ◌⊎◌, inl, inr, Some, None}
use Rattle.std.proofs.lemmas.Bool.{ne_eqb, cases_lt}
use Rattle.std.proofs.lemmas.List.{append-nil, length-set, get_or-set_same, get_or-set_other, get_or_past}
use Rattle.std.proofs.lemmas.List.Elements.{All-nil, All-cons, All-append}
use Rattle.std.proofs.lemmas.List.Sums.{sum_by-cons}
use Rattle.item_types.specs.declared.value.Value.{Value}
use Rattle.step_state.specs.declared.outcome.Outcome.{Outcome}
use Rattle.step_state.specs.declared.outcome.Reason.{Reason}
use Rattle.build_history.specs.declared.event.Event.{Event}
use Rattle.build_history.specs.declared.event.Event.TheVariants.{Start, Put, End}
use Rattle.build_history.specs.Events.{step_of, events_of, is_failure}
use Rattle.build_history.specs.Jobs.{JobView, Needs, consumes_at}
use Rattle.build_history.specs.Kinds.{MayStart}
use Rattle.build_history.proofs.CallerLemmas.{events_of-other}
use Rattle.dep_counter.proofs.CallerLemmas.{decide}
use Rattle.build_state.specs.declared.mark.Mark.{Mark}
use Rattle.build_state.specs.declared.mark.Mark.TheVariants.{Unneeded, Waiting, Released, Taking, Ready, Putting, Failing, Ended, Failed}
use Rattle.build_state.specs.declared.slot.Slot.{Slot}
use Rattle.build_state.specs.Built.{Built, mark_at, is_halted, moved, took, with_take, settled, evaluated, put_one, failed_with, HasEnded}
use Rattle.build_state.specs.Busy.{is_started, open_at}
use Rattle.build_state.specs.Marks.{no_slot, slot_at, AtMark, IsState}
use Rattle.build_state.proofs.Rooms.{sum_same}
use Rattle.build_state.proofs.Steps.{failed_more}
use Rattle.build_state.specs.Going.{IsLaterOf, StaysOrReleases, GoesOn}
use Rattle.build_state.proofs.Standing.{may_in}

pub goes_refl : (s : ℕ) (b : Built) → GoesOn s b b
goes_refl s b = record { job = refl; no_memory = refl; many = refl; new = []; history = sym (append-nil b.history); later = All-nil (IsLaterOf s); others = λ i ne. inl refl }

stays_trans : (b m n : Built) (i : ℕ) → StaysOrReleases b m i → StaysOrReleases m n i → StaysOrReleases b n i
stays_trans b m n i (inl p) (inl q) = inl (q ∙ p)
stays_trans b m n i (inl p) (inr q) = inr (sym p ∙ q.0, q.1)
stays_trans b m n i (inr p) (inl q) = inr (p.0, q ∙ p.1)
stays_trans b m n i (inr p) (inr q) = let z : Released ≡ Waiting = sym p.1 ∙ q.0 in cc z

pub goes_trans : (s : ℕ) (b m n : Built) → GoesOn s b m → GoesOn s m n → GoesOn s b n
goes_trans s b m n p q = record {
  job = q.job ∙ p.job;
  no_memory = q.no_memory ∙ p.no_memory;
  many = q.many ∙ p.many;
  new = p.new ++ q.new;
  history = q.history ∙ ap (λ h. h ++ q.new) p.history ∙ append_assoc b.history p.new q.new;
  later = All-append (IsLaterOf s) p.new q.new p.later q.later;
  others = λ i ne. stays_trans b m n i (p.others i ne) (q.others i ne);
}

-- one slot is written, and so many events of the step have come
goes_set : (s : ℕ) (b n : Built) (t : Slot) (new : List Event) → n.job ≡ b.job → n.no_memory ≡ b.no_memory → n.slots ≡ set b.slots s t → n.history ≡ b.history ++ new → All (IsLaterOf s) new → GoesOn s b n
goes_set s b n t new job no_memory slots history later = record {
  job = job;
  no_memory = no_memory;
  many = ap length slots ∙ length-set b.slots s t;
  new = new;
  history = history;
  later = later;
  others = λ i ne. inl (ap (λ (x : Slot). x.mark) (ap (λ l. slot_at l i) slots ∙ get_or-set_other b.slots s i t no_slot ne));
}

one_later : (s : ℕ) (e : Event) → step_of e ≡ s → ((r : ℕ) → e ≢ Start r) → All (IsLaterOf s) (e ∷ [])
one_later s e of no_start = All-cons (IsLaterOf s) e [] (record { of = of; no_start = no_start }) (All-nil (IsLaterOf s))

-- the slot that was written
own_slot : (b : Built) (s : ℕ) (t : Slot) → s < length b.slots → slot_at (set b.slots s t) s ≡ t
own_slot b s t lt = get_or-set_same b.slots s t no_slot lt

-- nothing halts by an event that isn't a failure
going_more : (b : Built) (e : Event) (s : ℕ) (t : Slot) → is_failure e ≡ false → is_halted b ≡ false → is_halted (moved b e s t) ≡ false
going_more b e s t calm go = ap (λ x. x || b.no_memory) (failed_more b.history e calm) ∙ go

started_after : (c : Bool) → is_started (cond c Ready Taking) ≡ true
started_after true = refl
started_after false = refl

pub take_goes : (s : ℕ) (b n : Built) → n ≡ took b s → GoesOn s b n
take_goes s b n is =
    subst (GoesOn s b) (sym is) (goes_set s b (took b s) (with_take b s) _ refl refl refl refl (one_later s _ refl (λ r q. cc)))

pub take_going : (s : ℕ) (b n : Built) → n ≡ took b s → is_halted b ≡ false → is_halted n ≡ false
take_going s b n is go = ap is_halted is ∙ going_more b _ s (with_take b s) refl go

pub take_started : (s : ℕ) (b n : Built) → s < length b.slots → n ≡ took b s → is_started (mark_at n s) ≡ true
take_started s b n lt is =
    ap (λ (x : Built). is_started (mark_at x s)) is ∙ ap (λ (t : Slot). is_started t.mark) (own_slot b s (with_take b s) lt)
    ∙ started_after (length (slot_at b.slots s).inputs.lists + 1 == length (consumes_at b.job s))

taking_at : (job : JobView) (h : List Event) (s : ℕ) (t : Slot) (m : Mark) → AtMark job s t h m → m ≡ Taking → length t.inputs.lists < length (consumes_at job s)
taking_at job h s t Unneeded a q = cc q
taking_at job h s t Waiting a q = cc q
taking_at job h s t Released a q = cc q
taking_at job h s t Taking a q = a.1
taking_at job h s t Ready a q = cc q
taking_at job h s t Putting a q = cc q
taking_at job h s t Failing a q = cc q
taking_at job h s t Ended a q = cc q
taking_at job h s t Failed a q = cc q

-- how many takes the step has left
abbrev pub takes_left : ℕ → Built → ℕ
takes_left s b = length (consumes_at b.job s) - length (slot_at b.slots s).inputs.lists

-- with a take, one less is left
pub take_less : (s : ℕ) (b n : Built) → IsState b.job b.history b.slots → s < length b.job.plan.steps → mark_at b s ≡ Taking → n ≡ took b s → takes_left s n < takes_left s b
take_less s b n st lt taking is =
    let within : s < length b.slots = omega (arith, lt, st.many) in
    let more : length (slot_at b.slots s).inputs.lists < length (consumes_at b.job s) = taking_at b.job b.history s (slot_at b.slots s) (mark_at b s) (st.each s lt) taking in
    let same : length (consumes_at n.job s) ≡ length (consumes_at b.job s) = ap (λ (x : Built). length (consumes_at x.job s)) is in
    let lists : (slot_at n.slots s).inputs.lists ≡ (with_take b s).inputs.lists = ap (λ (x : Built). (slot_at x.slots s).inputs.lists) is ∙ ap (λ (t : Slot). t.inputs.lists) (own_slot b s (with_take b s) within) in
    let long : length (with_take b s).inputs.lists ≡ length (slot_at b.slots s).inputs.lists + 1 = length-append (slot_at b.slots s).inputs.lists _ in
    omega (arith, more, same, ap length lists, long)

pub evaluated_goes : (s : ℕ) (b n : Built) (o : Outcome) → n ≡ evaluated b s o → GoesOn s b n
evaluated_goes s b n o is =
    subst (GoesOn s b) (sym is) (goes_set s b (evaluated b s o) (settled b.job s (slot_at b.slots s) o) [] refl refl refl (sym (append-nil b.history)) (All-nil (IsLaterOf s)))

-- what a put does, whichever it is
pub record PutsOne (s : ℕ) (b n : Built) : Type 0 where
  pub goes : GoesOn s b n
  pub going : is_halted n ≡ false
  pub putting : mark_at n s ≡ Putting
  pub less : length (slot_at n.slots s).left < length (slot_at b.slots s).left

put_one_is : (s : ℕ) (b n : Built) (p : ℕ × Value) (rest : List (ℕ × Value)) → s < length b.slots → mark_at b s ≡ Putting → is_halted b ≡ false → (slot_at b.slots s).left ≡ p ∷ rest → n ≡ put_one b s p rest → PutsOne s b n
put_one_is s b n p rest lt putting go left is =
    let t : Slot = record (slot_at b.slots s) { made = (slot_at b.slots s).made + 1; left = rest } in
    let own : slot_at n.slots s ≡ t = ap (λ (x : Built). slot_at x.slots s) is ∙ own_slot b s t lt in
    record {
      goes = subst (GoesOn s b) (sym is) (goes_set s b (put_one b s p rest) t _ refl refl refl refl (one_later s _ refl (λ r q. cc)));
      going = ap is_halted is ∙ going_more b (Put s p.0 p.1) s t refl go;
      putting = ap (λ (x : Slot). x.mark) own ∙ putting;
      less = omega (arith, ap (λ (x : Slot). length x.left) own, ap length left);
    }

put_case : (s : ℕ) (b n : Built) (left : List (ℕ × Value)) → s < length b.slots → mark_at b s ≡ Putting → is_halted b ≡ false → (slot_at b.slots s).left ≡ left → 0 < length left
    → ((p : ℕ × Value) (rest : List (ℕ × Value)) → (slot_at b.slots s).left ≡ p ∷ rest → n ≡ put_one b s p rest) → PutsOne s b n
put_case s b n [] lt putting go left some is = absurd (omega (arith, some))
put_case s b n (p ∷ rest) lt putting go left some is = put_one_is s b n p rest lt putting go left (is p rest left)

pub put_goes : (s : ℕ) (b n : Built) → s < length b.slots → mark_at b s ≡ Putting → is_halted b ≡ false → 0 < length (slot_at b.slots s).left
    → ((p : ℕ × Value) (rest : List (ℕ × Value)) → (slot_at b.slots s).left ≡ p ∷ rest → n ≡ put_one b s p rest) → PutsOne s b n
put_goes s b n lt putting go some is = put_case s b n (slot_at b.slots s).left lt putting go refl some is

-- what ends a step
pub record Closes (s : ℕ) (b n : Built) : Type 0 where
  pub goes : GoesOn s b n
  pub closed : open_at (mark_at n s) ≡ 0

failing_at : (job : JobView) (h : List Event) (s : ℕ) (t : Slot) (m : Mark) → AtMark job s t h m → m ≡ Failing → (r : Reason) × (t.reason ≡ Some r)
failing_at job h s t Unneeded a q = cc q
failing_at job h s t Waiting a q = cc q
failing_at job h s t Released a q = cc q
failing_at job h s t Taking a q = cc q
failing_at job h s t Ready a q = cc q
failing_at job h s t Putting a q = cc q
failing_at job h s t Failing a q = (a.0, a.3)
failing_at job h s t Ended a q = cc q
failing_at job h s t Failed a q = cc q

-- a step that fails has its reason
pub failing_in : (b : Built) (s : ℕ) → IsState b.job b.history b.slots → s < length b.job.plan.steps → mark_at b s ≡ Failing → (r : Reason) × ((slot_at b.slots s).reason ≡ Some r)
failing_in b s st lt failing = failing_at b.job b.history s (slot_at b.slots s) (mark_at b s) (st.each s lt) failing

pub fail_goes : (s : ℕ) (b n : Built) → IsState b.job b.history b.slots → s < length b.job.plan.steps → mark_at b s ≡ Failing → ((r : Reason) → (slot_at b.slots s).reason ≡ Some r → n ≡ failed_with b s r) → Closes s b n
fail_goes s b n st lt failing does =
    let why = failing_in b s st lt failing in
    let is : n ≡ failed_with b s why.0 = does why.0 why.1 in
    let t : Slot = record (slot_at b.slots s) { mark = Failed; reason = None } in
    let within : s < length b.slots = omega (arith, lt, st.many) in
    record {
      goes = subst (GoesOn s b) (sym is) (goes_set s b (failed_with b s why.0) t _ refl refl refl refl (one_later s _ refl (λ r q. cc)));
      closed = ap (λ (x : Built). open_at (mark_at x s)) is ∙ ap (λ (x : Slot). open_at x.mark) (own_slot b s t within);
    }

fresh_mark : (job : JobView) (h : List Event) (i : ℕ) (t : Slot) (m : Mark) → AtMark job i t h m → Needs job i → events_of i h ≡ [] → (m ≡ Waiting) ⊎ (m ≡ Released)
fresh_mark job h i t Unneeded a need none = absurd (a.0 need)
fresh_mark job h i t Waiting a need none = inl refl
fresh_mark job h i t Released a need none = inr refl
fresh_mark job h i t Taking a need none = let z = sym a.0.are ∙ none in cc z
fresh_mark job h i t Ready a need none = let z = sym a.0.are ∙ none in cc z
fresh_mark job h i t Putting a need none = let z = sym a.1.are ∙ none in cc z
fresh_mark job h i t Failing a need none = let z = sym a.1.are ∙ none in cc z
fresh_mark job h i t Ended a need none = let z = sym a.2.are ∙ none in cc z
fresh_mark job h i t Failed a need none = let z = sym a.1.are ∙ none in cc z

-- a step that is released by an end waited before, or was released
was_waiting : (b n : Built) (s i : ℕ) (told : List ℕ) → HasEnded b n s told → IsState b.job b.history b.slots → IsState n.job n.history n.slots → i ≢ s → i < length b.slots → mark_at n i ≡ Released → StaysOrReleases b n i
was_waiting b n s i told has st after ne il is =
    let inside : i < length b.job.plan.steps = omega (arith, il, st.many) in
    let inside' : i < length n.job.plan.steps = subst (λ (j : JobView). i < length j.plan.steps) (sym has.job) inside in
    let may : MayStart n.job n.history i = may_in n.job n.history n.slots after i inside' is in
    let need : Needs b.job i = subst (λ (j : JobView). Needs j i) has.job may.needed in
    let none : events_of i b.history ≡ [] = sym (events_of-other i b.history (End s (slot_at b.slots s).calls) (ne_eqb s i (λ r. ne (sym r)))) ∙ ap (events_of i) (sym has.history) ∙ may.fresh in
    elim (fresh_mark b.job b.history i (slot_at b.slots i) (mark_at b i) (st.each i inside) need none) [
      | inl w ↦ inr (w, is)
      | inr w ↦ inl (is ∙ sym w)
    ]

end_others : (b n : Built) (s i : ℕ) (told : List ℕ) → HasEnded b n s told → IsState b.job b.history b.slots → IsState n.job n.history n.slots → i ≢ s → (i < length b.slots) ⊎ (length b.slots ≤ i) → (Contains told i) ⊎ (Contains told i → ⊥) → StaysOrReleases b n i
end_others b n s i told has st after ne (inl il) (inl c) = was_waiting b n s i told has st after ne il (ap (λ (t : Slot). t.mark) ((has.slots i il).1 ne c))
end_others b n s i told has st after ne (inl il) (inr c) = inl (ap (λ (t : Slot). t.mark) ((has.slots i il).2 ne c))
end_others b n s i told has st after ne (inr il) d =
    inl (ap (λ (t : Slot). t.mark) (get_or_past n.slots i no_slot (omega (arith, il, has.many)) ∙ sym (get_or_past b.slots i no_slot il)))

pub end_goes : (s : ℕ) (b n : Built) (told : List ℕ) → HasEnded b n s told → IsState b.job b.history b.slots → IsState n.job n.history n.slots → s < length b.job.plan.steps → Closes s b n
end_goes s b n told has st after lt =
    let within : s < length b.slots = omega (arith, lt, st.many) in
    record {
      goes = record {
        job = has.job;
        no_memory = has.no_memory;
        many = has.many;
        new = End s (slot_at b.slots s).calls ∷ [];
        history = has.history;
        later = one_later s _ refl (λ r q. cc);
        others = λ i ne. end_others b n s i told has st after ne (cases_lt i (length b.slots)) (decide told i);
      };
      closed = ap (λ (t : Slot). open_at t.mark) ((has.slots s within).0 refl);
    }

-- how many steps are yet to end
abbrev pub open_in : Built → ℕ
open_in b = sum_by (λ (t : Slot). open_at t.mark) b.slots

open_stays : (b n : Built) (i : ℕ) → StaysOrReleases b n i → open_at (mark_at n i) ≡ open_at (mark_at b i)
open_stays b n i (inl p) = ap open_at p
open_stays b n i (inr p) = ap open_at p.1 ∙ sym (ap open_at p.0)

started_stays : (b n : Built) (i : ℕ) → StaysOrReleases b n i → is_started (mark_at n i) ≡ is_started (mark_at b i)
started_stays b n i (inl p) = ap is_started p
started_stays b n i (inr p) = ap is_started p.1 ∙ sym (ap is_started p.0)

pub started_on : (s : ℕ) (b n : Built) → GoesOn s b n → (i : ℕ) → i ≢ s → is_started (mark_at n i) ≡ is_started (mark_at b i)
started_on s b n p i ne = started_stays b n i (p.others i ne)

pub closed_started : (m : Mark) → open_at m ≡ 0 → is_started m ≡ false
closed_started Unneeded q = refl
closed_started Waiting q = refl
closed_started Released q = refl
closed_started Taking q = absurd (omega (arith, q))
closed_started Ready q = absurd (omega (arith, q))
closed_started Putting q = absurd (omega (arith, q))
closed_started Failing q = absurd (omega (arith, q))
closed_started Ended q = refl
closed_started Failed q = refl

sum_less : (f : Slot → ℕ) (xs ys : List Slot) (s : ℕ) → length ys ≡ length xs → s < length xs → ((i : ℕ) → i ≢ s → f (slot_at ys i) ≡ f (slot_at xs i)) → f (slot_at ys s) < f (slot_at xs s) → sum_by f ys < sum_by f xs
sum_less f [] ys s e lt same less = absurd (omega (arith, lt))
sum_less f (x ∷ xs) [] s e lt same less = absurd (omega (arith, e))
sum_less f (x ∷ xs) (y ∷ ys) zero e lt same less =
    let rest : sum_by f ys ≡ sum_by f xs = sum_same f ys xs (omega (arith, e)) (λ i. same (suc i) (λ q. cc q)) in
    let a : sum_by f (x ∷ xs) ≡ f x + sum_by f xs = sum_by-cons f x xs in
    let b : sum_by f (y ∷ ys) ≡ f y + sum_by f ys = sum_by-cons f y ys in
    omega (arith, a, b, rest, less)
sum_less f (x ∷ xs) (y ∷ ys) (suc s) e lt same less =
    let rest : sum_by f ys < sum_by f xs = sum_less f xs ys s (omega (arith, e)) (omega (arith, lt)) (λ i ne. same (suc i) (λ q. ne (cc q))) less in
    let here : f y ≡ f x = same zero (λ q. cc q) in
    let a : sum_by f (x ∷ xs) ≡ f x + sum_by f xs = sum_by-cons f x xs in
    let b : sum_by f (y ∷ ys) ≡ f y + sum_by f ys = sum_by-cons f y ys in
    omega (arith, a, b, rest, here)

-- with a step that has run to its end, one less is yet to end
pub fewer : (s : ℕ) (b n : Built) → GoesOn s b n → open_at (mark_at n s) ≡ 0 → s < length b.slots → open_at (mark_at b s) ≡ 1 → open_in n < open_in b
fewer s b n p closed lt was =
    sum_less (λ (t : Slot). open_at t.mark) b.slots n.slots s p.many lt (λ i ne. open_stays b n i (p.others i ne)) (omega (arith, closed, was))

-- the step is one of those that the state has
pub within : (s : ℕ) (f b : Built) → IsState f.job f.history f.slots → GoesOn s f b → s < length f.job.plan.steps → s < length b.slots
within s f b st p lt = omega (arith, st.many, p.many, lt)
