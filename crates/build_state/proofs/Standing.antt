-- What stands in the history where a step stands.
use Rattle.std.proofs.Common.{◌≡◌, ◌≢◌, ℕ, ◌<◌, length, List, [], ◌∷◌, ◌++◌, Bool, true, false, ◌||◌, ◌==◌, cond, refl, sym, ap, ◌∙◌, subst, ◌⊎◌, inl, inr}
use Rattle.std.proofs.lemmas.Bool.{eqb-true}
use Rattle.step_state.specs.declared.outcome.Reason.{Reason}
use Rattle.build_history.specs.declared.event.Event.{Event}
use Rattle.build_history.specs.declared.event.Event.TheVariants.{Fail}
use Rattle.build_history.specs.Events.{step_of, events_of, has_failed, is_failure}
use Rattle.build_history.specs.Jobs.{JobView, Needs}
use Rattle.build_history.specs.Kinds.{MayStart}
use Rattle.build_history.specs.Scripts.{puts_of, kept, opening}
use Rattle.build_history.proofs.CallerLemmas.{has_failed-append}
use Rattle.build_state.specs.declared.mark.Mark.{Mark}
use Rattle.build_state.specs.declared.mark.Mark.TheVariants.{Unneeded, Waiting, Released, Taking, Ready, Putting, Failing, Ended, Failed}
use Rattle.build_state.specs.declared.slot.Slot.{Slot}
use Rattle.build_state.specs.Busy.{is_started}
use Rattle.build_state.specs.Marks.{slot_at, AtMark, IsState}
use Rattle.build_state.proofs.Finish.{needed_in, has_ended}
use Rattle.build_state.specs.Turns.{IsOver}

-- an event of the step, and where it stands
abbrev HasOne : ℕ → List Event → Type 0
HasOne s h = (g : List Event) × (k : List Event) × (e : Event) × (h ≡ g ++ e ∷ k) × (step_of e ≡ s)

one_at : (s : ℕ) (e : Event) (h : List Event) (b : Bool) → (step_of e == s) ≡ b → (events_of s h ≢ [] → HasOne s h) → cond b (e ∷ events_of s h) (events_of s h) ≢ [] → HasOne s (e ∷ h)
one_at s e h true q rec some = ([], h, e, refl, eqb-true (step_of e) s q)
one_at s e h false q rec some = let w = rec some in (e ∷ w.0, w.1, w.2, ap (λ l. e ∷ l) w.3, w.4)

one_of : (s : ℕ) (h : List Event) → events_of s h ≢ [] → HasOne s h
one_of s [] some = absurd (some refl)
one_of s (e ∷ h) some = one_at s e h (step_of e == s) refl (one_of s h) some

or_right : (a b : Bool) → b ≡ true → (a || b) ≡ true
or_right true b q = refl
or_right false b q = q

or_split : (a b : Bool) → (a || b) ≡ true → (a ≡ true) ⊎ (b ≡ true)
or_split true b q = inl refl
or_split false b q = inr q

part_failed_at : (s : ℕ) (e : Event) (h : List Event) (b : Bool) → (has_failed (events_of s h) ≡ true → has_failed h ≡ true)
    → has_failed (cond b (e ∷ events_of s h) (events_of s h)) ≡ true → (is_failure e || has_failed h) ≡ true
part_failed_at s e h true rec q = elim (or_split (is_failure e) (has_failed (events_of s h)) q) [
  | inl l ↦ ap (λ b. b || has_failed h) l
  | inr r ↦ or_right (is_failure e) (has_failed h) (rec r)
]
part_failed_at s e h false rec q = or_right (is_failure e) (has_failed h) (rec q)

-- a step's failure is the history's
part_failed : (s : ℕ) (h : List Event) → has_failed (events_of s h) ≡ true → has_failed h ≡ true
part_failed s [] q = q
part_failed s (e ∷ h) q = part_failed_at s e h (step_of e == s) (part_failed s h) q

last_failed : (before : List Event) (s : ℕ) (r : Reason) → has_failed (before ++ Fail s r ∷ []) ≡ true
last_failed before s r = has_failed-append before (Fail s r ∷ []) ∙ or_right (has_failed before) true refl

over_at : (job : JobView) (h : List Event) (s : ℕ) (t : Slot) (m : Mark) → AtMark job s t h m → has_failed h ≡ false → is_started m ≡ false → Needs job s → IsOver h s
over_at job h s t Unneeded a go idle need some = absurd (a.0 need)
over_at job h s t Waiting a go idle need some = absurd (some a.0.events)
over_at job h s t Released a go idle need some = absurd (some a.0.events)
over_at job h s t Taking a go idle need some = cc idle
over_at job h s t Ready a go idle need some = cc idle
over_at job h s t Putting a go idle need some = cc idle
over_at job h s t Failing a go idle need some = cc idle
over_at job h s t Ended a go idle need some = has_ended s h (opening job s t.inputs.lists ++ puts_of s (kept job s a.0)) a.1 a.2.are
over_at job h s t Failed a go idle need some =
    absurd (let z : true ≡ false = sym (part_failed s h (ap has_failed a.1.are ∙ last_failed (opening job s t.inputs.lists) s a.0)) ∙ go in cc)

-- a step that isn't under way is over
pub over_in : (job : JobView) (h : List Event) (slots : List Slot) → IsState job h slots → has_failed h ≡ false → (s : ℕ) → is_started (slot_at slots s).mark ≡ false → IsOver h s
over_in job h slots st go s idle some =
    let w = one_of s h some in
    let need : Needs job s = subst (Needs job) w.4 (st.run.needed w.0 w.1 w.2 w.3) in
    over_at job h s (slot_at slots s) (slot_at slots s).mark (st.each s (needed_in job s need)) go idle need some

some_at : (job : JobView) (h : List Event) (s : ℕ) (t : Slot) (m : Mark) → AtMark job s t h m → is_started m ≡ true → events_of s h ≢ []
some_at job h s t Unneeded a is none = cc is
some_at job h s t Waiting a is none = cc is
some_at job h s t Released a is none = cc is
some_at job h s t Taking a is none = let z = sym a.0.are ∙ none in cc z
some_at job h s t Ready a is none = let z = sym a.0.are ∙ none in cc z
some_at job h s t Putting a is none = let z = sym a.1.are ∙ none in cc z
some_at job h s t Failing a is none = let z = sym a.1.are ∙ none in cc z
some_at job h s t Ended a is none = cc is
some_at job h s t Failed a is none = cc is

-- a step that is under way has an event
pub some_in : (job : JobView) (h : List Event) (slots : List Slot) → IsState job h slots → (s : ℕ) → s < length job.plan.steps → is_started (slot_at slots s).mark ≡ true → events_of s h ≢ []
some_in job h slots st s lt is = some_at job h s (slot_at slots s) (slot_at slots s).mark (st.each s lt) is

may_at : (job : JobView) (h : List Event) (s : ℕ) (t : Slot) (m : Mark) → AtMark job s t h m → m ≡ Released → MayStart job h s
may_at job h s t Unneeded a q = cc q
may_at job h s t Waiting a q = cc q
may_at job h s t Released a q = record { needed = a.0.needed; fresh = a.0.events; released = a.1 }
may_at job h s t Taking a q = cc q
may_at job h s t Ready a q = cc q
may_at job h s t Putting a q = cc q
may_at job h s t Failing a q = cc q
may_at job h s t Ended a q = cc q
may_at job h s t Failed a q = cc q

-- a released step may start
pub may_in : (job : JobView) (h : List Event) (slots : List Slot) → IsState job h slots → (s : ℕ) → s < length job.plan.steps → (slot_at slots s).mark ≡ Released → MayStart job h s
may_in job h slots st s lt q = may_at job h s (slot_at slots s) (slot_at slots s).mark (st.each s lt) q

released_at : (job : JobView) (h : List Event) (s : ℕ) (t : Slot) (m : Mark) → AtMark job s t h m → MayStart job h s → m ≡ Released
released_at job h s t Unneeded a may = absurd (a.0 may.needed)
released_at job h s t Waiting a may = absurd (a.1 may.released)
released_at job h s t Released a may = refl
released_at job h s t Taking a may = let z = sym a.0.are ∙ may.fresh in cc z
released_at job h s t Ready a may = let z = sym a.0.are ∙ may.fresh in cc z
released_at job h s t Putting a may = let z = sym a.1.are ∙ may.fresh in cc z
released_at job h s t Failing a may = let z = sym a.1.are ∙ may.fresh in cc z
released_at job h s t Ended a may = let z = sym a.2.are ∙ may.fresh in cc z
released_at job h s t Failed a may = let z = sym a.1.are ∙ may.fresh in cc z

-- where no lesser step is released, none may start
pub least_in : (job : JobView) (h : List Event) (slots : List Slot) → IsState job h slots → (s : ℕ) → ((k : ℕ) → k < s → (slot_at slots k).mark ≢ Released) → (p : ℕ) → p < s → MayStart job h p → ⊥
least_in job h slots st s none p lt may = none p lt (released_at job h p (slot_at slots p) (slot_at slots p).mark (st.each p (needed_in job p may.needed)) may)
