-- Where no step can move, the run is finished.
use Rattle.std.proofs.Common.{◌≡◌, ℕ, zero, suc, ◌<◌, ◌≤◌, ◌+◌, length, List, [], ◌∷◌, ◌++◌, Contains, arith, Bool, true, false, ◌||◌, ◌==◌, cond, refl, sym, ap, ◌∙◌, subst, ◌⊎◌, inl, inr}
use Rattle.std.proofs.lemmas.Bool.{cases_lt}
use Rattle.std.proofs.lemmas.Grind.{flat_map-append}
use Rattle.std.proofs.lemmas.List.Elements.{Contains-append_left, Contains-append_right, Contains-append_cases}
use Rattle.step_state.specs.declared.outcome.Reason.{Reason}
use Rattle.recorder_proxy.specs.declared.call.Call.{Call}
use Rattle.chain_builder.specs.EffectiveProducer.{produced}
use Rattle.chain_builder.specs.Lists.{list_at}
use Rattle.chain_builder.specs.Rank.{HasRank}
use Rattle.dep_counter.proofs.CallerLemmas.{in_none, in_head}
use Rattle.build_history.specs.declared.event.Event.{Event}
use Rattle.build_history.specs.declared.event.Event.TheVariants.{Start, Take, Put, End, Fail}
use Rattle.build_history.proofs.CallerLemmas.{has_failed-append}
use Rattle.build_history.specs.Events.{step_of, events_of, ended, end_of, has_failed, is_failure}
use Rattle.build_history.specs.Jobs.{JobView, Needs, Precedes}
use Rattle.build_history.specs.Kinds.{IsFinished}
use Rattle.build_history.specs.Scripts.{puts_of, kept, opening}
use Rattle.build_state.specs.declared.mark.Mark.{Mark}
use Rattle.build_state.specs.declared.mark.Mark.TheVariants.{Unneeded, Waiting, Released, Taking, Ready, Putting, Failing, Ended, Failed}
use Rattle.build_state.specs.declared.slot.Slot.{Slot}
use Rattle.build_state.specs.Busy.{is_busy}
use Rattle.build_state.specs.Marks.{slot_at, AtMark, IsState}

at_past : {X Y : Type 0} (f : X → List Y) (xs : List X) (i : ℕ) → length xs ≤ i → list_at f xs i ≡ []
at_past f [] i le = refl
at_past f (x ∷ xs) zero le = absurd (omega (arith, le))
at_past f (x ∷ xs) (suc i) le = at_past f xs i (omega (arith, le))

-- a needed step is one of the job's
pub needed_in : (job : JobView) (s : ℕ) → Needs job s → s < length job.plan.steps
needed_in job s n = elim (cases_lt s (length job.plan.steps)) [
  | inl l ↦ l
  | inr l ↦ absurd (in_none n.leads.0.1.production (subst (λ ps. Contains ps n.leads.0.1.production) (at_past produced job.plan.steps s l) n.leads.0.1.declared))
]

-- what stands among a step's events stands in the history
part_at : (s : ℕ) (e : Event) (h : List Event) (b : Bool) → (Contains (ended (events_of s h)) s → Contains (ended h) s)
    → Contains (ended (cond b (e ∷ events_of s h) (events_of s h))) s → Contains (end_of e ++ ended h) s
part_at s e h true rec c = elim (Contains-append_cases (end_of e) (ended (events_of s h)) s c) [
  | inl l ↦ Contains-append_left (end_of e) (ended h) s l
  | inr r ↦ Contains-append_right (end_of e) (ended h) s (rec r)
]
part_at s e h false rec c = Contains-append_right (end_of e) (ended h) s (rec c)

pub ended_part : (s : ℕ) (h : List Event) → Contains (ended (events_of s h)) s → Contains (ended h) s
ended_part s [] c = c
ended_part s (e ∷ h) c = part_at s e h (step_of e == s) (ended_part s h) c

-- after its end a step has ended
pub has_ended : (s : ℕ) (h before : List Event) (calls : List Call) → events_of s h ≡ before ++ End s calls ∷ [] → Contains (ended h) s
has_ended s h before calls are =
    let parts : ended (before ++ End s calls ∷ []) ≡ ended before ++ s ∷ [] = flat_map-append end_of before (End s calls ∷ []) in
    ended_part s h (subst (λ l. Contains l s) (sym (ap ended are ∙ parts)) (Contains-append_right (ended before) (s ∷ []) s (in_head s [])))

failure_at : (e : Event) (b : Bool) → is_failure e ≡ b → (b ≡ true → (s : ℕ) × (r : Reason) × (e ≡ Fail s r))
failure_at (Start s) b q t = absurd (let z : false ≡ true = q ∙ t in cc)
failure_at (Take s i v) b q t = absurd (let z : false ≡ true = q ∙ t in cc)
failure_at (Put s i v) b q t = absurd (let z : false ≡ true = q ∙ t in cc)
failure_at (End s c) b q t = absurd (let z : false ≡ true = q ∙ t in cc)
failure_at (Fail s r) b q t = (s, r, refl)

or_right : (a b : Bool) → b ≡ true → (a || b) ≡ true
or_right true b q = refl
or_right false b q = q

or_split : (a b : Bool) → (a || b) ≡ true → (a ≡ true) ⊎ (b ≡ true)
or_split true b q = inl refl
or_split false b q = inr q

-- a history with a failure
failed_split : (h : List Event) → has_failed h ≡ true → (g : List Event) × (k : List Event) × (s : ℕ) × (r : Reason) × (h ≡ g ++ Fail s r ∷ k)
failed_split [] q = cc
failed_split (e ∷ h) q = elim (or_split (is_failure e) (has_failed h) q) [
  | inl w ↦ let f = failure_at e (is_failure e) refl w in ([], h, f.0, f.1, ap (λ x. x ∷ h) f.2)
  | inr w ↦ let r = failed_split h w in (e ∷ r.0, r.1, r.2, r.3, ap (λ x. e ∷ x) r.4)
]

pub failed_finished : (job : JobView) (h : List Event) (slots : List Slot) → IsState job h slots → has_failed h ≡ true → IsFinished job h
failed_finished job h slots st q =
    let w = failed_split h q in
    let none : w.1 ≡ [] = st.run.failures w.0 w.1 w.2 w.3 w.4 in
    record { run = st.run; done = inr (w.0, w.2, w.3, w.4 ∙ ap (λ k. w.0 ++ Fail w.2 w.3 ∷ k) none) }

part_failed_at : (s : ℕ) (e : Event) (h : List Event) (b : Bool) → (has_failed (events_of s h) ≡ true → has_failed h ≡ true)
    → has_failed (cond b (e ∷ events_of s h) (events_of s h)) ≡ true → (is_failure e || has_failed h) ≡ true
part_failed_at s e h true rec q = elim (or_split (is_failure e) (has_failed (events_of s h)) q) [
  | inl l ↦ ap (λ b. b || has_failed h) l
  | inr r ↦ or_right (is_failure e) (has_failed h) (rec r)
]
part_failed_at s e h false rec q = or_right (is_failure e) (has_failed h) (rec q)

part_failed : (s : ℕ) (h : List Event) → has_failed (events_of s h) ≡ true → has_failed h ≡ true
part_failed s [] q = q
part_failed s (e ∷ h) q = part_failed_at s e h (step_of e == s) (part_failed s h) q

last_failed : (before : List Event) (s : ℕ) (r : Reason) → has_failed (before ++ Fail s r ∷ []) ≡ true
last_failed before s r = has_failed-append before (Fail s r ∷ []) ∙ or_right (has_failed before) true refl

-- a step that is needed and can't move has ended, where each earlier one has
ended_at : (job : JobView) (h : List Event) (s : ℕ) (t : Slot) (m : Mark) → AtMark job s t h m → has_failed h ≡ false → is_busy m ≡ false → Needs job s
    → ((p : ℕ) → Precedes job p s → Contains (ended h) p) → Contains (ended h) s
ended_at job h s t Unneeded a go idle need below = absurd (a.0 need)
ended_at job h s t Waiting a go idle need below = absurd (a.1 below)
ended_at job h s t Released a go idle need below = cc idle
ended_at job h s t Taking a go idle need below = cc idle
ended_at job h s t Ready a go idle need below = cc idle
ended_at job h s t Putting a go idle need below = cc idle
ended_at job h s t Failing a go idle need below = cc idle
ended_at job h s t Ended a go idle need below = has_ended s h (opening job s t.inputs.lists ++ puts_of s (kept job s a.0)) a.1 a.2.are
ended_at job h s t Failed a go idle need below =
    absurd (let z : true ≡ false = sym (part_failed s h (ap has_failed a.1.are ∙ last_failed (opening job s t.inputs.lists) s a.0)) ∙ go in cc)

all_ended : (job : JobView) (h : List Event) (slots : List Slot) → IsState job h slots → has_failed h ≡ false → ((s : ℕ) → s < length job.plan.steps → is_busy (slot_at slots s).mark ≡ false)
    → (rank : ℕ → ℕ) → ((p s : ℕ) → Precedes job p s → rank p < rank s) → (n s : ℕ) → rank s < n → Needs job s → Contains (ended h) s
all_ended job h slots st go idle rank rises zero s lt need = absurd (omega (arith, lt))
all_ended job h slots st go idle rank rises (suc n) s lt need =
    let inside : s < length job.plan.steps = needed_in job s need in
    ended_at job h s (slot_at slots s) (slot_at slots s).mark (st.each s inside) go (idle s inside) need
    (λ p e. all_ended job h slots st go idle rank rises n p (let r : rank p < rank s = rises p s e in omega (arith, lt, r)) e.producer_needed)

pub idle_finished : (job : JobView) (h : List Event) (slots : List Slot) → IsState job h slots → has_failed h ≡ false → ((s : ℕ) → s < length job.plan.steps → is_busy (slot_at slots s).mark ≡ false)
    → HasRank job.plan.steps job.plan.finals → IsFinished job h
idle_finished job h slots st go idle ranked = record {
  run = st.run;
  done = inl (λ s need. all_ended job h slots st go idle ranked.rank ranked.rises (ranked.rank s + 1) s (omega arith) need);
}
