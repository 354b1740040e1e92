-- Each event of a state, over its history and its slots.
use Rattle.std.proofs.Common.{◌≡◌, ℕ, ◌<◌, ◌≤◌, ◌+◌, length, get_or, take, set, List, [], ◌∷◌, ◌++◌, arith, Bool, true, false, ◌==◌, cond, refl, sym, ap, ◌∙◌, subst, Some, None}
use mathlib.Core.List.{IsPrefix}
use Rattle.std.proofs.lemmas.Bool.{eqb-true, eqb-false, eq-eqb}
use Rattle.std.proofs.lemmas.List.{append-nil, length_push}
use Rattle.item_types.specs.declared.step.Consume.{Consume}
use Rattle.item_types.specs.declared.value.Value.{Value}
use Rattle.step_state.specs.declared.outcome.Reason.{Reason}
use Rattle.step_state.specs.declared.outcome.Outcome.{Outcome}
use Rattle.step_state.specs.declared.outcome.Outcome.TheVariants.{Done, Fails}
use Rattle.build_history.specs.declared.event.Event.{Event}
use Rattle.build_history.specs.declared.event.Event.TheVariants.{Start, Take, Put, Fail}
use Rattle.build_history.specs.Events.{events_of, taken, has_failed}
use Rattle.build_history.specs.Jobs.{JobView, consumes_at, meaning_at}
use Rattle.build_history.specs.Scripts.{takes_of, puts_of, kept, opening, script}
use Rattle.build_history.specs.Runs.{found_in}
use Rattle.build_history.proofs.CallerLemmas.{events_of-same}
use Rattle.build_history.specs.Follow.{MayFollow}
use Rattle.build_state.specs.declared.mark.Mark.{Mark}
use Rattle.build_state.specs.declared.mark.Mark.TheVariants.{Released, Taking, Ready, Putting, Failing, Failed}
use Rattle.build_state.specs.declared.slot.Slot.{Slot}
use Rattle.build_history.specs.Next.{no_consume}
use Rattle.build_state.specs.Built.{mark_after, settled}
use Rattle.build_state.specs.Marks.{slot_at, HasWaited, IsFresh, HasBegun, IsDone, IsLost, IsPartly, AtMark, IsState}
use Rattle.build_state.proofs.Scripts.{taken_opening, taken_before, takes_more, Heads, heads, scripted_by, start_next, take_next, put_more, put_next, fail_next}
use Rattle.build_state.proofs.Steps.{waits_on, state_more, keep_state}

pub eq_refl : (n : ℕ) → (n == n) ≡ true
eq_refl n = eq-eqb n n refl

takes_none : (s : ℕ) (cs : List Consume) → takes_of s cs [] ≡ []
takes_none s [] = refl
takes_none s (c ∷ cs) = refl

-- the step stands at this mark
pub at_mark : (job : JobView) (h : List Event) (slots : List Slot) (s : ℕ) (t : Slot) (m : Mark) → IsState job h slots → s < length job.plan.steps → slot_at slots s ≡ t → t.mark ≡ m → AtMark job s t h m
at_mark job h slots s t m st lt is q =
    let P : Slot → Type 0 = λ u. AtMark job s u h u.mark in
    let Q : Mark → Type 0 = λ x. AtMark job s t h x in
    subst Q q (subst P is (st.each s lt))

-- where a step stands that has done so many takes
after_takes : (job : JobView) (s : ℕ) (h : List Event) (t : Slot) (k : ℕ) (b : Bool) → (k == length (consumes_at job s)) ≡ b → k ≤ length (consumes_at job s)
    → HasBegun job s h (opening job s t.inputs.lists) → length t.inputs.lists ≡ k → t.left ≡ [] → AtMark job s t h (cond b Ready Taking)
after_takes job s h t k true q le begun many none = (begun, many ∙ eqb-true k (length (consumes_at job s)) q, none)
after_takes job s h t k false q le begun many none = (begun, (let ne = eqb-false k (length (consumes_at job s)) q in omega (arith, many)), none)

pub start_state : (job : JobView) (h : List Event) (slots : List Slot) (s : ℕ) (t t' : Slot)
    → IsState job h slots → has_failed h ≡ false → s < length job.plan.steps → slot_at slots s ≡ t → t.mark ≡ Released
    → t' ≡ record t { mark = mark_after job s 0 }
    → IsState job (h ++ Start s ∷ []) (set slots s t')
start_state job h slots s t t' st go lt slot mark new =
    let here = at_mark job h slots s t Released st lt slot mark in
    let f : IsFresh job s t h = here.0 in
    let w : HasWaited job s h = here.1 in
    let e : Event = Start s in
    let may : MayFollow job h e = record { open_yet = go; of_needed = f.needed; scripted = scripted_by job h e [] [] f.events refl (start_next job s); owes = w } in
    let u : Slot = record t { mark = mark_after job s 0 } in
    let are : events_of s (h ++ e ∷ []) ≡ opening job s t.inputs.lists
    = events_of-same s h e (eq_refl s) ∙ ap (λ z. z ++ e ∷ []) f.events ∙ ap (λ z. Start s ∷ z) (sym (takes_none s (consumes_at job s))) ∙ ap (opening job s) (sym f.inputs) in
    let begun : HasBegun job s (h ++ e ∷ []) (opening job s t.inputs.lists) = record { needed = f.needed; waited = waits_on job s h e w; are = are } in
    let at : AtMark job s u (h ++ e ∷ []) u.mark = after_takes job s (h ++ e ∷ []) u 0 (0 == length (consumes_at job s)) refl (omega arith) begun (ap length f.inputs) f.left in
    let P : Slot → Type 0 = λ x. IsState job (h ++ e ∷ []) (set slots s x) in
    subst P (sym new) (state_more job h slots e u st lt may refl at)

pub take_state : (job : JobView) (h : List Event) (slots : List Slot) (s : ℕ) (t t' : Slot) (item : ℕ) (x : List Value)
    → IsState job h slots → has_failed h ≡ false → s < length job.plan.steps → slot_at slots s ≡ t → t.mark ≡ Taking
    → item ≡ (get_or (consumes_at job s) (length t.inputs.lists) no_consume).item → x ≡ found_in job item h
    → t' ≡ record t { mark = mark_after job s (length t.inputs.lists + 1); inputs = record { lists = t.inputs.lists ++ x ∷ [] } }
    → IsState job (h ++ Take s item x ∷ []) (set slots s t')
take_state job h slots s t t' item x st go lt slot mark which values new =
    let here = at_mark job h slots s t Taking st lt slot mark in
    let b = here.0 in
    let vs : List (List Value) = t.inputs.lists in
    let few : length vs < length (consumes_at job s) = here.1 in
    let e : Event = Take s item x in
    let u : Slot = record t { mark = mark_after job s (length vs + 1); inputs = record { lists = vs ++ x ∷ [] } } in
    let P : ℕ → Type 0 = λ n. IsPrefix (opening job s vs ++ Take s n x ∷ []) (script job s (vs ++ x ∷ [])) in
    let pre : IsPrefix (opening job s vs ++ e ∷ []) (script job s (vs ++ x ∷ [])) = subst P (sym which) (take_next job s vs x few) in
    let may : MayFollow job h e = record {
      open_yet = go;
      of_needed = b.needed;
      scripted = scripted_by job h e (opening job s vs) (vs ++ x ∷ []) b.are (ap (λ z. z ++ x ∷ []) (taken_opening job s vs (omega (arith, few)))) pre;
      owes = values;
    } in
    let are : events_of s (h ++ e ∷ []) ≡ opening job s (vs ++ x ∷ [])
    = events_of-same s h e (eq_refl s) ∙ ap (λ z. z ++ e ∷ []) b.are ∙ ap (λ n. (Start s ∷ takes_of s (consumes_at job s) vs) ++ Take s n x ∷ []) which
    ∙ ap (λ z. Start s ∷ z) (sym (takes_more s (consumes_at job s) vs x few)) in
    let begun : HasBegun job s (h ++ e ∷ []) (opening job s (vs ++ x ∷ [])) = record { needed = b.needed; waited = waits_on job s h e b.waited; are = are } in
    let at : AtMark job s u (h ++ e ∷ []) u.mark = after_takes job s (h ++ e ∷ []) u (length vs + 1) (length vs + 1 == length (consumes_at job s)) refl (omega (arith, few)) begun (length_push vs x) here.2 in
    let Q : Slot → Type 0 = λ y. IsState job (h ++ e ∷ []) (set slots s y) in
    subst Q (sym new) (state_more job h slots e u st lt may refl at)

pub put_state : (job : JobView) (h : List Event) (slots : List Slot) (s : ℕ) (t t' : Slot) (p : ℕ × Value) (rest : List (ℕ × Value))
    → IsState job h slots → has_failed h ≡ false → s < length job.plan.steps → slot_at slots s ≡ t → t.mark ≡ Putting
    → t.left ≡ p ∷ rest → t' ≡ record t { made = t.made + 1; left = rest }
    → IsState job (h ++ Put s p.0 p.1 ∷ []) (set slots s t')
put_state job h slots s t t' p rest st go lt slot mark left new =
    let here = at_mark job h slots s t Putting st lt slot mark in
    let all : List (ℕ × Value) = here.0 in
    let b = here.1 in
    let done : IsDone job s t all t.calls = here.2 in
    let partly : IsPartly t (kept job s all) = here.3 in
    let vs : List (List Value) = t.inputs.lists in
    let ps : List (ℕ × Value) = kept job s all in
    let w : Heads ps t.made p rest = heads ps t.made p rest (sym partly.rest ∙ left) in
    let e : Event = Put s p.0 p.1 in
    let u : Slot = record t { made = t.made + 1; left = rest } in
    let took : taken (opening job s vs ++ puts_of s (take t.made ps)) ++ [] ≡ vs = append-nil (taken (opening job s vs ++ puts_of s (take t.made ps))) ∙ taken_before job s vs (take t.made ps) (omega (arith, done.full)) in
    let may : MayFollow job h e = record {
      open_yet = go;
      of_needed = b.needed;
      scripted = scripted_by job h e (opening job s vs ++ puts_of s (take t.made ps)) vs b.are took (put_next job s vs all t.calls t.made p rest done.full done.gave w);
      owes = tt;
    } in
    let are : events_of s (h ++ e ∷ []) ≡ opening job s vs ++ puts_of s (take (t.made + 1) ps) = events_of-same s h e (eq_refl s) ∙ ap (λ z. z ++ e ∷ []) b.are ∙ put_more job s vs ps t.made p rest w in
    let begun : HasBegun job s (h ++ e ∷ []) (opening job s vs ++ puts_of s (take (t.made + 1) ps)) = record { needed = b.needed; waited = waits_on job s h e b.waited; are = are } in
    let at : AtMark job s u (h ++ e ∷ []) Putting = (all, begun, record { full = done.full; gave = done.gave }, record { some = (let l : t.made < length ps = w.within in omega arith); rest = sym w.after }) in
    let P : Mark → Type 0 = λ m. AtMark job s u (h ++ e ∷ []) m in
    let Q : Slot → Type 0 = λ y. IsState job (h ++ e ∷ []) (set slots s y) in
    subst Q (sym new) (state_more job h slots e u st lt may refl (subst P (sym mark) at))

pub fail_state : (job : JobView) (h : List Event) (slots : List Slot) (s : ℕ) (t t' : Slot) (r : Reason)
    → IsState job h slots → has_failed h ≡ false → s < length job.plan.steps → slot_at slots s ≡ t → t.mark ≡ Failing
    → t.reason ≡ Some r → t' ≡ record t { mark = Failed; reason = None }
    → IsState job (h ++ Fail s r ∷ []) (set slots s t')
fail_state job h slots s t t' r st go lt slot mark why new =
    let here = at_mark job h slots s t Failing st lt slot mark in
    let same : here.0 ≡ r = cc (here.3, why) in
    let b = here.1 in
    let lost : IsLost job s t r = subst (IsLost job s t) same here.2 in
    let vs : List (List Value) = t.inputs.lists in
    let e : Event = Fail s r in
    let u : Slot = record t { mark = Failed; reason = None } in
    let whole : opening job s vs ++ e ∷ [] ≡ script job s vs = fail_next job s vs r lost.full lost.gave in
    let took : taken (opening job s vs) ++ [] ≡ vs = append-nil (taken (opening job s vs)) ∙ taken_opening job s vs (omega (arith, lost.full)) in
    let may : MayFollow job h e = record {
      open_yet = go;
      of_needed = b.needed;
      scripted = scripted_by job h e (opening job s vs) vs b.are took ([], append-nil (opening job s vs ++ e ∷ []) ∙ whole);
      owes = tt;
    } in
    let are : events_of s (h ++ e ∷ []) ≡ opening job s vs ++ e ∷ [] = events_of-same s h e (eq_refl s) ∙ ap (λ z. z ++ e ∷ []) b.are in
    let begun : HasBegun job s (h ++ e ∷ []) (opening job s vs ++ e ∷ []) = record { needed = b.needed; waited = waits_on job s h e b.waited; are = are } in
    let at : AtMark job s u (h ++ e ∷ []) Failed = (r, begun, record { full = lost.full; gave = lost.gave }, here.4) in
    let Q : Slot → Type 0 = λ y. IsState job (h ++ e ∷ []) (set slots s y) in
    subst Q (sym new) (state_more job h slots e u st lt may refl at)

-- the outcome of a body is kept
pub outcome_state : (job : JobView) (h : List Event) (slots : List Slot) (s : ℕ) (t : Slot) (o : Outcome)
    → IsState job h slots → s < length job.plan.steps → slot_at slots s ≡ t → t.mark ≡ Ready → meaning_at job s t.inputs.lists ≡ o
    → IsState job h (set slots s (settled job s t o))
outcome_state job h slots s t (Done all calls) st lt slot mark gave =
    let here = at_mark job h slots s t Ready st lt slot mark in
    let b = here.0 in
    let begun : HasBegun job s h (opening job s t.inputs.lists ++ puts_of s (take 0 (kept job s all))) = record { needed = b.needed; waited = b.waited; are = b.are ∙ sym (append-nil (opening job s t.inputs.lists)) } in
    keep_state job h slots s (settled job s t (Done all calls)) st lt (all, begun, record { full = here.1; gave = gave }, record { some = omega arith; rest = refl })
outcome_state job h slots s t (Fails r) st lt slot mark gave =
    let here = at_mark job h slots s t Ready st lt slot mark in
    keep_state job h slots s (settled job s t (Fails r)) st lt (r, here.0, record { full = here.1; gave = gave }, refl, here.2)
