-- What each call makes of the value that callers see, and what the parts of a state have.
use Rattle.std.proofs.Common.{◌≡◌, ◌≢◌, ◌↔◌, IfSome, IfNone, ℕ, ◌<◌, ◌≤◌, ◌+◌, ◌-◌, length, get_or, set, take, List, [], ◌∷◌, ◌++◌, Contains, All, inl, inr, arith, Bool, false, not, ◌==◌, cond, refl, sym, ap, ◌∙◌, subst, length-append, Option, Some, None, true}
use Rattle.std.proofs.lemmas.Bool.{cases_lt}
use Rattle.std.proofs.lemmas.List.{get_or_past, get_or_read, get_or_default, set-get_or, length-take-le}
use Rattle.std.proofs.lemmas.List.Elements.{Contains-get_or, All-weaker, All-contains_itself}
use Rattle.std.proofs.lemmas.List.Filters.{length-filter_both}
use Rattle.dep_counter.specs.Counting.{AreCounts, IsReleasedBy, HowMany, IsOpen}
use Rattle.dep_counter.proofs.CallerLemmas.{decide}
use Rattle.item_types.specs.Numbered.{IsNumbered}
use Rattle.item_types.specs.declared.decl.Names.{Names}
use Rattle.item_types.specs.declared.step.Consume.{Consume}
use Rattle.item_types.specs.declared.step.StepDecl.{StepDecl}
use Rattle.item_types.specs.declared.value.Value.{Value}
use Rattle.item_store.specs.Kept.{Kept as Stored, values_of, spare_of}
use Rattle.value_order.specs.Found.{found, kind_of}
use Rattle.chain_builder.specs.PlanView.{PlanView}
use Rattle.build_history.specs.declared.event.Event.{Event}
use Rattle.build_history.specs.declared.event.Event.TheVariants.{Take, End, Fail}
use Rattle.build_history.specs.Events.{step_of, events_of, put_in, ended}
use Rattle.build_history.specs.Jobs.{JobView, Fit, no_decl, decl_at, consumes_at}
use Rattle.build_history.specs.Room.{Kept}
use Rattle.build_history.specs.Scripts.{takes_of, puts_of, kept, opening}
use Rattle.build_state.specs.declared.mark.Mark.{Mark}
use Rattle.build_state.specs.declared.mark.Mark.TheVariants.{Unneeded, Waiting, Released, Taking, Ready, Putting, Failing, Ended, Failed}
use Rattle.build_state.specs.declared.slot.Slot.{Slot}
use Rattle.build_history.specs.Next.{no_consume}
use Rattle.build_state.specs.Built.{Built, mark_at, is_halted, moved, mark_after, next_item, next_values, with_take, took, HasEnded}
use Rattle.build_state.specs.Marks.{no_slot, slot_at, IsState}
use Rattle.build_state.specs.Parts.{AreReleased}
use Rattle.step_set.specs.Members.{Has, IsWithAll}
use Rattle.recorder_proxy.specs.declared.call.Call.{Call}
use Rattle.step_state.specs.declared.outcome.Reason.{Reason}
use Rattle.build_state.specs.Rooms.{IsKeyed, IsSmall, IsRoomier}
use Rattle.build_state.specs.Sound.{IsSound}
use Rattle.build_state.specs.Stages.{Shows}
use Rattle.build_state.specs.declared.mark.Stage.TheVariants as stage
use Rattle.build_state.proofs.Moves.{on_view, putting_has, one_event, take_call, fail_call, end_call}
use Rattle.build_state.proofs.Events.{at_mark}
use Rattle.build_state.proofs.End.{waits_at}
use Rattle.build_state.proofs.Finish.{needed_in}
use Rattle.build_state.proofs.Sound.{more_sound, putting_open}
use Rattle.build_state.proofs.Steps.{slot_read}

-- the slot that is read is the step's
pub here_is : (v b : Built) → v ≡ b → (h : Kept) (store : Stored) (counts : List ℕ) (members : List Bool) (failed : Bool)
    → IsSound v.job h store counts members v.slots failed → (s : ℕ) → s < length b.job.plan.steps → (t : Slot) → t ≡ get_or v.slots s t → slot_at v.slots s ≡ t
here_is v b e h store counts members failed is s lt t slot =
    let lt' : s < length v.job.plan.steps = on_view v b e (λ x. s < length x.job.plan.steps) lt in
    slot_read v.slots s t (omega (arith, lt', is.many)) slot

-- the put that is next can be put, and there is room for it
pub put_has : (v b : Built) → v ≡ b → (h : Kept) (store : Stored) (counts : List ℕ) (members : List Bool) (failed : Bool)
    → IsSound v.job h store counts members v.slots failed → (s : ℕ) → s < length b.job.plan.steps → (t : Slot) → t ≡ get_or v.slots s t
    → (p : ℕ × Value) (rest : List (ℕ × Value)) → t.left ≡ p ∷ rest
    → (1 ≤ h.spare) × (1 ≤ spare_of store p.0) × IsKeyed store.names p × IsSmall p
put_has v b e h store counts members failed is s lt t slot p rest left =
    putting_has v b e h store counts members failed is s p rest (ap (λ (z : Slot). z.left) (here_is v b e h store counts members failed is s lt t slot) ∙ left)

few_events : (s : ℕ) (h : List Event) → length (events_of s h) ≤ length h
few_events s h = omega (arith, length-filter_both (λ e. step_of e == s) (λ e. not (step_of e == s)) (λ e. refl) h)

many_puts : (s : ℕ) (ps : List (ℕ × Value)) → length (puts_of s ps) ≡ length ps
many_puts s [] = refl
many_puts s (p ∷ ps) = omega (arith, many_puts s ps)

-- the puts that are made stand in the history, after the start
pub made_few : (v b : Built) → v ≡ b → (h : Kept) (store : Stored) (counts : List ℕ) (members : List Bool) (failed : Bool)
    → IsSound v.job h store counts members v.slots failed → (s : ℕ) → s < length b.job.plan.steps → mark_at b s ≡ Putting → (t : Slot) → t ≡ get_or v.slots s t
    → t.made + 1 ≤ length h.events
made_few v b e h store counts members failed is s lt putting t slot =
    let lt' : s < length v.job.plan.steps = on_view v b e (λ x. s < length x.job.plan.steps) lt in
    let putting' : mark_at v s ≡ Putting = on_view v b e (λ x. mark_at x s ≡ Putting) putting in
    let here = here_is v b e h store counts members failed is s lt t slot in
    let at = at_mark v.job h.events v.slots s t Putting is.state lt' here (ap (λ (z : Slot). z.mark) (sym here) ∙ putting') in
    let all : List (ℕ × Value) = kept v.job s at.0 in
    let front : List Event = takes_of s (consumes_at v.job s) t.inputs.lists in
    let some : length (take t.made all) ≡ t.made = length-take-le t.made all at.3.some in
    let puts : length (puts_of s (take t.made all)) ≡ length (take t.made all) = many_puts s (take t.made all) in
    let are : length (events_of s h.events) ≡ length (opening v.job s t.inputs.lists ++ puts_of s (take t.made all)) = ap length at.1.are in
    let parts : length (opening v.job s t.inputs.lists ++ puts_of s (take t.made all)) ≡ length (opening v.job s t.inputs.lists) + length (puts_of s (take t.made all)) = length-append (opening v.job s t.inputs.lists) (puts_of s (take t.made all)) in
    let first : 1 ≤ length (opening v.job s t.inputs.lists) = omega arith in
    omega (arith, few_events s h.events, are, parts, first, puts, some)

-- one event and one slot
moved_is : (v : Built) (h : List Event) (slots : List Slot) (e : Event) (s : ℕ) (t : Slot) → h ≡ v.history ++ e ∷ [] → slots ≡ set v.slots s t
    → record { job = v.job; history = h; slots = slots; no_memory = v.no_memory } ≡ moved v e s t
moved_is v h slots e s t p q =
    let f : List Event → Built = λ l. record { job = v.job; history = l; slots = slots; no_memory = v.no_memory } in
    let g : List Slot → Built = λ l. record { job = v.job; history = v.history ++ e ∷ []; slots = l; no_memory = v.no_memory } in
    ap f p ∙ ap g q

-- what a take makes of the value that callers see
pub took_is : (v b : Built) → v ≡ b → (h h1 h2 : Kept) (store : Stored) (counts : List ℕ) (members : List Bool) (failed : Bool) → h.events ≡ v.history
    → IsSound v.job h store counts members v.slots failed → (s : ℕ) → s < length b.job.plan.steps
    → (r t : Slot) (d : StepDecl) (c : Consume) (m : Mark) (x y : List Value) (lists : List (List Value))
    → r ≡ get_or v.slots s r → t ≡ get_or v.slots s t → d ≡ decl_at v.job s → c ≡ get_or d.consumes (length r.inputs.lists) c
    → length r.inputs.lists < length d.consumes
    → x ≡ found store.names (kind_of store.names c.item) (values_of store c.item) → y ≡ x → c.item < length v.job.names.items
    → m ≡ cond (length r.inputs.lists + 1 == length d.consumes) Ready Taking → lists ≡ t.inputs.lists ++ y ∷ []
    → h1 ≡ record h { spare = h.spare + 1 } → h2 ≡ record { events = h1.events ++ Take s c.item x ∷ []; spare = h1.spare - 1 }
    → record { job = v.job; history = h2.events; slots = set v.slots s (record t { mark = m; inputs = record { lists = lists } }); no_memory = v.no_memory } ≡ took b s
took_is v b e h h1 h2 store counts members failed same is s lt r t d c m x y lists read slot decl which few values copied inside mark inputs made added =
    let here : slot_at v.slots s ≡ t = here_is v b e h store counts members failed is s lt t slot in
    let other : r ≡ t = sym (here_is v b e h store counts members failed is s lt r read) ∙ here in
    let count : length r.inputs.lists ≡ length t.inputs.lists = ap (λ (z : Slot). length z.inputs.lists) other in
    let back : length t.inputs.lists ≡ length (slot_at v.slots s).inputs.lists = ap (λ (z : Slot). length z.inputs.lists) (sym here) in
    let item : c.item ≡ next_item v s
    = ap (λ (z : Consume). z.item) (get_or_read d.consumes (length r.inputs.lists) c few which no_consume)
    ∙ ap (λ (l : List Consume). (get_or l (length r.inputs.lists) no_consume).item) (ap (λ (z : StepDecl). z.consumes) decl) ∙ ap (λ n. (get_or (consumes_at v.job s) n no_consume).item) (count ∙ back) in
    let put : values_of store c.item ≡ put_in c.item v.history = is.room.values c.item inside ∙ ap (put_in c.item) same in
    let carried : x ≡ next_values v s
    = values ∙ ap (λ (n : Names). found n (kind_of n c.item) (values_of store c.item)) is.room.names ∙ ap (found v.job.names (kind_of v.job.names c.item)) put
    ∙ ap (λ i. found v.job.names (kind_of v.job.names i) (put_in i v.history)) item in
    let events : h2.events ≡ v.history ++ Take s (next_item v s) (next_values v s) ∷ []
    = (one_event h h1 h2 (Take s c.item x) made added).0 ∙ ap (λ l. l ++ Take s c.item x ∷ []) same ∙ ap (λ i. v.history ++ Take s i x ∷ []) item ∙ ap (λ z. v.history ++ Take s (next_item v s) z ∷ []) carried in
    let marked : m ≡ mark_after v.job s (length t.inputs.lists + 1)
    = mark ∙ ap (λ (z : StepDecl). cond (length r.inputs.lists + 1 == length z.consumes) Ready Taking) decl ∙ ap (λ n. cond (n + 1 == length (consumes_at v.job s)) Ready Taking) count in
    let listed : lists ≡ t.inputs.lists ++ next_values v s ∷ [] = inputs ∙ ap (λ z. t.inputs.lists ++ z ∷ []) (copied ∙ carried) in
    let f : Mark → Slot = λ z. record t { mark = z; inputs = record { lists = lists } } in
    let g : List (List Value) → Slot = λ z. record t { mark = mark_after v.job s (length t.inputs.lists + 1); inputs = record { lists = z } } in
    let w : Slot → Slot = λ u. record u { mark = mark_after v.job s (length u.inputs.lists + 1); inputs = record { lists = u.inputs.lists ++ next_values v s ∷ [] } } in
    let own : record t { mark = m; inputs = record { lists = lists } } ≡ with_take v s = ap f marked ∙ ap g listed ∙ ap w (sym here) in
    moved_is v h2.events (set v.slots s (record t { mark = m; inputs = record { lists = lists } })) (Take s (next_item v s) (next_values v s)) s (with_take v s) events (ap (set v.slots s) own)
    ∙ ap (λ (z : Built). took z s) e

-- a step that takes has takes left
pub taking_few : (v b : Built) → v ≡ b → (h : Kept) (store : Stored) (counts : List ℕ) (members : List Bool) (failed : Bool)
    → IsSound v.job h store counts members v.slots failed → (s : ℕ) → s < length b.job.plan.steps → mark_at b s ≡ Taking → (r : Slot) → r ≡ get_or v.slots s r
    → (d : StepDecl) → d ≡ decl_at v.job s → length r.inputs.lists < length d.consumes
taking_few v b e h store counts members failed is s lt taking r read d decl =
    let lt' : s < length v.job.plan.steps = on_view v b e (λ x. s < length x.job.plan.steps) lt in
    let taking' : mark_at v s ≡ Taking = on_view v b e (λ x. mark_at x s ≡ Taking) taking in
    let here = here_is v b e h store counts members failed is s lt r read in
    let at = at_mark v.job h.events v.slots s r Taking is.state lt' here (ap (λ (z : Slot). z.mark) (sym here) ∙ taking') in
    let few : length r.inputs.lists < length (consumes_at v.job s) = at.1 in
    subst (λ (z : StepDecl). length r.inputs.lists < length z.consumes) (sym decl) few

-- the item that a step takes is declared
pub next_inside : (job : JobView) → IsNumbered job.plan.steps job.plan.items job.plan.finals → Fit job.plan job.names job.bodies → (s : ℕ) → s < length job.plan.steps
    → (d : StepDecl) → d ≡ decl_at job s → (c : Consume) (i : ℕ) → c ≡ get_or d.consumes i c → i < length d.consumes → c.item < length job.names.items
next_inside job numbered fit s lt d decl c i which few =
    let has_decl : Contains job.plan.steps d = subst (Contains job.plan.steps) (sym decl) (Contains-get_or job.plan.steps s no_decl lt) in
    let has_item : Contains d.consumes c = subst (Contains d.consumes) (sym which) (Contains-get_or d.consumes i c few) in
    let inside : c.item < length job.plan.items = numbered.consumed d c has_decl has_item in
    omega (arith, inside, ap length fit.0)

-- what a take keeps, and what it makes of the value that callers see
pub take_both : (v b : Built) → v ≡ b → (h h1 h2 : Kept) (store : Stored) (counts : List ℕ) (members : List Bool) (failed : Bool) → h.events ≡ v.history
    → IsSound v.job h store counts members v.slots failed → (s : ℕ) → s < length b.job.plan.steps → mark_at b s ≡ Taking → is_halted b ≡ false
    → (q : PlanView) → q ≡ v.job.plan → IsNumbered q.steps q.items q.finals → Fit v.job.plan v.job.names v.job.bodies
    → (r t : Slot) (d : StepDecl) (xs : List Consume) (n : ℕ) (m : Mark) (x y : List Value) (lists : List (List Value))
    → r ≡ get_or v.slots s r → t ≡ get_or v.slots s t → d ≡ decl_at v.job s → xs ≡ d.consumes → n ≡ length r.inputs.lists
    → x ≡ found store.names (kind_of store.names (get_or xs n no_consume).item) (values_of store (get_or xs n no_consume).item) → y ≡ x
    → m ≡ cond (n + 1 == length d.consumes) Ready Taking → lists ≡ t.inputs.lists ++ y ∷ []
    → h1 ≡ record h { spare = h.spare + 1 } → h2 ≡ record { events = h1.events ++ Take s (get_or xs n no_consume).item x ∷ []; spare = h1.spare - 1 }
    → IsSound v.job h2 store counts members (set v.slots s (record t { mark = m; inputs = record { lists = lists } })) failed
    × (record { job = v.job; history = h2.events; slots = set v.slots s (record t { mark = m; inputs = record { lists = lists } }); no_memory = v.no_memory } ≡ took b s)
take_both v b e h h1 h2 store counts members failed same is s lt taking go q plan numbered fit r t d xs n m x y lists read slot decl consumes done values copied mark inputs made added =
    let lt' : s < length v.job.plan.steps = on_view v b e (λ x. s < length x.job.plan.steps) lt in
    let few = taking_few v b e h store counts members failed is s lt taking r read d decl in
    let c : Consume = get_or d.consumes (length r.inputs.lists) no_consume in
    let which : c ≡ get_or d.consumes (length r.inputs.lists) c = get_or_default d.consumes (length r.inputs.lists) no_consume c few in
    let numbered' : IsNumbered v.job.plan.steps v.job.plan.items v.job.plan.finals = subst (λ (z : PlanView). IsNumbered z.steps z.items z.finals) plan numbered in
    let inside = next_inside v.job numbered' fit s lt' d decl c (length r.inputs.lists) which few in
    let item : (get_or xs n no_consume).item ≡ c.item = ap (λ (l : List Consume). (get_or l n no_consume).item) consumes ∙ ap (λ k. (get_or d.consumes k no_consume).item) done in
    let values' : x ≡ found store.names (kind_of store.names c.item) (values_of store c.item) = values ∙ ap (λ i. found store.names (kind_of store.names i) (values_of store i)) item in
    let f : ℕ → Kept = λ i. record { events = h1.events ++ Take s i x ∷ []; spare = h1.spare - 1 } in
    let added' : h2 ≡ record { events = h1.events ++ Take s c.item x ∷ []; spare = h1.spare - 1 } = added ∙ ap f item in
    let mark' : m ≡ cond (length r.inputs.lists + 1 == length d.consumes) Ready Taking = mark ∙ ap (λ k. cond (k + 1 == length d.consumes) Ready Taking) done in
    let inputs' : lists ≡ t.inputs.lists ++ x ∷ [] = inputs ∙ ap (λ z. t.inputs.lists ++ z ∷ []) copied in (
      take_call v b e h h1 h2 store counts members failed same is s lt taking go r t d c m x lists read slot decl which few values' inside mark' inputs' made added',
      took_is v b e h h1 h2 store counts members failed same is s lt r t d c m x y lists read slot decl which few values' copied inside mark' inputs made added',
    )

-- a slot that is written as it was changes nothing
same_slots : (slots : List Slot) (s : ℕ) (t : Slot) (lists : List (List Value)) → t ≡ get_or slots s t → lists ≡ t.inputs.lists
    → set slots s (record t { inputs = record { lists = lists } }) ≡ slots
same_slots slots s t lists slot same =
    let f : List (List Value) → Slot = λ l. record t { inputs = record { lists = l } } in
    ap (set slots s) (ap f same ∙ slot) ∙ set-get_or slots s t

roomier_refl : (store : Stored) → IsRoomier store store
roomier_refl store = record { names = refl; values = λ item. refl; spares = λ item. omega arith }

-- room that was made and isn't used
pub spare_sound : (job : JobView) (h h2 : Kept) (store : Stored) (counts : List ℕ) (members : List Bool) (slots : List Slot) (failed : Bool) (s : ℕ) (t : Slot) (lists : List (List Value))
    → IsSound job h store counts members slots failed → h2 ≡ record h { spare = h.spare + 1 } → t ≡ get_or slots s t → lists ≡ t.inputs.lists
    → IsSound job h2 store counts members (set slots s (record t { inputs = record { lists = lists } })) failed
spare_sound job h h2 store counts members slots failed s t lists is made slot same =
    let spare : h2.spare ≡ h.spare + 1 = ap (λ (x : Kept). x.spare) made in
    subst (λ l. IsSound job h2 store counts members l failed) (sym (same_slots slots s t lists slot same))
    (more_sound job h h2 store store counts members slots failed is (ap (λ (x : Kept). x.events) made) (omega (arith, spare)) (roomier_refl store))

-- the failure that is kept is put
pub fail_kept : (v b : Built) → v ≡ b → (h h2 : Kept) (store : Stored) (counts : List ℕ) (members : List Bool) (failed : Bool) → h.events ≡ v.history
    → IsSound v.job h store counts members v.slots failed → (s : ℕ) → s < length b.job.plan.steps → mark_at b s ≡ Failing → is_halted b ≡ false
    → (t : Slot) (r : Reason) (after : Option Reason) → t ≡ get_or v.slots s t → t.reason ≡ Some r → after ≡ None
    → 1 ≤ h.spare → h2 ≡ record { events = h.events ++ Fail s r ∷ []; spare = h.spare - 1 }
    → IsSound v.job h2 store counts members (set v.slots s (record t { mark = Failed; reason = after })) true
fail_kept v b e h h2 store counts members failed same is s lt failing go t r after slot why none room added =
    let P : Option Reason → Type 0 = λ o. IsSound v.job h2 store counts members (set v.slots s (record t { mark = Failed; reason = o })) true in
    subst P (sym none) (fail_call v b e h h2 store counts members failed same is s lt failing go t r slot why room added)

tells_on : (q p : PlanView) → q ≡ p → (counts told : List ℕ) (s : ℕ) → ((list : List ℕ) → AreCounts q list counts → (Contains list s → ⊥) → (i : ℕ) → Contains told i ↔ IsReleasedBy q list s i)
    → (list : List ℕ) → AreCounts p list counts → (Contains list s → ⊥) → (i : ℕ) → Contains told i ↔ IsReleasedBy p list s i
tells_on q p e counts told s tells =
    let P : PlanView → Type 0 = λ z. (list : List ℕ) → AreCounts z list counts → (Contains list s → ⊥) → (i : ℕ) → Contains told i ↔ IsReleasedBy z list s i in
    subst P e tells

lowers_on : (q p : PlanView) → q ≡ p → (counts counts2 : List ℕ) (s : ℕ) → ((list : List ℕ) → AreCounts q list counts → (Contains list s → ⊥) → AreCounts q (list ++ s ∷ []) counts2)
    → (list : List ℕ) → AreCounts p list counts → (Contains list s → ⊥) → AreCounts p (list ++ s ∷ []) counts2
lowers_on q p e counts counts2 s lowered =
    let P : PlanView → Type 0 = λ z. (list : List ℕ) → AreCounts z list counts → (Contains list s → ⊥) → AreCounts z (list ++ s ∷ []) counts2 in
    subst P e lowered

-- the steps that an end releases are among those of the set
pub told_in : (v b : Built) → v ≡ b → (h : Kept) (store : Stored) (counts : List ℕ) (members : List Bool) (failed : Bool)
    → IsSound v.job h store counts members v.slots failed → (s : ℕ) → s < length b.job.plan.steps → mark_at b s ≡ Putting
    → (q : PlanView) → q ≡ v.job.plan → (told xs : List ℕ) → xs ≡ told
    → ((list : List ℕ) → AreCounts q list counts → (Contains list s → ⊥) → (i : ℕ) → Contains told i ↔ IsReleasedBy q list s i)
    → All (λ i. i < length members) xs
told_in v b e h store counts members failed is s lt putting q plan told xs lent tells =
    let lt' : s < length v.job.plan.steps = on_view v b e (λ x. s < length x.job.plan.steps) lt in
    let putting' : mark_at v s ≡ Putting = on_view v b e (λ x. mark_at x s ≡ Putting) putting in
    let fresh = putting_open v.job h.events v.slots s is.state lt' putting' in
    let told_is = tells_on q v.job.plan plan counts told s tells (ended h.events) is.counts_are fresh in
    All-weaker (Contains xs) (λ i. i < length members) (λ i has.
    let r = (told_is i).0 (subst (λ l. Contains l i) lent has) in
    let l : i < length v.job.plan.steps = needed_in v.job i r.0.consumer_needed in
    omega (arith, l, is.many, is.roomy)) xs (All-contains_itself xs)

-- the steps that an end releases waited before
end_told : (v n : Built) (h : List Event) (s : ℕ) (told : List ℕ) → IsState v.job h v.slots → mark_at v s ≡ Putting → (Contains (ended h) s → ⊥)
    → ((i : ℕ) → Contains told i ↔ IsReleasedBy v.job.plan (ended h) s i) → HasEnded v n s told → (i : ℕ) → Contains told i ↔ ((mark_at v i ≡ Waiting) × (mark_at n i ≡ Released))
end_told v n h s told st putting fresh told_is after i = (
  λ c.
      let r = (told_is i).0 c in
      let l : i < length v.job.plan.steps = needed_in v.job i r.0.consumer_needed in
      let w = waits_at v.job i s (slot_at v.slots i) h (slot_at v.slots i).mark (st.each i l) r.0 fresh in
      let other : i ≡ s → ⊥ = λ e. let z : Waiting ≡ Putting = sym w ∙ ap (λ m. mark_at v m) e ∙ putting in cc z in
      (w, ap (λ (x : Slot). x.mark) ((after.slots i (omega (arith, l, st.many))).1 other c)),
  λ p. elim (decide told i) [
    | inl c ↦ c
    | inr out ↦
        let other : i ≡ s → ⊥ = λ e. let z : Waiting ≡ Putting = sym p.0 ∙ ap (λ m. mark_at v m) e ∙ putting in cc z in
        absurd (elim (cases_lt i (length v.slots)) [
          | inl l ↦ let same = (after.slots i l).2 other out in let z : Waiting ≡ Released = sym p.0 ∙ sym (ap (λ (x : Slot). x.mark) same) ∙ p.1 in cc z
          | inr l ↦ let z : Waiting ≡ Unneeded = sym p.0 ∙ ap (λ (x : Slot). x.mark) (get_or_past v.slots i no_slot l) in cc z
        ])
  ],
)

-- what an end keeps, and what it makes of the value that callers see
pub end_both : (v b : Built) → v ≡ b → (h h1 h2 : Kept) (store : Stored) (counts counts2 : List ℕ) (members more : List Bool) (failed : Bool) → h.events ≡ v.history
    → IsSound v.job h store counts members v.slots failed → (s : ℕ) → s < length b.job.plan.steps → mark_at b s ≡ Putting → (slot_at b.slots s).left ≡ [] → is_halted b ≡ false
    → (q q2 : PlanView) → q ≡ v.job.plan → q2 ≡ v.job.plan → (told xs ys : List ℕ) → xs ≡ told → ys ≡ told
    → ((list : List ℕ) → AreCounts q list counts → (Contains list s → ⊥) → (i : ℕ) → Contains told i ↔ IsReleasedBy q list s i)
    → length more ≡ length members → IsWithAll members xs more → ((list : List ℕ) → AreCounts q2 list counts → (Contains list s → ⊥) → AreCounts q2 (list ++ s ∷ []) counts2)
    → (t : Slot) (new : List Slot) (calls none : List Call) → t ≡ get_or v.slots s t → none ≡ [] → AreReleased ys (set v.slots s (record t { mark = Ended; calls = none })) new → calls ≡ t.calls
    → h1 ≡ record h { spare = h.spare + 1 } → h2 ≡ record { events = h1.events ++ End s calls ∷ []; spare = h1.spare - 1 }
    → IsSound v.job h2 store counts2 more new failed × HasEnded b (record { job = v.job; history = h2.events; slots = new; no_memory = v.no_memory }) s told
    × ((i : ℕ) → Contains told i ↔ ((mark_at b i ≡ Waiting) × ((slot_at new i).mark ≡ Released)))
end_both v b e h h1 h2 store counts counts2 members more failed same is s lt putting left go q q2 plan plan2 told xs ys lent lent2 tells wide with_told lowered t new calls none slot empty released calls_are made added =
    let f : List Call → List Slot = λ l. set v.slots s (record t { mark = Ended; calls = l }) in
    let both = end_call v b e h h1 h2 store counts counts2 members more failed same is s lt putting left go told (tells_on q v.job.plan plan counts told s tells)
    wide (subst (λ l. IsWithAll members l more) lent with_told) (lowers_on q2 v.job.plan plan2 counts counts2 s lowered)
    t (f none) new calls slot (ap f empty) (subst (λ l. AreReleased l (f none) new) lent2 released) calls_are made added in
    let n : Built = record { job = v.job; history = h2.events; slots = new; no_memory = v.no_memory } in
    let putting' : mark_at v s ≡ Putting = on_view v b e (λ x. mark_at x s ≡ Putting) putting in
    let lt' : s < length v.job.plan.steps = on_view v b e (λ x. s < length x.job.plan.steps) lt in
    let fresh = putting_open v.job h.events v.slots s is.state lt' putting' in
    let told_is = tells_on q v.job.plan plan counts told s tells (ended h.events) is.counts_are fresh in
    let P : Built → Type 0 = λ x. (i : ℕ) → Contains told i ↔ ((mark_at x i ≡ Waiting) × ((slot_at new i).mark ≡ Released)) in
    (both.0, subst (λ (x : Built). HasEnded x n s told) e both.1, subst P e (end_told v n h.events s told is.state putting' fresh told_is both.1))

-- room that was made, and counts that are as before
pub room_made : (job : JobView) (h h2 : Kept) (store : Stored) (counts counts2 : List ℕ) (members : List Bool) (slots : List Slot) (failed : Bool)
    → IsSound job h store counts members slots failed → h2 ≡ record h { spare = h.spare + 1 } → counts2 ≡ counts
    → IsSound job h2 store counts2 members slots failed
room_made job h h2 store counts counts2 members slots failed is made same =
    let spare : h2.spare ≡ h.spare + 1 = ap (λ (x : Kept). x.spare) made in
    subst (λ l. IsSound job h2 store l members slots failed) (sym same) (more_sound job h h2 store store counts members slots failed is (ap (λ (x : Kept). x.events) made) (omega (arith, spare)) (roomier_refl store))

-- a step that waits shows how many of its edge producers haven't ended
pub shows_waiting : (v b : Built) → v ≡ b → (h : Kept) (store : Stored) (counts : List ℕ) (members : List Bool) (failed : Bool) → h.events ≡ v.history
    → IsSound v.job h store counts members v.slots failed → (s : ℕ) → s < length b.job.plan.steps → (t : Slot) → t ≡ get_or v.slots s t → t.mark ≡ Waiting
    → (n : ℕ) → HowMany (IsOpen v.job.plan (ended h.events) s) n → Shows b s (mark_at b s) (stage.Waiting n)
shows_waiting v b e h store counts members failed same is s lt t slot waiting n many =
    let here = here_is v b e h store counts members failed is s lt t slot in
    let marked : Waiting ≡ mark_at v s = sym waiting ∙ ap (λ (z : Slot). z.mark) (sym here) in
    let open_now : HowMany (IsOpen v.job.plan (ended v.history) s) n = subst (λ l. HowMany (IsOpen v.job.plan (ended l) s) n) same many in
    let shown : Shows v s Waiting (stage.Waiting n) = (n, refl, open_now) in
    let P : Mark → Type 0 = λ m. Shows v s m (stage.Waiting n) in
    subst (λ (x : Built). Shows x s (mark_at x s) (stage.Waiting n)) e (subst P marked shown)

abbrev IsLeastReleased : Built → ℕ → Type 0
IsLeastReleased b s = (s < length b.job.plan.steps) × (mark_at b s ≡ Released) × ((k : ℕ) → k < s → mark_at b k ≢ Released)

released_least : (v b : Built) → v ≡ b → (h : Kept) (store : Stored) (counts : List ℕ) (members : List Bool) (failed : Bool)
    → IsSound v.job h store counts members v.slots failed → (s : ℕ) → Has members s → ((i : ℕ) → Has members i → s ≤ i) → IsLeastReleased b s
released_least v b e h store counts members failed is s has least =
    let p = (is.released s).0 has in
    subst (λ (x : Built). IsLeastReleased x s) e (omega (arith, p.0, is.many), p.1, λ k lt q. omega (arith, lt, least k ((is.released k).1 (omega (arith, lt, p.0), q))))

-- the least of the set is the least step that is released
pub least_some : (v b : Built) → v ≡ b → (h : Kept) (store : Stored) (counts : List ℕ) (members : List Bool) (failed : Bool)
    → IsSound v.job h store counts members v.slots failed → (o : Option ℕ) → IfSome o (λ x. Has members x) → IfSome o (λ x. (i : ℕ) → Has members i → x ≤ i)
    → IfSome o (λ s. (s < length b.job.plan.steps) × (mark_at b s ≡ Released) × ((k : ℕ) → k < s → mark_at b k ≢ Released))
least_some v b e h store counts members failed is (Some s) has least = released_least v b e h store counts members failed is s has least
least_some v b e h store counts members failed is None has least = tt

-- where the set has none, no step is released
pub least_none : (v b : Built) → v ≡ b → (h : Kept) (store : Stored) (counts : List ℕ) (members : List Bool) (failed : Bool)
    → IsSound v.job h store counts members v.slots failed → (o : Option ℕ) → IfNone o ((i : ℕ) → Has members i → ⊥)
    → IfNone o ((k : ℕ) → k < length b.job.plan.steps → mark_at b k ≢ Released)
least_none v b e h store counts members failed is (Some s) none = tt
least_none v b e h store counts members failed is None none =
    subst (λ (x : Built). (k : ℕ) → k < length x.job.plan.steps → mark_at x k ≢ Released) e (λ k lt q. none k ((is.released k).1 (omega (arith, lt, is.many), q)))
