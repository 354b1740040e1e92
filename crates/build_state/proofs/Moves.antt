-- What each call keeps, from what it is asked and what its parts tell.
use Rattle.std.proofs.Common.{◌≡◌, ◌↔◌, ℕ, ◌<◌, ◌≤◌, ◌+◌, ◌-◌, length, get_or, set, List, [], ◌∷◌, ◌++◌, Contains, All, arith, Bool, true, false, ◌==◌, cond, refl, sym, ap, ◌∙◌, subst, Some, None}
use Rattle.std.proofs.lemmas.Bool.{or_parts}
use Rattle.std.proofs.lemmas.List.{get_or_read, length-set, get_or-set_same, get_or-set_other}
use Rattle.item_types.specs.declared.decl.Names.{Names}
use Rattle.item_types.specs.declared.step.Consume.{Consume}
use Rattle.item_types.specs.declared.step.StepDecl.{StepDecl}
use Rattle.item_types.specs.declared.value.Value.{Value}
use Rattle.step_state.specs.declared.outcome.Outcome.{Outcome}
use Rattle.step_state.specs.declared.outcome.Reason.{Reason}
use Rattle.step_state.specs.declared.outcome.Inputs.{Inputs}
use Rattle.item_store.specs.Kept.{Kept as Stored, values_of, spare_of, SameElsewhere}
use Rattle.dep_counter.specs.Counting.{AreCounts, IsReleasedBy}
use Rattle.step_set.specs.Members.{IsWithout, IsWithAll}
use Rattle.value_order.specs.Found.{found, kind_of}
use Rattle.build_history.specs.declared.event.Event.{Event}
use Rattle.build_history.specs.declared.event.Event.TheVariants.{Start, Take, Put, End, Fail}
use Rattle.build_history.specs.Events.{step_of, ended, has_failed, put_in, HasBoundedParts}
use Rattle.build_history.specs.Scripts.{takes_of, opening}
use Rattle.item_types.specs.Bounds.{IsBounded}
use Rattle.std.proofs.lemmas.List.Elements.{All-nil, All-cons, All-head, All-tail, All-filter}
use Rattle.build_history.specs.Jobs.{JobView, decl_at, body_at, consumes_at, meaning_at}
use Rattle.build_history.specs.Room.{Kept}
use Rattle.build_history.specs.Works.{Worked, IsMeant}
use Rattle.step_eval.specs.BodyMeaning.{meaning_of_a_body}
use Rattle.step_eval.specs.BoundedOutcome.{HasBoundedValues}
use Rattle.syntax_tree.specs.declared.tree.Body.{Body}
use Rattle.recorder_proxy.specs.declared.call.Call.{Call}
use Rattle.build_history.specs.Runs.{found_in}
use Rattle.build_state.specs.declared.mark.Mark.{Mark}
use Rattle.build_state.specs.declared.mark.Mark.TheVariants.{Waiting, Released, Taking, Ready, Putting, Failing, Ended, Failed}
use Rattle.build_state.specs.declared.slot.Slot.{Slot}
use Rattle.build_history.specs.Next.{no_consume}
use Rattle.build_state.specs.Built.{Built, mark_at, is_halted, mark_after, settled, after_end, HasEnded, Fits}
use Rattle.build_state.specs.Marks.{no_slot, slot_at}
use Rattle.build_state.specs.Keeping.{IsRoomFor, HasKeys}
use Rattle.build_state.specs.Parts.{AreReleased}
use Rattle.build_state.specs.Rooms.{owed, owed_at, IsKeyed, IsSmall, IsRoomier}
use Rattle.build_state.specs.Sound.{IsSound}
use Rattle.build_state.proofs.Events.{at_mark}
use Rattle.build_state.proofs.Rooms.{room_for, room_of, owes_head, head_keyed}
use Rattle.build_state.proofs.End.{waits_at}
use Rattle.build_state.proofs.Sound.{start_sound, take_sound, put_sound, end_sound, fail_sound, hand_sound, putting_open}
use Rattle.build_state.proofs.Steps.{slot_read}

-- what is asked of the value that callers see holds of the parts
pub on_view : (v b : Built) → v ≡ b → (P : Built → Type 0) → P b → P v
on_view v b e P p = subst P (sym e) p

-- one event more, where room for one was made
pub one_event : (h h1 h2 : Kept) (e : Event) → h1 ≡ record h { spare = h.spare + 1 } → h2 ≡ record { events = h1.events ++ e ∷ []; spare = h1.spare - 1 } → (h2.events ≡ h.events ++ e ∷ []) × (h2.spare ≡ h.spare)
one_event h h1 h2 e made added =
    let events : h2.events ≡ h.events ++ e ∷ [] = ap (λ (x : Kept). x.events) added ∙ ap (λ (x : Kept). x.events ++ e ∷ []) made in
    let last : h2.spare ≡ h1.spare - 1 = ap (λ (x : Kept). x.spare) added in
    let more : h1.spare ≡ h.spare + 1 = ap (λ (x : Kept). x.spare) made in
    (events, omega (arith, last, more))

-- one event more, in the room that was there
pub owed_event : (h h2 : Kept) (e : Event) → 1 ≤ h.spare → h2 ≡ record { events = h.events ++ e ∷ []; spare = h.spare - 1 } → (h2.events ≡ h.events ++ e ∷ []) × (h2.spare + 1 ≡ h.spare)
owed_event h h2 e room added =
    let last : h2.spare ≡ h.spare - 1 = ap (λ (x : Kept). x.spare) added in
    (ap (λ (x : Kept). x.events) added, omega (arith, last, room))

pub not_failed : (v : Built) (failed : Bool) → failed ≡ has_failed v.history → is_halted v ≡ false → failed ≡ false
not_failed v failed is go = is ∙ (or_parts (has_failed v.history) v.no_memory go).0

pub claim_call : (v b : Built) → v ≡ b → (h h1 h2 : Kept) (store : Stored) (counts : List ℕ) (members less : List Bool) (failed : Bool) → h.events ≡ v.history
    → IsSound v.job h store counts members v.slots failed → (s : ℕ) → s < length b.job.plan.steps → mark_at b s ≡ Released → is_halted b ≡ false
    → (t : Slot) (d : StepDecl) (m : Mark) → t ≡ get_or v.slots s t → d ≡ decl_at v.job s → m ≡ cond (0 == length d.consumes) Ready Taking
    → h1 ≡ record h { spare = h.spare + 1 } → h2 ≡ record { events = h1.events ++ Start s ∷ []; spare = h1.spare - 1 } → length less ≡ length members → IsWithout members s less
    → IsSound v.job h2 store counts less (set v.slots s (record t { mark = m })) failed
claim_call v b e h h1 h2 store counts members less failed same is s lt released go t d m read decl mark made added wide out =
    let lt' : s < length v.job.plan.steps = on_view v b e (λ x. s < length x.job.plan.steps) lt in
    let released' : mark_at v s ≡ Released = on_view v b e (λ x. mark_at x s ≡ Released) released in
    let go' : is_halted v ≡ false = on_view v b e (λ x. is_halted x ≡ false) go in
    let slot : slot_at v.slots s ≡ t = slot_read v.slots s t (omega (arith, lt', is.many)) read in
    let parts = one_event h h1 h2 (Start s) made added in
    start_sound v.job h h2 store counts members less v.slots failed s t (record t { mark = m }) is (not_failed v failed (is.failed_is ∙ ap has_failed same) go') lt' slot
    (ap (λ (x : Slot). x.mark) (sym slot) ∙ released')
    (ap (λ x. record t { mark = x }) (mark ∙ ap (λ (x : StepDecl). cond (0 == length x.consumes) Ready Taking) decl)) parts.0 parts.1 wide out

pub take_call : (v b : Built) → v ≡ b → (h h1 h2 : Kept) (store : Stored) (counts : List ℕ) (members : List Bool) (failed : Bool) → h.events ≡ v.history
    → IsSound v.job h store counts members v.slots failed → (s : ℕ) → s < length b.job.plan.steps → mark_at b s ≡ Taking → is_halted b ≡ false
    → (r t : Slot) (d : StepDecl) (c : Consume) (m : Mark) (x : List Value) (lists : List (List Value))
    → r ≡ get_or v.slots s r → t ≡ get_or v.slots s t → d ≡ decl_at v.job s → c ≡ get_or d.consumes (length r.inputs.lists) c
    → length r.inputs.lists < length d.consumes
    → x ≡ found store.names (kind_of store.names c.item) (values_of store c.item) → c.item < length v.job.names.items
    → m ≡ cond (length r.inputs.lists + 1 == length d.consumes) Ready Taking → lists ≡ t.inputs.lists ++ x ∷ []
    → h1 ≡ record h { spare = h.spare + 1 } → h2 ≡ record { events = h1.events ++ Take s c.item x ∷ []; spare = h1.spare - 1 }
    → IsSound v.job h2 store counts members (set v.slots s (record t { mark = m; inputs = record { lists = lists } })) failed
take_call v b e h h1 h2 store counts members failed same is s lt taking go r t d c m x lists read slot decl which few values inside mark inputs made added =
    let lt' : s < length v.job.plan.steps = on_view v b e (λ x. s < length x.job.plan.steps) lt in
    let taking' : mark_at v s ≡ Taking = on_view v b e (λ x. mark_at x s ≡ Taking) taking in
    let go' : is_halted v ≡ false = on_view v b e (λ x. is_halted x ≡ false) go in
    let within : s < length v.slots = omega (arith, lt', is.many) in
    let here : slot_at v.slots s ≡ t = slot_read v.slots s t within slot in
    let other : r ≡ t = sym (slot_read v.slots s r within read) ∙ here in
    let count : length r.inputs.lists ≡ length t.inputs.lists = ap (λ (z : Slot). length z.inputs.lists) other in
    let parts = one_event h h1 h2 (Take s c.item x) made added in
    let item : c.item ≡ (get_or (consumes_at v.job s) (length t.inputs.lists) no_consume).item
    = ap (λ (z : Consume). z.item) (get_or_read d.consumes (length r.inputs.lists) c few which no_consume)
    ∙ ap (λ (l : List Consume). (get_or l (length r.inputs.lists) no_consume).item) (ap (λ (z : StepDecl). z.consumes) decl) ∙ ap (λ n. (get_or (consumes_at v.job s) n no_consume).item) count in
    let put : values_of store c.item ≡ put_in c.item h.events = is.room.values c.item inside in
    let found_is : x ≡ found_in v.job c.item h.events
    = values ∙ ap (λ (n : Names). found n (kind_of n c.item) (values_of store c.item)) is.room.names ∙ ap (found v.job.names (kind_of v.job.names c.item)) put in
    take_sound v.job h h2 store counts members v.slots failed s t (record t { mark = m; inputs = record { lists = lists } }) c.item x is (not_failed v failed (is.failed_is ∙ ap has_failed same) go') lt' here
    (ap (λ (z : Slot). z.mark) (sym here) ∙ taking') item found_is
    (ap (λ z. record t { mark = z; inputs = record { lists = lists } }) (mark ∙ ap (λ (z : StepDecl). cond (length r.inputs.lists + 1 == length z.consumes) Ready Taking) decl ∙ ap (λ n. cond (n + 1 == length (consumes_at v.job s)) Ready Taking) count)
    ∙ ap (λ z. record t { mark = mark_after v.job s (length t.inputs.lists + 1); inputs = record { lists = z } }) inputs) parts.0 parts.1

pub put_call : (v b : Built) → v ≡ b → (h h2 : Kept) (store store2 : Stored) (counts : List ℕ) (members : List Bool) (failed : Bool) → h.events ≡ v.history
    → IsSound v.job h store counts members v.slots failed → (s : ℕ) → s < length b.job.plan.steps → mark_at b s ≡ Putting → is_halted b ≡ false
    → (t : Slot) (p : ℕ × Value) (rest : List (ℕ × Value)) (made : ℕ) → t ≡ get_or v.slots s t → t.left ≡ p ∷ rest → made ≡ t.made + 1
    → 1 ≤ h.spare → h2 ≡ record { events = h.events ++ Put s p.0 p.1 ∷ []; spare = h.spare - 1 }
    → values_of store2 p.0 ≡ values_of store p.0 ++ p.1 ∷ [] → spare_of store2 p.0 + 1 ≡ spare_of store p.0 → SameElsewhere p.0 store store2
    → IsSound v.job h2 store2 counts members (set v.slots s (record t { made = made; left = rest })) failed
put_call v b e h h2 store store2 counts members failed same is s lt putting go t p rest made slot left count room added values spares others =
    let lt' : s < length v.job.plan.steps = on_view v b e (λ x. s < length x.job.plan.steps) lt in
    let putting' : mark_at v s ≡ Putting = on_view v b e (λ x. mark_at x s ≡ Putting) putting in
    let go' : is_halted v ≡ false = on_view v b e (λ x. is_halted x ≡ false) go in
    let here : slot_at v.slots s ≡ t = slot_read v.slots s t (omega (arith, lt', is.many)) slot in
    let parts = owed_event h h2 (Put s p.0 p.1) room added in
    put_sound v.job h h2 store store2 counts members v.slots failed s t (record t { made = made; left = rest }) p rest is (not_failed v failed (is.failed_is ∙ ap has_failed same) go') lt' here
    (ap (λ (z : Slot). z.mark) (sym here) ∙ putting') left (ap (λ z. record t { made = z; left = rest }) count) parts.0 parts.1 values spares others

pub fail_call : (v b : Built) → v ≡ b → (h h2 : Kept) (store : Stored) (counts : List ℕ) (members : List Bool) (failed : Bool) → h.events ≡ v.history
    → IsSound v.job h store counts members v.slots failed → (s : ℕ) → s < length b.job.plan.steps → mark_at b s ≡ Failing → is_halted b ≡ false
    → (t : Slot) (r : Reason) → t ≡ get_or v.slots s t → t.reason ≡ Some r
    → 1 ≤ h.spare → h2 ≡ record { events = h.events ++ Fail s r ∷ []; spare = h.spare - 1 }
    → IsSound v.job h2 store counts members (set v.slots s (record t { mark = Failed; reason = None })) true
fail_call v b e h h2 store counts members failed same is s lt failing go t r slot why room added =
    let lt' : s < length v.job.plan.steps = on_view v b e (λ x. s < length x.job.plan.steps) lt in
    let failing' : mark_at v s ≡ Failing = on_view v b e (λ x. mark_at x s ≡ Failing) failing in
    let go' : is_halted v ≡ false = on_view v b e (λ x. is_halted x ≡ false) go in
    let here : slot_at v.slots s ≡ t = slot_read v.slots s t (omega (arith, lt', is.many)) slot in
    let parts = owed_event h h2 (Fail s r) room added in
    fail_sound v.job h h2 store counts members v.slots failed s t (record t { mark = Failed; reason = None }) r is (not_failed v failed (is.failed_is ∙ ap has_failed same) go') lt' here
    (ap (λ (z : Slot). z.mark) (sym here) ∙ failing') why refl parts.0 parts.1

-- a step whose failure is kept has its reason, and there is room for it
pub failing_has : (v b : Built) → v ≡ b → (h : Kept) (store : Stored) (counts : List ℕ) (members : List Bool) (failed : Bool) → h.events ≡ v.history
    → IsSound v.job h store counts members v.slots failed → (s : ℕ) → s < length b.job.plan.steps → mark_at b s ≡ Failing
    → (r : Reason) × ((slot_at v.slots s).reason ≡ Some r) × (1 ≤ h.spare)
failing_has v b e h store counts members failed same is s lt failing =
    let lt' : s < length v.job.plan.steps = on_view v b e (λ x. s < length x.job.plan.steps) lt in
    let failing' : mark_at v s ≡ Failing = on_view v b e (λ x. mark_at x s ≡ Failing) failing in
    let here = at_mark v.job h.events v.slots s (slot_at v.slots s) Failing is.state lt' refl failing' in
    let one : owed (slot_at v.slots s) ≡ length (slot_at v.slots s).left + 1 = ap (λ m. length (slot_at v.slots s).left + owed_at m) failing' in
    (here.0, here.3, room_for v.job h store v.slots s is.room (omega (arith, one)))

-- a step that has a put left can put it, and there is room for it
pub putting_has : (v b : Built) → v ≡ b → (h : Kept) (store : Stored) (counts : List ℕ) (members : List Bool) (failed : Bool)
    → IsSound v.job h store counts members v.slots failed → (s : ℕ) (p : ℕ × Value) (rest : List (ℕ × Value)) → (slot_at v.slots s).left ≡ p ∷ rest
    → (1 ≤ h.spare) × (1 ≤ spare_of store p.0) × IsKeyed store.names p × IsSmall p
putting_has v b e h store counts members failed is s p rest left =
    let owes = owes_head (slot_at v.slots s) p rest left in
    let head = head_keyed v.job h store v.slots s p rest is.room left in
    (room_for v.job h store v.slots s is.room owes.0, room_of v.job h store v.slots s p.0 is.room owes.1, subst (λ (n : Names). IsKeyed n p) (sym is.room.names) head.0, head.1)

-- the slots after an end: the step's own, then those that it released
ended_slots : (slots one new : List Slot) (s : ℕ) (t : Slot) (told : List ℕ) → s < length slots → slot_at slots s ≡ t → one ≡ set slots s (record t { mark = Ended; calls = [] }) → AreReleased told one new
    → (Contains told s → ⊥) → (length new ≡ length slots) × ((i : ℕ) → i < length slots → after_end s told i (slot_at slots i) (slot_at new i))
ended_slots slots one new s t told lt here is released apart =
    let u : Slot = record t { mark = Ended; calls = [] } in
    let long : length one ≡ length slots = ap length is ∙ length-set slots s u in
    let own : slot_at one s ≡ u = ap (λ l. slot_at l s) is ∙ get_or-set_same slots s u no_slot lt in
    let other : (i : ℕ) → (i ≡ s → ⊥) → slot_at one i ≡ slot_at slots i = λ i ne. ap (λ l. slot_at l i) is ∙ get_or-set_other slots s i u no_slot ne in (
      released.many ∙ long,
      λ i il. (
        λ e. released.others i (omega (arith, il, long)) (λ c. apart (subst (Contains told) e c)) ∙ ap (slot_at one) e ∙ own ∙ ap (λ (x : Slot). record x { mark = Ended; calls = [] }) (sym here ∙ ap (slot_at slots) (sym e)),
        λ ne c. released.those i (omega (arith, il, long)) c ∙ ap (λ (x : Slot). record x { mark = Released }) (other i ne),
        λ ne c. released.others i (omega (arith, il, long)) c ∙ other i ne,
      ),
    )

pub end_call : (v b : Built) → v ≡ b → (h h1 h2 : Kept) (store : Stored) (counts counts2 : List ℕ) (members more : List Bool) (failed : Bool) → h.events ≡ v.history
    → IsSound v.job h store counts members v.slots failed → (s : ℕ) → s < length b.job.plan.steps → mark_at b s ≡ Putting → (slot_at b.slots s).left ≡ [] → is_halted b ≡ false
    → (told : List ℕ) → ((list : List ℕ) → AreCounts v.job.plan list counts → (Contains list s → ⊥) → (i : ℕ) → Contains told i ↔ IsReleasedBy v.job.plan list s i)
    → length more ≡ length members → IsWithAll members told more → ((list : List ℕ) → AreCounts v.job.plan list counts → (Contains list s → ⊥) → AreCounts v.job.plan (list ++ s ∷ []) counts2)
    → (t : Slot) (one new : List Slot) (calls : List Call) → t ≡ get_or v.slots s t → one ≡ set v.slots s (record t { mark = Ended; calls = [] }) → AreReleased told one new → calls ≡ t.calls
    → h1 ≡ record h { spare = h.spare + 1 } → h2 ≡ record { events = h1.events ++ End s calls ∷ []; spare = h1.spare - 1 }
    → IsSound v.job h2 store counts2 more new failed × HasEnded v (record { job = v.job; history = h2.events; slots = new; no_memory = v.no_memory }) s told
end_call v b e h h1 h2 store counts counts2 members more failed same is s lt putting left go told tells wide with_told lowered t one new calls slot set_is released calls_are made added =
    let lt' : s < length v.job.plan.steps = on_view v b e (λ x. s < length x.job.plan.steps) lt in
    let putting' : mark_at v s ≡ Putting = on_view v b e (λ x. mark_at x s ≡ Putting) putting in
    let left' : (slot_at v.slots s).left ≡ [] = on_view v b e (λ x. (slot_at x.slots s).left ≡ []) left in
    let go' : is_halted v ≡ false = on_view v b e (λ x. is_halted x ≡ false) go in
    let within : s < length v.slots = omega (arith, lt', is.many) in
    let here : slot_at v.slots s ≡ t = slot_read v.slots s t within slot in
    let fresh = putting_open v.job h.events v.slots s is.state lt' putting' in
    let told_is = tells (ended h.events) is.counts_are fresh in
    let apart : Contains told s → ⊥ = λ c.
    let r = (told_is s).0 c in
    let w = waits_at v.job s s (slot_at v.slots s) h.events (slot_at v.slots s).mark (is.state.each s lt') r.0 fresh in
    let z : Putting ≡ Waiting = sym putting' ∙ w in cc z in
    let after = ended_slots v.slots one new s t told within here set_is released apart in
    let own : calls ≡ (slot_at v.slots s).calls = calls_are ∙ ap (λ (x : Slot). x.calls) (sym here) in
    let parts = one_event h h1 h2 (End s calls) made added in
    let events : h2.events ≡ h.events ++ End s (slot_at v.slots s).calls ∷ [] = parts.0 ∙ ap (λ z. h.events ++ End s z ∷ []) own in (
      end_sound v.job h h2 store counts counts2 members more told v.slots new failed s is (not_failed v failed (is.failed_is ∙ ap has_failed same) go') lt' putting' left' told_is wide with_told after.0 after.1 events parts.1 (lowered (ended h.events) is.counts_are fresh),
      record { job = refl; history = events ∙ ap (λ l. l ++ End s (slot_at v.slots s).calls ∷ []) same; many = after.0; slots = after.1; no_memory = refl },
    )

-- equal names, declarations, bodies and lists have one meaning
meanings : (job other : JobView) (s i : ℕ) (lists more : List (List Value)) → s ≡ i → job.names ≡ other.names → decl_at job s ≡ decl_at other s → body_at job s ≡ body_at other s → lists ≡ more
    → meaning_at job s lists ≡ meaning_at other i more
unfolding meaning_at
meanings job other s i lists more e names decl body same =
    ap (λ (n : Names). meaning_of_a_body n (decl_at job s) s (body_at job s) (record { lists = lists })) names
    ∙ ap (λ (d : StepDecl). meaning_of_a_body other.names d s (body_at job s) (record { lists = lists })) decl
    ∙ ap (λ (x : Body). meaning_of_a_body other.names (decl_at other s) s x (record { lists = lists })) body
    ∙ ap (λ l. meaning_of_a_body other.names (decl_at other s) s (body_at other s) (record { lists = l })) same
    ∙ ap (λ n. meaning_of_a_body other.names (decl_at other n) n (body_at other n) (record { lists = more })) e

-- the outcome of a work that fits is what the step's body means for what the step took
pub fits_meant : (b : Built) (w : Worked) → IsMeant w → Fits b w → w.outcome ≡ meaning_at b.job w.step (slot_at b.slots w.step).inputs.lists
fits_meant b w meant fits =
    meant.meant ∙ meanings w.job b.job w.step w.step w.inputs.lists (slot_at b.slots w.step).inputs.lists refl fits.0 fits.1 fits.2 (ap (λ (x : Inputs). x.lists) fits.3)

takes_bounded : (s : ℕ) (cs : List Consume) (lists : List (List Value)) → length lists ≤ length cs → All HasBoundedParts (takes_of s cs lists) → All (λ vs. All IsBounded vs) lists
takes_bounded s cs [] le all = All-nil (λ vs. All IsBounded vs)
takes_bounded s [] (vs ∷ lists) le all = absurd (omega (arith, le))
takes_bounded s (c ∷ cs) (vs ∷ lists) le all =
    All-cons (λ (v : List Value). All IsBounded v) vs lists (All-head HasBoundedParts (Take s c.item vs) (takes_of s cs lists) all)
    (takes_bounded s cs lists (omega (arith, le)) (All-tail HasBoundedParts (Take s c.item vs) (takes_of s cs lists) all))

-- what a ready step took is within the bounds, as all of the history is
pub ready_bounded : (v b : Built) → v ≡ b → (h : Kept) (store : Stored) (counts : List ℕ) (members : List Bool) (failed : Bool)
    → IsSound v.job h store counts members v.slots failed → (s : ℕ) → s < length b.job.plan.steps → mark_at b s ≡ Ready → All HasBoundedParts h.events
    → All (λ vs. All IsBounded vs) (slot_at b.slots s).inputs.lists
ready_bounded v b e h store counts members failed is s lt ready all =
    let lt' : s < length v.job.plan.steps = on_view v b e (λ x. s < length x.job.plan.steps) lt in
    let ready' : mark_at v s ≡ Ready = on_view v b e (λ x. mark_at x s ≡ Ready) ready in
    let here = at_mark v.job h.events v.slots s (slot_at v.slots s) Ready is.state lt' refl ready' in
    let lists = (slot_at v.slots s).inputs.lists in
    let own : All HasBoundedParts (opening v.job s lists) = subst (All HasBoundedParts) here.0.are (All-filter (λ x. step_of x == s) HasBoundedParts h.events all) in
    let full : length lists ≡ length (consumes_at v.job s) = here.1 in
    let took = takes_bounded s (consumes_at v.job s) lists (omega (arith, full)) (All-tail HasBoundedParts (Start s) (takes_of s (consumes_at v.job s) lists) own) in
    subst (λ (x : Built). All (λ vs. All IsBounded vs) (slot_at x.slots s).inputs.lists) e took

pub hand_call : (v b : Built) → v ≡ b → (h h2 : Kept) (store store2 : Stored) (counts : List ℕ) (members : List Bool) (failed : Bool)
    → IsSound v.job h store counts members v.slots failed → (s : ℕ) → s < length b.job.plan.steps → mark_at b s ≡ Ready
    → (t t2 : Slot) (o : Outcome) → t ≡ get_or v.slots s t → o ≡ meaning_at b.job s (slot_at b.slots s).inputs.lists → HasBoundedValues o → t2 ≡ settled v.job s t o
    → h2.events ≡ h.events → IsRoomier store store2 → IsRoomFor v.job s o h.spare h2.spare store store2 → HasKeys v.job s o
    → IsSound v.job h2 store2 counts members (set v.slots s t2) failed
hand_call v b e h h2 store store2 counts members failed is s lt ready t t2 o slot meant small new events more room keys =
    let lt' : s < length v.job.plan.steps = on_view v b e (λ x. s < length x.job.plan.steps) lt in
    let ready' : mark_at v s ≡ Ready = on_view v b e (λ x. mark_at x s ≡ Ready) ready in
    let meant' : o ≡ meaning_at v.job s (slot_at v.slots s).inputs.lists = on_view v b e (λ x. o ≡ meaning_at x.job s (slot_at x.slots s).inputs.lists) meant in
    let here : slot_at v.slots s ≡ t = slot_read v.slots s t (omega (arith, lt', is.many)) slot in
    let gave : meaning_at v.job s t.inputs.lists ≡ o = ap (λ (x : Slot). meaning_at v.job s x.inputs.lists) (sym here) ∙ sym meant' in
    hand_sound v.job h h2 store store2 counts members v.slots failed s t t2 o is lt' here (ap (λ (x : Slot). x.mark) (sym here) ∙ ready') gave small new events more room keys
