-- The recordings of a run can be played.
use Rattle.std.proofs.Common.{◌≡◌, ◌≢◌, ℕ, ◌<◌, ◌≤◌, length, List, [], ◌∷◌, ◌++◌, map, Contains, All, Bool, true, false, not, ◌||◌, ◌==◌, cond, refl, sym, ap, ◌∙◌, subst, arith, ◌⊎◌, inl, inr}
use Rattle.std.specs.Prelude.{Option, Some, None, if◌then◌else◌}
use Rattle.std.specs.List.{filter, flat_map, list_any, find, IsDistinct, AllByRecursion}
use Rattle.std.proofs.lemmas.Map.Steps.{length-le_from_distinct_below}
use Rattle.std.proofs.lemmas.Bool.{eqb-true, ne_eqb}
use Rattle.std.proofs.lemmas.Grind.{flat_map-append}
use Rattle.std.proofs.lemmas.List.{append-nil, length-map}
use Rattle.std.proofs.lemmas.List.Elements.{Contains-append_cases, Contains-append_left, Contains-append_right, All-weaker, All-contains, All-contains_itself, All-head, All-tail, filter-append}
use Rattle.item_types.specs.declared.step.Phase.{Phase}
use Rattle.item_types.specs.declared.step.Phase.TheVariants.{Static, Runtime}
use Rattle.item_types.specs.declared.value.Proxy.{Proxy}
use Rattle.item_types.specs.declared.value.Value.{Value}
use Rattle.recorder_proxy.specs.Playable.{EachAfter, Keeps, IsKept, CallsNameKept, HasNoStep, IsStaticFirst, IsWithin, IsPlayable}
use Rattle.recorder_proxy.specs.Proxies.{proxies, is_runtime, first_runtime}
use Rattle.recorder_proxy.specs.declared.call.Call.{Call}
use Rattle.recorder_proxy.specs.declared.call.Recording.{Recording}
use Rattle.step_eval.specs.KnownProxies.{IsKnown}
use Rattle.build_history.specs.declared.event.Event.{Event}
use Rattle.build_history.specs.declared.event.Event.TheVariants.{Start, Take, Put, End, Fail}
use Rattle.build_history.specs.Events.{events_of, taken, ended, end_of}
use Rattle.build_history.specs.Jobs.{JobView, decl_at, meaning_at}
use Rattle.build_history.specs.Recordings.{is_of, recorded, recordings}
use Rattle.build_history.specs.Runs.{IsOneThreadRun}
use Rattle.build_history.proofs.CallerLemmas.{run_init, follow_is, step_in}
use Rattle.run_laws.proofs.Kept.{in_none, in_cases, in_head, in_tail, split_in, in_flat, flat_in, gave, ends_with, EndKeeps, given_at, Effective, Recording-law, taken_kept}
use Rattle.run_laws.proofs.Once.{ended_stops}

-- where an element of two lists in a row stands
append_split : {X : Type 0} (xs ys b : List X) (x : X) (a : List X) → xs ++ ys ≡ b ++ x ∷ a
    → ((a1 : List X) × (xs ≡ b ++ x ∷ a1)) ⊎ ((b2 : List X) × (b ≡ xs ++ b2) × (ys ≡ b2 ++ x ∷ a))
append_split [] ys b x a q = inr (b, refl, q)
append_split (y ∷ xs) ys [] x a q = let head : y ≡ x = cc q in inl (xs, ap (λ z. z ∷ xs) head)
append_split (y ∷ xs) ys (z ∷ b) x a q =
    let head : y ≡ z = cc q in
    let rest : xs ++ ys ≡ b ++ x ∷ a = cc q in
    elim (append_split xs ys b x a rest) [
      | inl w ↦ inl (w.0, ap (λ l. y ∷ l) w.1 ∙ ap (λ v. v ∷ (b ++ x ∷ w.0)) head)
      | inr w ↦ inr (w.0, ap (λ v. v ∷ b) (sym head) ∙ ap (λ l. y ∷ l) w.1, w.2)
    ]

-- ---- where a recording comes from
pub record Ended (job : JobView) (phase : Phase) (h : List Event) (before : List Recording) (r : Recording) : Type 0 where
  pub front : List Event
  pub back : List Event
  pub is : h ≡ front ++ End r.step r.calls ∷ back
  pub earlier : before ≡ flat_map (recorded job phase) front
  pub of_phase : r.phase ≡ phase
  pub declared : (decl_at job r.step).phase ≡ Some phase

of_true : (phase : Phase) (o : Option Phase) → is_of phase o ≡ true → o ≡ Some phase
of_true Static None q = cc q
of_true Static (Some Static) q = refl
of_true Static (Some Runtime) q = cc q
of_true Runtime None q = cc q
of_true Runtime (Some Static) q = cc q
of_true Runtime (Some Runtime) q = refl

true_of : (phase : Phase) → is_of phase (Some phase) ≡ true
true_of Static = refl
true_of Runtime = refl

later : (job : JobView) (phase : Phase) (h : List Event) (before more : List Recording) (r : Recording) (e : Event) → more ≡ recorded job phase e ++ before → Ended job phase h before r → Ended job phase (e ∷ h) more r
later job phase h before more r e is w = record {
  front = e ∷ w.front;
  back = w.back;
  is = ap (λ l. e ∷ l) w.is;
  earlier = is ∙ ap (λ l. recorded job phase e ++ l) w.earlier;
  of_phase = w.of_phase;
  declared = w.declared;
}

end_from : (job : JobView) (phase : Phase) (s : ℕ) (calls : List Call) (h : List Event) (b : List Recording) (r : Recording) (a : List Recording) (t : Bool) → is_of phase (decl_at job s).phase ≡ t
    → ((b2 : List Recording) → flat_map (recorded job phase) h ≡ b2 ++ r ∷ a → Ended job phase h b2 r)
    → (if t then record { step = s; phase = phase; calls = calls } ∷ [] else []) ++ flat_map (recorded job phase) h ≡ b ++ r ∷ a → Ended job phase (End s calls ∷ h) b r
end_from job phase s calls h [] r a true q rec is =
    let head : record { step = s; phase = phase; calls = calls } ≡ r = cc is in
    subst (Ended job phase (End s calls ∷ h) []) head (record { front = []; back = h; is = refl; earlier = refl; of_phase = refl; declared = of_true phase (decl_at job s).phase q })
end_from job phase s calls h (z ∷ b) r a true q rec is =
    let head : record { step = s; phase = phase; calls = calls } ≡ z = cc is in
    let rest : flat_map (recorded job phase) h ≡ b ++ r ∷ a = cc is in
    let one : recorded job phase (End s calls) ≡ record { step = s; phase = phase; calls = calls } ∷ [] = ap (λ t. if t then record { step = s; phase = phase; calls = calls } ∷ [] else []) q in
    later job phase h b (z ∷ b) r (End s calls) (ap (λ x. x ∷ b) (sym head) ∙ ap (λ l. l ++ b) (sym one)) (rec b rest)
end_from job phase s calls h b r a false q rec is =
    let none : recorded job phase (End s calls) ≡ [] = ap (λ t. if t then record { step = s; phase = phase; calls = calls } ∷ [] else []) q in
    later job phase h b b r (End s calls) (ap (λ l. l ++ b) (sym none)) (rec b is)

pub comes_from : (job : JobView) (phase : Phase) (h : List Event) (b : List Recording) (r : Recording) (a : List Recording) → flat_map (recorded job phase) h ≡ b ++ r ∷ a → Ended job phase h b r
comes_from job phase [] [] r a q = cc q
comes_from job phase [] (x ∷ b) r a q = cc q
comes_from job phase (Start s ∷ h) b r a q = later job phase h b b r (Start s) refl (comes_from job phase h b r a q)
comes_from job phase (Take s i vs ∷ h) b r a q = later job phase h b b r (Take s i vs) refl (comes_from job phase h b r a q)
comes_from job phase (Put s i v ∷ h) b r a q = later job phase h b b r (Put s i v) refl (comes_from job phase h b r a q)
comes_from job phase (End s calls ∷ h) b r a q = end_from job phase s calls h b r a (is_of phase (decl_at job s).phase) refl (λ b2 q2. comes_from job phase h b2 r a q2) q
comes_from job phase (Fail s f ∷ h) b r a q = later job phase h b b r (Fail s f) refl (comes_from job phase h b r a q)

-- the recording of a step that has ended and has the phase
pub is_recorded : (job : JobView) (phase : Phase) (g k : List Event) (s : ℕ) (calls : List Call) → (decl_at job s).phase ≡ Some phase
    → Contains (flat_map (recorded job phase) (g ++ End s calls ∷ k)) (record { step = s; phase = phase; calls = calls })
is_recorded job phase g k s calls of =
    let r : Recording = record { step = s; phase = phase; calls = calls } in
    let test : is_of phase (decl_at job s).phase ≡ true = ap (is_of phase) of ∙ true_of phase in
    let one : recorded job phase (End s calls) ≡ r ∷ [] = ap (λ t. if t then r ∷ [] else []) test in
    flat_in (recorded job phase) (g ++ End s calls ∷ k) (End s calls) r (Contains-append_right g (End s calls ∷ k) (End s calls) (in_head (End s calls) k)) (subst (λ l. Contains l r) (sym one) (in_head r []))

-- ---- each proxy names what is kept before
find_at : (x : Proxy) (xs : List Proxy) (y : Proxy) (b : Bool) → is_runtime x.phase ≡ b → cond b (Some x) (find (λ (p : Proxy). is_runtime p.phase) xs) ≡ None → Contains (x ∷ xs) y
    → (find (λ (p : Proxy). is_runtime p.phase) xs ≡ None → Contains xs y → is_runtime y.phase ≡ false) → is_runtime y.phase ≡ false
find_at x xs y true e q c rec = cc q
find_at x xs y false e q c rec = elim (in_cases x xs y c) [
  | inl same ↦ ap (λ (p : Proxy). is_runtime p.phase) (sym same) ∙ e
  | inr t ↦ rec q t
]

find_none : (xs : List Proxy) → find (λ (p : Proxy). is_runtime p.phase) xs ≡ None → (y : Proxy) → Contains xs y → is_runtime y.phase ≡ false
find_none [] q y c = absurd (in_none y c)
find_none (x ∷ xs) q y c = find_at x xs y (is_runtime x.phase) refl q c (λ r t. find_none xs r y t)

static_of : (f : Phase) → is_runtime f ≡ false → f ≡ Static
static_of Static q = refl
static_of Runtime q = cc q

-- what a call of the recording is handed, by its phase
static_handed : (calls : List Call) (c : Call) (p : Proxy) → All (λ (x : Call). first_runtime x.args ≡ None) calls → Contains calls c → Contains (flat_map proxies c.args) p → p.phase ≡ Static
static_handed calls c p alone there has = static_of p.phase (find_none (flat_map proxies c.args) (All-contains (λ (x : Call). first_runtime x.args ≡ None) calls c alone there) p has)

kept_by : (job : JobView) (phase : Phase) (g : List Event) (p : Proxy) → EndKeeps job g p → p.phase ≡ phase → (r : Recording) × Contains (flat_map (recorded job phase) g) r × (r.step ≡ p.step) × Keeps r.calls p.call
kept_by job phase g p e of = (
  record { step = p.step; phase = phase; calls = e.calls },
  subst (λ l. Contains (flat_map (recorded job phase) l) (record { step = p.step; phase = phase; calls = e.calls })) (sym e.is) (is_recorded job phase e.before e.after p.step e.calls (e.phase ∙ ap Some of)),
  refl,
  e.keeps,
)

is_kept : (earlier : List Recording) (own : Recording) (done : List Call) (p : Proxy) (r : Recording) → Contains earlier r → r.step ≡ p.step → Keeps r.calls p.call → IsKept (earlier ++ record own { calls = done } ∷ []) p
is_kept earlier own done p r there of keeps = (r, Contains-append_left earlier (record own { calls = done } ∷ []) r there, of, keeps)

is_own : (earlier : List Recording) (own : Recording) (done : List Call) (p : Proxy) → p.step ≡ own.step → Keeps done p.call → IsKept (earlier ++ record own { calls = done } ∷ []) p
is_own earlier own done p of keeps =
    let r : Recording = record own { calls = done } in
    (r, Contains-append_right earlier (r ∷ []) r (in_head r []), sym of, keeps)

-- the proxies of a call whose arguments' proxies are known
from_known : (P : Proxy → Type 0) (args : List Value) → All (λ v. All P (proxies v)) args → All P (flat_map proxies args)
from_known P args all =
    All-weaker (Contains (flat_map proxies args)) P (λ p c. let v = in_flat proxies args p c in All-contains P (proxies v.0) p (All-contains (λ w. All P (proxies w)) args v.0 all v.1) v.2) (flat_map proxies args) (All-contains_itself (flat_map proxies args))

-- the calls of an ended step name what is kept, where what it took is
calls_named : Effective → Recording-law → (job : JobView) (g k : List Event) (earlier : List Recording) (r : Recording) → IsOneThreadRun job (g ++ End r.step r.calls ∷ k) → (decl_at job r.step).phase ≡ Some r.phase
    → ((p : Proxy) → EndKeeps job g p → (r.phase ≡ Static → p.phase ≡ Static) → (q : Recording) × Contains earlier q × (q.step ≡ p.step) × Keeps q.calls p.call)
    → CallsNameKept earlier r
calls_named effective sound job g k earlier r run of found done c rest q =
    let gives = gave job g (End r.step r.calls) k refl run in
    let lists = taken (events_of r.step g) in
    let with = ends_with job r.step (meaning_at job r.step lists) gives.place r.calls gives.at in
    let recorded_is = sound job r.step lists with.0 r.calls with.1 in
    let known = recorded_is.calls_known done c rest q in
    let there : Contains r.calls c = subst (λ l. Contains l c) (sym q) (Contains-append_right done (c ∷ rest) c (in_head c rest)) in
    let cx = given_at job r.step lists in
    let all : All (IsKnown cx done) (flat_map proxies c.args) = from_known (IsKnown cx done) c.args known in
    All-weaker (Contains (flat_map proxies c.args)) (IsKept (earlier ++ record r { calls = done } ∷ []))
    (λ p has. elim (All-contains (IsKnown cx done) (flat_map proxies c.args) p all has) [
      | inl old ↦
          let e = taken_kept effective sound (length g) job g (End r.step r.calls ∷ k) r.step p (omega arith) run old in
          let w = found p e (λ still. static_handed r.calls c p (recorded_is.static_alone (of ∙ ap Some still)) there has) in
          is_kept earlier r done p w.0 w.1 w.2 w.3
      | inr own ↦ is_own earlier r done p own.of_step own.kept
    ])
    (flat_map proxies c.args) (All-contains_itself (flat_map proxies c.args))

more_recorded : (job : JobView) (phase : Phase) (g k : List Event) (r : Recording) → Contains (flat_map (recorded job phase) g) r → Contains (flat_map (recorded job phase) (g ++ k)) r
more_recorded job phase g k r c = subst (λ l. Contains l r) (sym (flat_map-append (recorded job phase) g k)) (Contains-append_left (flat_map (recorded job phase) g) (flat_map (recorded job phase) k) r c)

kept_static : Effective → Recording-law → (job : JobView) (h : List Event) → IsOneThreadRun job h → (b : List Recording) (r : Recording) → Ended job Static h b r → CallsNameKept b r
kept_static effective sound job h run b r e =
    let run1 : IsOneThreadRun job (e.front ++ End r.step r.calls ∷ e.back) = subst (IsOneThreadRun job) e.is run in
    calls_named effective sound job e.front e.back b r run1 (e.declared ∙ ap Some (sym e.of_phase))
    (λ p k static.
    let w = kept_by job Static e.front p k (static e.of_phase) in
    (w.0, subst (λ l. Contains l w.0) (sym e.earlier) w.1, w.2, w.3))

runtime_kept : (job : JobView) (h : List Event) (b2 : List Recording) (r : Recording) → Ended job Runtime h b2 r → (p : Proxy) (f : Phase) → p.phase ≡ f
    → (e : List Event) → EndKeeps job e p → (k : List Event) → h ≡ e ++ k → b2 ≡ flat_map (recorded job Runtime) e
    → (q : Recording) × Contains (flat_map (recorded job Static) h ++ b2) q × (q.step ≡ p.step) × Keeps q.calls p.call
runtime_kept job h b2 r w p Static of e keeps k is earlier =
    let x = kept_by job Static e p keeps of in
    (x.0, Contains-append_left (flat_map (recorded job Static) h) b2 x.0 (subst (λ l. Contains (flat_map (recorded job Static) l) x.0) (sym is) (more_recorded job Static e k x.0 x.1)), x.2, x.3)
runtime_kept job h b2 r w p Runtime of e keeps k is earlier =
    let x = kept_by job Runtime e p keeps of in
    (x.0, Contains-append_right (flat_map (recorded job Static) h) b2 x.0 (subst (λ l. Contains l x.0) (sym earlier) x.1), x.2, x.3)

kept_runtime : Effective → Recording-law → (job : JobView) (h : List Event) → IsOneThreadRun job h → (b2 : List Recording) (r : Recording) → Ended job Runtime h b2 r → CallsNameKept (flat_map (recorded job Static) h ++ b2) r
kept_runtime effective sound job h run b2 r e =
    let run1 : IsOneThreadRun job (e.front ++ End r.step r.calls ∷ e.back) = subst (IsOneThreadRun job) e.is run in
    calls_named effective sound job e.front e.back (flat_map (recorded job Static) h ++ b2) r run1 (e.declared ∙ ap Some (sym e.of_phase))
    (λ p k static. runtime_kept job h b2 r e p p.phase refl e.front k (End r.step r.calls ∷ e.back) e.is e.earlier)

-- each proxy in the recordings of a run names a keeping call that stands earlier
pub names_kept : Effective → Recording-law → (job : JobView) (h : List Event) → IsOneThreadRun job h → EachAfter CallsNameKept (recordings job h)
names_kept effective sound job h run b r a q = elim (append_split (flat_map (recorded job Static) h) (flat_map (recorded job Runtime) h) b r a q) [
  | inl w ↦ kept_static effective sound job h run b r (comes_from job Static h b r w.0 w.1)
  | inr w ↦ subst (λ l. CallsNameKept l r) (sym w.1) (kept_runtime effective sound job h run w.0 r (comes_from job Runtime h w.0 r a w.2))
]

-- ---- at most one of each step, the static ones first, each within the limits
one_phase : (job : JobView) (s : ℕ) → (decl_at job s).phase ≡ Some Static → (decl_at job s).phase ≡ Some Runtime → ⊥
one_phase job s a b = let z : Some Static ≡ Some Runtime = sym a ∙ b in cc z

-- a recording is of a step that has ended
of_end : (job : JobView) (phase : Phase) (h : List Event) (r : Recording) → Contains (flat_map (recorded job phase) h) r → Contains (ended h) r.step × ((decl_at job r.step).phase ≡ Some phase)
of_end job phase h r c =
    let cut = split_in (flat_map (recorded job phase) h) r c in
    let e = comes_from job phase h cut.0 r cut.1 cut.2 in
    (subst (λ l. Contains (ended l) r.step) (sym e.is) (flat_in end_of (e.front ++ End r.step r.calls ∷ e.back) (End r.step r.calls) r.step (Contains-append_right e.front (End r.step r.calls ∷ e.back) (End r.step r.calls) (in_head (End r.step r.calls) e.back)) (in_head r.step [])), e.declared)

-- a step ends once
ends_once : (job : JobView) (g k : List Event) (s : ℕ) (calls : List Call) → IsOneThreadRun job (g ++ End s calls ∷ k) → Contains (ended g) s → ⊥
ends_once job g k s calls run c =
    let front = run_init job g (End s calls ∷ k) run in
    ended_stops job g s (End s calls) front c (follow_is job g (End s calls) k front run)

fresh_step : (job : JobView) (phase : Phase) (h : List Event) → IsOneThreadRun job h → (b : List Recording) (r : Recording) → Ended job phase h b r → (q : Recording) → Contains b q → q.step ≢ r.step
fresh_step job phase h run b r e q c same =
    let run1 : IsOneThreadRun job (e.front ++ End r.step r.calls ∷ e.back) = subst (IsOneThreadRun job) e.is run in
    let o = of_end job phase e.front q (subst (λ l. Contains l q) e.earlier c) in
    ends_once job e.front e.back r.step r.calls run1 (subst (Contains (ended e.front)) same o.0)

other_phase : (job : JobView) (h : List Event) (b : List Recording) (r : Recording) → Ended job Runtime h b r → (q : Recording) → Contains (flat_map (recorded job Static) h) q → q.step ≢ r.step
other_phase job h b r e q c same =
    let o = of_end job Static h q c in
    one_phase job r.step (subst (λ s. (decl_at job s).phase ≡ Some Static) same o.1) e.declared

pub one_each : (job : JobView) (h : List Event) → IsOneThreadRun job h → EachAfter (λ earlier r. HasNoStep r.step earlier) (recordings job h)
one_each job h run b r a q = elim (append_split (flat_map (recorded job Static) h) (flat_map (recorded job Runtime) h) b r a q) [
  | inl w ↦
      let e = comes_from job Static h b r w.0 w.1 in
      All-weaker (Contains b) (λ x. x.step ≢ r.step) (fresh_step job Static h run b r e) b (All-contains_itself b)
  | inr w ↦
      let e = comes_from job Runtime h w.0 r a w.2 in
      subst (HasNoStep r.step) (sym w.1) (All-weaker (Contains (flat_map (recorded job Static) h ++ w.0)) (λ x. x.step ≢ r.step)
      (λ x c. elim (Contains-append_cases (flat_map (recorded job Static) h) w.0 x c) [ inl l ↦ other_phase job h w.0 r e x l | inr l ↦ fresh_step job Runtime h run w.0 r e x l ])
      (flat_map (recorded job Static) h ++ w.0) (All-contains_itself (flat_map (recorded job Static) h ++ w.0)))
]

-- what is recorded is within the limits
within_at : Recording-law → (job : JobView) (phase : Phase) (h : List Event) → IsOneThreadRun job h → (r : Recording) → Contains (flat_map (recorded job phase) h) r → IsWithin 8192 131072 r
within_at sound job phase h run r c =
    let cut = split_in (flat_map (recorded job phase) h) r c in
    let e = comes_from job phase h cut.0 r cut.1 cut.2 in
    let run1 : IsOneThreadRun job (e.front ++ End r.step r.calls ∷ e.back) = subst (IsOneThreadRun job) e.is run in
    let gives = gave job e.front (End r.step r.calls) e.back refl run1 in
    let lists = taken (events_of r.step e.front) in
    let with = ends_with job r.step (meaning_at job r.step lists) gives.place r.calls gives.at in
    let recorded_is = sound job r.step lists with.0 r.calls with.1 in
    (recorded_is.cells_in, recorded_is.text_in)

pub all_within : Recording-law → (job : JobView) (h : List Event) → IsOneThreadRun job h → All (IsWithin 8192 131072) (recordings job h)
all_within sound job h run =
    All-weaker (Contains (recordings job h)) (IsWithin 8192 131072)
    (λ r c. elim (Contains-append_cases (flat_map (recorded job Static) h) (flat_map (recorded job Runtime) h) r c) [ inl l ↦ within_at sound job Static h run r l | inr l ↦ within_at sound job Runtime h run r l ])
    (recordings job h) (All-contains_itself (recordings job h))

-- filters of recordings of one phase
filter_all : (p : Recording → Bool) (xs : List Recording) → ((x : Recording) → Contains xs x → p x ≡ true) → filter p xs ≡ xs
filter_all p [] all = refl
filter_all p (x ∷ xs) all = rw (all x (in_head x xs), filter_all p xs (λ y c. all y (in_tail x xs y c))) refl

filter_none : (p : Recording → Bool) (xs : List Recording) → ((x : Recording) → Contains xs x → p x ≡ false) → filter p xs ≡ []
filter_none p [] all = refl
filter_none p (x ∷ xs) all = rw (all x (in_head x xs)) (filter_none p xs (λ y c. all y (in_tail x xs y c)))

of_this : (job : JobView) (phase : Phase) (h : List Event) (r : Recording) → Contains (flat_map (recorded job phase) h) r → r.phase ≡ phase
of_this job phase h r c = let cut = split_in (flat_map (recorded job phase) h) r c in (comes_from job phase h cut.0 r cut.1 cut.2).of_phase

pub static_before : (job : JobView) (h : List Event) → IsStaticFirst (recordings job h)
static_before job h =
    let xs = flat_map (recorded job Static) h in
    let ys = flat_map (recorded job Runtime) h in
    let p : Recording → Bool = λ r. not (is_runtime r.phase) in
    let q : Recording → Bool = λ r. is_runtime r.phase in
    let px : filter p xs ≡ xs = filter_all p xs (λ r c. ap (λ f. not (is_runtime f)) (of_this job Static h r c)) in
    let py : filter p ys ≡ [] = filter_none p ys (λ r c. ap (λ f. not (is_runtime f)) (of_this job Runtime h r c)) in
    let qx : filter q xs ≡ [] = filter_none q xs (λ r c. ap is_runtime (of_this job Static h r c)) in
    let qy : filter q ys ≡ ys = filter_all q ys (λ r c. ap is_runtime (of_this job Runtime h r c)) in
    let first : filter p (xs ++ ys) ≡ xs = filter-append p xs ys ∙ ap (λ l. l ++ filter p ys) px ∙ ap (λ l. xs ++ l) py ∙ append-nil xs in
    let second : filter q (xs ++ ys) ≡ ys = filter-append q xs ys ∙ ap (λ l. l ++ filter q ys) qx ∙ qy in
    sym (ap (λ l. l ++ filter q (xs ++ ys)) first ∙ ap (λ l. xs ++ l) second)

-- ---- not more than steps
abbrev StepsOf : List Recording → List ℕ
StepsOf rs = map (λ (r : Recording). r.step) rs

apart_from : (x : Recording) (rs : List Recording) → ((r : Recording) → Contains rs r → x.step ≢ r.step) → AllByRecursion (λ y. (x.step == y) ≡ false) (StepsOf rs)
apart_from x [] apart = tt
apart_from x (r ∷ rs) apart = (ne_eqb x.step r.step (apart r (in_head r rs)), apart_from x rs (λ y c. apart y (in_tail r rs y c)))

distinct_steps : (rs : List Recording) → EachAfter (λ earlier r. HasNoStep r.step earlier) rs → IsDistinct (λ x y. x == y) (StepsOf rs)
unfolding IsDistinct
distinct_steps [] once = tt
distinct_steps (x ∷ rs) once = (
  apart_from x rs (λ r c. let cut = split_in rs r c in All-head (λ (q : Recording). q.step ≢ r.step) x cut.0 (once (x ∷ cut.0) r cut.1 (ap (λ l. x ∷ l) cut.2))),
  distinct_steps rs (λ b r a q. All-tail (λ (y : Recording). y.step ≢ r.step) x b (once (x ∷ b) r a (ap (λ l. x ∷ l) q))),
)

any_at : (n q : ℕ) (x : Recording) (rs : List Recording) (b : Bool) → (q == x.step) ≡ b → ((r : Recording) → Contains (x ∷ rs) r → r.step < n)
    → (list_any (λ y. q == y) (StepsOf rs) ≡ true → q < n) → (b || list_any (λ y. q == y) (StepsOf rs)) ≡ true → q < n
any_at n q x rs true e below rec t = let same : q ≡ x.step = eqb-true q x.step e in let l : x.step < n = below x (in_head x rs) in omega (arith, same, l)
any_at n q x rs false e below rec t = rec t

any_below : (n q : ℕ) (rs : List Recording) → ((r : Recording) → Contains rs r → r.step < n) → list_any (λ y. q == y) (StepsOf rs) ≡ true → q < n
any_below n q [] below t = cc t
any_below n q (x ∷ rs) below t = any_at n q x rs (q == x.step) refl below (any_below n q rs (λ r c. below r (in_tail x rs r c))) t

few_at : (n : ℕ) (rs : List Recording) → EachAfter (λ earlier r. HasNoStep r.step earlier) rs → ((r : Recording) → Contains rs r → r.step < n) → length rs ≤ n
few_at n rs once below =
    let le = length-le_from_distinct_below (StepsOf rs) n (distinct_steps rs once) (λ q t. any_below n q rs below t) in
    let same = length-map rs (λ (r : Recording). r.step) in
    omega (arith, le, same)

step_below : (job : JobView) (phase : Phase) (h : List Event) → IsOneThreadRun job h → (r : Recording) → Contains (flat_map (recorded job phase) h) r → r.step < length job.plan.steps
step_below job phase h run r c =
    let cut = split_in (flat_map (recorded job phase) h) r c in
    let e = comes_from job phase h cut.0 r cut.1 cut.2 in
    step_in job e.front (End r.step r.calls) e.back (subst (IsOneThreadRun job) e.is run)

-- the recordings of a run of a job with not too many steps can be played
pub playable : Effective → Recording-law → (job : JobView) (h : List Event) → IsOneThreadRun job h → length job.plan.steps ≤ 2048 → IsPlayable 2048 8192 131072 (recordings job h)
playable effective sound job h run small =
    let once = one_each job h run in
    let few = few_at (length job.plan.steps) (recordings job h) once
    (λ r c. elim (Contains-append_cases (flat_map (recorded job Static) h) (flat_map (recorded job Runtime) h) r c) [ inl l ↦ step_below job Static h run r l | inr l ↦ step_below job Runtime h run r l ]) in
    record {
      few = omega (arith, few, small);
      one_a_step = once;
      within = all_within sound job h run;
      static_first = static_before job h;
      kept = names_kept effective sound job h run;
    }
