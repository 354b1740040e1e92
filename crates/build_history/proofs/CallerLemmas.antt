-- Lemmas for callers: histories that got one more event, the event that a step adds next, and runs that go on by it.
use Rattle.std.proofs.Common.{◌≡◌, ℕ, List, [], ◌∷◌, ◌++◌, Bool, true, false, ◌||◌, ◌==◌, refl, sym, ap, ◌∙◌, subst, ◌⊎◌, inl, inr, ◌≢◌, zero, suc, ◌<◌, ◌≤◌, ◌+◌, ◌-◌, length, get_or, arith, ◌&&◌, cond, append_assoc, length-append, Contains, ◌↔◌}
use Rattle.std.proofs.Math.Seq.{get_or-append_seam}
use Rattle.std.proofs.lemmas.Bool.{eqb-true, eqb-false, eq-eqb, ne_eqb, cases_lt}
use Rattle.std.proofs.lemmas.Grind.{flat_map-append}
use Rattle.std.proofs.lemmas.List.{append-nil}
use Rattle.std.proofs.lemmas.List.Elements.{filter-append}
use Rattle.std.proofs.lemmas.Option.{slice_get_past, slice_get-get_or}
use Rattle.std.specs.Prelude.{slice_index_or, slice_get, Option, Some, None, nat_lt}
use mathlib.Core.List.{IsPrefix}
use Rattle.build_history.specs.Events.{step_of, events_of, taken, taken_of, ended, has_failed, is_failure}
use Rattle.build_history.specs.Follow.{Owes, MayFollow}
use Rattle.build_history.specs.Jobs.{JobView, Needs, Precedes, consumes_at, meaning_at}
use Rattle.build_history.specs.Next.{no_consume, item_at, next_at, next_of, IsNext}
use Rattle.build_history.specs.Runs.{IsOneThreadRun, found_in}
use Rattle.build_history.specs.Scripts.{script, takes_of, puts_of, kept, rest_of, opening}
use Rattle.build_history.specs.declared.event.Event.{Event}
use Rattle.build_history.specs.declared.event.Event.TheVariants.{Start, Take, Fail, Put, End}
use Rattle.chain_builder.specs.EffectiveProducer.{produced}
use Rattle.chain_builder.specs.Lists.{list_at}
use Rattle.item_types.specs.declared.step.Consume.{Consume}
use Rattle.item_types.specs.declared.value.Value.{Value}
use Rattle.recorder_proxy.specs.declared.call.Call.{Call}
use Rattle.step_state.specs.declared.outcome.Outcome.{Outcome}
use Rattle.step_state.specs.declared.outcome.Outcome.TheVariants.{Done, Fails}
use Rattle.step_state.specs.declared.outcome.Reason.{Reason}

-- it is the last, or it stands in the list
pub snoc_split : {X : Type 0} (h : List X) (e : X) (g : List X) (x : X) (k : List X) → h ++ e ∷ [] ≡ g ++ x ∷ k
    → ((k ≡ []) × (h ≡ g) × (e ≡ x)) ⊎ ((t : List X) × (k ≡ t ++ e ∷ []) × (h ≡ g ++ x ∷ t))
snoc_split [] e [] x [] q = inl (refl, refl, cc)
snoc_split [] e [] x (y ∷ k) q = cc
snoc_split [] e (z ∷ []) x k q = cc
snoc_split [] e (z ∷ (w ∷ g)) x k q = cc
snoc_split (y ∷ []) e [] x k q = inr ([], cc, cc)
snoc_split (y ∷ (w ∷ h)) e [] x k q = inr (w ∷ h, cc, cc)
snoc_split (y ∷ h) e (z ∷ g) x k q =
    let rest : h ++ e ∷ [] ≡ g ++ x ∷ k = cc in
    let head : y ≡ z = cc in
    elim (snoc_split h e g x k rest) [
      | inl w ↦ inl (w.0, cc (w.1, head), w.2)
      | inr w ↦ inr (w.0, w.1, cc (w.2, head))
    ]

pub nowhere : {X : Type 0} (g k : List X) (e : X) → [] ≡ g ++ e ∷ k → ⊥
nowhere [] k e q = cc
nowhere (x ∷ g) k e q = cc

or_assoc : (a b c : Bool) → (a || (b || c)) ≡ ((a || b) || c)
or_assoc true b c = refl
or_assoc false b c = refl

pub has_failed-append : (g h : List Event) → has_failed (g ++ h) ≡ (has_failed g || has_failed h)
has_failed-append [] h = refl
has_failed-append (e ∷ g) h = rw (has_failed-append g h) (or_assoc (is_failure e) (has_failed g) (has_failed h))

pub events_of-same : (s : ℕ) (h : List Event) (e : Event) → (step_of e == s) ≡ true → events_of s (h ++ e ∷ []) ≡ events_of s h ++ e ∷ []
events_of-same s h e q = rw (filter-append (λ e. step_of e == s) h (e ∷ []), q) refl

pub events_of-other : (s : ℕ) (h : List Event) (e : Event) → (step_of e == s) ≡ false → events_of s (h ++ e ∷ []) ≡ events_of s h
events_of-other s h e q = rw (filter-append (λ e. step_of e == s) h (e ∷ []), q) (append-nil (events_of s h))

pub run_nil : (job : JobView) → IsOneThreadRun job []
run_nil job = record {
  needed = λ g k e q. absurd (nowhere g k e q);
  scripts = λ s. (script job s [], refl);
  takes = λ g k s item vs q. absurd (nowhere g k (Take s item vs) q);
  starts = λ g k s p q. absurd (nowhere g k (Start s) q);
  failures = λ g k s r q. absurd (nowhere g k (Fail s r) q);
}

-- a failure shows
failed_at : (g k : List Event) (s : ℕ) (r : Reason) → has_failed (g ++ Fail s r ∷ k) ≡ true
failed_at [] k s r = refl
failed_at (e ∷ g) k s r = elim (is_failure e) as (λ b. (b || has_failed (g ++ Fail s r ∷ k)) ≡ true) [ true ↦ refl | false ↦ failed_at g k s r ]

scripts_snoc : (job : JobView) (h : List Event) (e : Event) → IsOneThreadRun job h → MayFollow job h e
    → (s : ℕ) → (b : Bool) → (step_of e == s) ≡ b
    → IsPrefix (events_of s (h ++ e ∷ [])) (script job s (taken (events_of s (h ++ e ∷ []))))
scripts_snoc job h e run may s true q =
    let at : step_of e ≡ s = eqb-true (step_of e) s q in
    let P : ℕ → Type 0 = λ n. IsPrefix (events_of n h ++ e ∷ []) (script job n (taken (events_of n h) ++ taken_of e)) in
    let one : IsPrefix (events_of s h ++ e ∷ []) (script job s (taken (events_of s h) ++ taken_of e)) = subst P at may.scripted in
    let two : taken (events_of s h ++ e ∷ []) ≡ taken (events_of s h) ++ taken_of e = flat_map-append taken_of (events_of s h) (e ∷ []) ∙ ap (λ t. taken (events_of s h) ++ t) (append-nil (taken_of e)) in
    rw (events_of-same s h e q, two) one
scripts_snoc job h e run may s false q = rw (events_of-other s h e q) (run.scripts s)

-- a run goes on by one event
pub run_snoc : (job : JobView) (h : List Event) (e : Event) → IsOneThreadRun job h → MayFollow job h e → IsOneThreadRun job (h ++ e ∷ [])
run_snoc job h e run may = record {
  needed = λ g k x q. elim (snoc_split h e g x k q) [
    | inl w ↦ let P : Event → Type 0 = λ y. Needs job (step_of y) in subst P w.2 may.of_needed
    | inr w ↦ run.needed g w.0 x w.2
  ];
  scripts = λ s. scripts_snoc job h e run may s (step_of e == s) refl;
  takes = λ g k s item vs q. elim (snoc_split h e g (Take s item vs) k q) [
    | inl w ↦ let P : Event → Type 0 = λ y. Owes job h y in
        let Q : List Event → Type 0 = λ y. vs ≡ found_in job item y in subst Q w.1 (subst P w.2 may.owes)
    | inr w ↦ run.takes g w.0 s item vs w.2
  ];
  starts = λ g k s p q. elim (snoc_split h e g (Start s) k q) [
    | inl w ↦ let P : Event → Type 0 = λ y. Owes job h y in
        let Q : List Event → Type 0 = λ y. Precedes job p s → Contains (ended y) p in subst Q w.1 (subst P w.2 may.owes p)
    | inr w ↦ run.starts g w.0 s p w.2
  ];
  failures = λ g k s r q. elim (snoc_split h e g (Fail s r) k q) [
    | inl w ↦ w.0
    | inr w ↦ let none : has_failed (g ++ Fail s r ∷ w.0) ≡ false = sym (ap has_failed w.2) ∙ may.open_yet in
        let some = failed_at g w.0 s r in absurd (let z : true ≡ false = sym some ∙ none in cc)
  ];
}

-- where one beginning is no longer than the other, the other goes on from it
over_split : {X : Type 0} (zs xs ys ws : List X) → xs ++ ys ≡ zs ++ ws → length zs ≤ length xs → (u : List X) × (xs ≡ zs ++ u) × (ws ≡ u ++ ys)
over_split [] xs ys ws q le = (xs, refl, sym q)
over_split (z ∷ zs) [] ys ws q le = absurd (omega arith)
over_split (z ∷ zs) (x ∷ xs) ys ws q le =
    let more : xs ++ ys ≡ zs ++ ws = cc in
    let head : x ≡ z = cc in
    let rest = over_split zs xs ys ws more (omega arith) in
    (rest.0, cc (rest.1, head), rest.2)

cancel : {X : Type 0} (zs xs ys : List X) → zs ++ xs ≡ zs ++ ys → xs ≡ ys
cancel [] xs ys q = q
cancel (z ∷ zs) xs ys q = let more : zs ++ xs ≡ zs ++ ys = cc in cancel zs xs ys more

length_taken_one : (e : Event) → length (taken_of e) ≤ 1
length_taken_one (Start s) = omega arith
length_taken_one (Take s i vs) = omega arith
length_taken_one (Put s i v) = omega arith
length_taken_one (End s cs) = omega arith
length_taken_one (Fail s r) = omega arith

length_taken : (es : List Event) → length (taken es) ≤ length es
length_taken [] = omega arith
length_taken (e ∷ es) = let a = length_taken es in let b = length_taken_one e in let c = length-append (taken_of e) (taken es) in omega (arith, a, b, c)

length_takes : (s : ℕ) (cs : List Consume) (vs : List (List Value)) → (length (takes_of s cs vs) ≤ length vs) × (length (takes_of s cs vs) ≤ length cs)
length_takes s [] vs = (omega arith, omega arith)
length_takes s (c ∷ cs) [] = (omega arith, omega arith)
length_takes s (c ∷ cs) (v ∷ vs) = let a = length_takes s cs vs in (let x = a.0 in omega (arith, x), let y = a.1 in omega (arith, y))

full_takes : (s : ℕ) (cs : List Consume) (vs : List (List Value)) → length vs ≤ length cs → length (takes_of s cs vs) ≡ length vs
full_takes s [] [] le = refl
full_takes s [] (v ∷ vs) le = absurd (omega arith)
full_takes s (c ∷ cs) [] le = refl
full_takes s (c ∷ cs) (v ∷ vs) le = let rest : length vs ≤ length cs = omega arith in ap suc (full_takes s cs vs rest)

-- one list more is one take more
takes_step : (s : ℕ) (cs : List Consume) (vs : List (List Value)) (x : List Value) (w : List (List Value)) → length vs < length cs
    → (t : List Event) × (takes_of s cs (vs ++ x ∷ w) ≡ takes_of s cs vs ++ Take s ((slice_index_or cs (length vs) no_consume).item) x ∷ t)
takes_step s [] vs x w lt = absurd (omega arith)
takes_step s (c ∷ cs) [] x w lt = (takes_of s cs w, refl)
takes_step s (c ∷ cs) (v ∷ vs) x w lt =
    let rest = takes_step s cs vs x w (omega arith) in
    (rest.0, ap (λ t. Take s c.item v ∷ t) rest.1)

-- lists past the consumptions change no take
takes_full : (s : ℕ) (cs : List Consume) (vs w : List (List Value)) → length cs ≤ length vs → takes_of s cs (vs ++ w) ≡ takes_of s cs vs
takes_full s [] vs w le = refl
takes_full s (c ∷ cs) [] w le = absurd (omega arith)
takes_full s (c ∷ cs) (v ∷ vs) w le = let rest : length cs ≤ length vs = omega arith in ap (λ t. Take s c.item v ∷ t) (takes_full s cs vs w rest)

-- how far a step has come
abbrev pub Fresh : List Event → Type 0
Fresh es = es ≡ []

pub record Taking (job : JobView) (s : ℕ) (es : List Event) : Type 0 where
  pub v : List (List Value)
  pub is : es ≡ opening job s v
  pub few : length v < length (consumes_at job s)
  pub took : taken es ≡ v

pub record Giving (job : JobView) (s : ℕ) (es : List Event) : Type 0 where
  pub v : List (List Value)
  pub u : List Event
  pub r : List Event
  pub is : es ≡ opening job s v ++ u
  pub rest : rest_of job s (meaning_at job s v) ≡ u ++ r
  pub all : length v ≡ length (consumes_at job s)
  pub took : taken es ≡ v

abbrev pub Begun : JobView → ℕ → List Event → Type 0
Begun job s es = Fresh es ⊎ (Taking job s es ⊎ Giving job s es)

no_parts : {X : Type 0} (u r : List X) → [] ≡ u ++ r → u ≡ []
no_parts [] r q = refl
no_parts (x ∷ u) r q = cc

not_empty : {X : Type 0} (g k : List X) (e : X) → g ++ e ∷ k ≡ [] → ⊥
not_empty [] k e q = cc
not_empty (x ∷ g) k e q = cc

begun_at : (job : JobView) (s : ℕ) (e : Event) (es r : List Event) (b : Bool) → (length (taken (e ∷ es)) == length (consumes_at job s)) ≡ b
    → (e ∷ es) ++ r ≡ opening job s (taken (e ∷ es)) ++ cond b (rest_of job s (meaning_at job s (taken (e ∷ es)))) []
    → length (opening job s (taken (e ∷ es))) ≤ length (e ∷ es) → Begun job s (e ∷ es)
begun_at job s e es r true q is le =
    let cut = over_split (opening job s (taken (e ∷ es))) (e ∷ es) r _ is le in
    inr (inr (record { v = taken (e ∷ es); u = cut.0; r = r; is = cut.1; rest = cut.2; all = eqb-true _ _ q; took = refl }))
begun_at job s e es r false q is le =
    let v = taken (e ∷ es) in
    let cut = over_split (opening job s v) (e ∷ es) r [] is le in
    let z : cut.0 ≡ [] = no_parts cut.0 r cut.2 in
    let same : e ∷ es ≡ opening job s v = cut.1 ∙ ap (λ t. opening job s v ++ t) z ∙ append-nil (opening job s v) in
    let few = length_takes s (consumes_at job s) v in
    let most : length v ≤ length (takes_of s (consumes_at job s) v) = subst (λ t. length t ≤ length (takes_of s (consumes_at job s) v)) (sym (ap taken same)) (length_taken (takes_of s (consumes_at job s) v)) in
    let other : length v ≢ length (consumes_at job s) = eqb-false _ _ q in
    inr (inl (record { v = v; is = same; few = (let x = few.1 in omega (arith, x, most, other)); took = refl }))

-- a beginning of the script
pub begun : (job : JobView) (s : ℕ) (es : List Event) → IsPrefix es (script job s (taken es)) → Begun job s es
begun job s [] p = inl refl
begun job s (e ∷ es) p =
    let v = taken (e ∷ es) in
    let head : e ≡ Start s = let q = p.1 in cc q in
    let few : length v ≤ length es = subst (λ x. length (taken_of x ++ taken es) ≤ length es) (sym head) (length_taken es) in
    let takes = length_takes s (consumes_at job s) v in
    begun_at job s e es p.0 (length v == length (consumes_at job s)) refl p.1 (let x = takes.0 in omega (arith, x, few))

eq_refl : (n : ℕ) → (n == n) ≡ true
eq_refl n = eq-eqb n n refl

-- what an event says that stands in a run
abbrev pub Says : JobView → List Event → Event → Type 0
Says job h (Start s) = Unit {0}
Says job h (Take s i vs) = vs ≡ found_in job i h
Says job h (Put s i v) = Unit {0}
Says job h (End s cs) = Unit {0}
Says job h (Fail s r) = Unit {0}

lt_true : (a b : ℕ) → a < b → nat_lt a b ≡ true
lt_true a b lt = grind (arith, lt)

lt_false : (a b : ℕ) → b ≤ a → nat_lt a b ≡ false
lt_false a b le = grind (arith, le)

fresh_next : (job : JobView) (s : ℕ) (h : List Event) (e : Event) (k r : List Event) (w : List (List Value)) → (e ∷ k) ++ r ≡ script job s w → Says job h e → next_of job s [] h ≡ Some e
fresh_next job s h e k r w q says =
    let head : e ≡ Start s = cc q in
    rw head refl

-- the tail after the takes, v having one list for each take and w being what later events take
taking_next : (job : JobView) (s : ℕ) (h : List Event) (e : Event) (v : List (List Value)) (k r : List Event) (w : List (List Value)) → length v < length (consumes_at job s)
    → (opening job s v ++ e ∷ k) ++ r ≡ script job s (v ++ w) → w ≡ taken (e ∷ k) → Says job h e
    → Some (Take s (item_at job s (length v)) (found_in job (item_at job s (length v)) h)) ≡ Some e
taking_next job s h e v k r [] lt q t says =
    let other : (length v == length (consumes_at job s)) ≡ false = ne_eqb (length v) (length (consumes_at job s)) (omega arith) in
    let same : v ++ [] ≡ v = append-nil v in
    let whole : script job s (v ++ []) ≡ opening job s v ++ [] = rw (same, other) refl in
    let rest : (e ∷ k) ++ r ≡ [] = cancel (opening job s v) _ _ (sym (append_assoc (opening job s v) (e ∷ k) r) ∙ q ∙ whole) in
    cc rest
taking_next job s h e v k r (x ∷ w) lt q t says =
    let more = takes_step s (consumes_at job s) v x w lt in
    let c = item_at job s (length v) in
    let after = cond (length (v ++ x ∷ w) == length (consumes_at job s)) (rest_of job s (meaning_at job s (v ++ x ∷ w))) [] in
    let whole : script job s (v ++ x ∷ w) ≡ opening job s v ++ ((Take s c x ∷ more.0) ++ after) = ap (λ y. (Start s ∷ y) ++ after) more.1 ∙ append_assoc (opening job s v) (Take s c x ∷ more.0) after in
    let rest : (e ∷ k) ++ r ≡ (Take s c x ∷ more.0) ++ after = cancel (opening job s v) _ _ (sym (append_assoc (opening job s v) (e ∷ k) r) ∙ q ∙ whole) in
    let head : e ≡ Take s c x = cc rest in
    let found_is : x ≡ found_in job c h = subst (Says job h) head says in
    rw (head, found_is) refl

got : {X : Type 0} (u : List X) (e : X) (k : List X) → slice_get (u ++ e ∷ k) (length u) ≡ Some e
got u e k = let at = length-append u (e ∷ k) in slice_get-get_or (u ++ e ∷ k) (length u) e (omega (arith, at)) ∙ ap Some (get_or-append_seam u e k e)

giving_next : (job : JobView) (s : ℕ) (e : Event) (v : List (List Value)) (u r0 k r : List Event) (w : List (List Value)) → length v ≡ length (consumes_at job s)
    → rest_of job s (meaning_at job s v) ≡ u ++ r0
    → ((opening job s v ++ u) ++ e ∷ k) ++ r ≡ script job s (v ++ w)
    → slice_get (rest_of job s (meaning_at job s v)) (length u) ≡ Some e
giving_next job s e v u r0 k r [] all is q =
    let equal : (length v == length (consumes_at job s)) ≡ true = eq-eqb (length v) (length (consumes_at job s)) all in
    let same : v ++ [] ≡ v = append-nil v in
    let whole : script job s (v ++ []) ≡ opening job s v ++ rest_of job s (meaning_at job s v) = rw (same, equal) refl in
    let left : ((opening job s v ++ u) ++ e ∷ k) ++ r ≡ opening job s v ++ (u ++ ((e ∷ k) ++ r)) = append_assoc (opening job s v ++ u) (e ∷ k) r ∙ append_assoc (opening job s v) u ((e ∷ k) ++ r) in
    let rest : u ++ e ∷ (k ++ r) ≡ rest_of job s (meaning_at job s v) = cancel (opening job s v) _ _ (sym left ∙ q ∙ whole) in
    rw (sym rest) (got u e (k ++ r))
giving_next job s e v u r0 k r (x ∷ w) all is q =
    let lens = length-append v (x ∷ w) in
    let other : (length (v ++ x ∷ w) == length (consumes_at job s)) ≡ false = ne_eqb _ _ (omega (arith, lens)) in
    let whole : script job s (v ++ x ∷ w) ≡ opening job s v ++ [] = rw (takes_full s (consumes_at job s) v (x ∷ w) (omega arith), other) refl in
    let left : ((opening job s v ++ u) ++ e ∷ k) ++ r ≡ opening job s v ++ (u ++ ((e ∷ k) ++ r)) = append_assoc (opening job s v ++ u) (e ∷ k) r ∙ append_assoc (opening job s v) u ((e ∷ k) ++ r) in
    let rest : u ++ e ∷ (k ++ r) ≡ [] = cancel (opening job s v) _ _ (sym left ∙ q ∙ whole) in
    absurd (not_empty u (k ++ r) e rest)

-- what is next at each stage
pub taking_value : (job : JobView) (s : ℕ) (h : List Event) (v : List (List Value)) → length v < length (consumes_at job s) → taken (opening job s v) ≡ v
    → next_of job s (opening job s v) h ≡ Some (Take s (item_at job s (length v)) (found_in job (item_at job s (length v)) h))
taking_value job s h v few took = rw (took, lt_true (length v) (length (consumes_at job s)) few) refl

pub giving_value : (job : JobView) (s : ℕ) (h : List Event) (v : List (List Value)) (u : List Event) → length v ≡ length (consumes_at job s) → taken (opening job s v ++ u) ≡ v
    → next_of job s (opening job s v ++ u) h ≡ slice_get (rest_of job s (meaning_at job s v)) (length u)
giving_value job s h v u all took =
    let lens = length-append (takes_of s (consumes_at job s) v) u in
    let full = full_takes s (consumes_at job s) v (omega arith) in
    let at : length (takes_of s (consumes_at job s) v ++ u) - length (consumes_at job s) ≡ length u = omega (arith, lens, full) in
    rw (took, lt_false (length v) (length (consumes_at job s)) (omega arith), at) refl

-- the event that stands after the step's events es is the next one
pub next_is : (job : JobView) (s : ℕ) (h es : List Event) (e : Event) (k : List Event) → Begun job s es
    → IsPrefix (es ++ e ∷ k) (script job s (taken (es ++ e ∷ k))) → Says job h e → next_of job s es h ≡ Some e
next_is job s h es e k (inl z) p says =
    let P : List Event → Type 0 = λ x. IsPrefix (x ++ e ∷ k) (script job s (taken (x ++ e ∷ k))) in
    let Q : List Event → Type 0 = λ x. next_of job s x h ≡ Some e in
    let p2 : IsPrefix (e ∷ k) (script job s (taken (e ∷ k))) = subst P z p in
    subst Q (sym z) (fresh_next job s h e k p2.0 (taken (e ∷ k)) p2.1 says)
next_is job s h es e k (inr (inl b)) p says =
    let P : List Event → Type 0 = λ x. IsPrefix (x ++ e ∷ k) (script job s (taken x ++ taken (e ∷ k))) in
    let Q : List Event → Type 0 = λ x. next_of job s x h ≡ Some e in
    let p1 : IsPrefix (es ++ e ∷ k) (script job s (taken es ++ taken (e ∷ k))) = subst (λ t. IsPrefix (es ++ e ∷ k) (script job s t)) (flat_map-append taken_of es (e ∷ k)) p in
    let p2 = subst P b.is p1 in
    let took : taken (opening job s b.v) ≡ b.v = sym (ap taken b.is) ∙ b.took in
    let p3 : IsPrefix (opening job s b.v ++ e ∷ k) (script job s (b.v ++ taken (e ∷ k))) = subst (λ t. IsPrefix (opening job s b.v ++ e ∷ k) (script job s (t ++ taken (e ∷ k)))) took p2 in
    subst Q (sym b.is) (taking_value job s h b.v b.few took ∙ taking_next job s h e b.v k p3.0 (taken (e ∷ k)) b.few p3.1 refl says)
next_is job s h es e k (inr (inr b)) p says =
    let P : List Event → Type 0 = λ x. IsPrefix (x ++ e ∷ k) (script job s (taken x ++ taken (e ∷ k))) in
    let Q : List Event → Type 0 = λ x. next_of job s x h ≡ Some e in
    let p1 : IsPrefix (es ++ e ∷ k) (script job s (taken es ++ taken (e ∷ k))) = subst (λ t. IsPrefix (es ++ e ∷ k) (script job s t)) (flat_map-append taken_of es (e ∷ k)) p in
    let p2 = subst P b.is p1 in
    let took : taken (opening job s b.v ++ b.u) ≡ b.v = sym (ap taken b.is) ∙ b.took in
    let p3 : IsPrefix ((opening job s b.v ++ b.u) ++ e ∷ k) (script job s (b.v ++ taken (e ∷ k))) = subst (λ t. IsPrefix ((opening job s b.v ++ b.u) ++ e ∷ k) (script job s (t ++ taken (e ∷ k)))) took p2 in
    subst Q (sym b.is) (giving_value job s h b.v b.u b.all took ∙ giving_next job s e b.v b.u b.r k p3.0 (taken (e ∷ k)) b.all b.rest p3.1)

-- the events after the takes are of the step and take nothing
abbrev pub IsRest : ℕ → Event → Type 0
IsRest s (Start t) = ⊥
IsRest s (Take t i vs) = ⊥
IsRest s (Put t i v) = t ≡ s
IsRest s (End t cs) = t ≡ s
IsRest s (Fail t r) = t ≡ s

puts_rest : (s : ℕ) (ps : List (ℕ × Value)) (cs : List Call) (i : ℕ) (e : Event) → slice_get (puts_of s ps ++ End s cs ∷ []) i ≡ Some e → IsRest s e
puts_rest s [] cs zero e q = let is : End s cs ≡ e = cc q in subst (IsRest s) is refl
puts_rest s [] cs (suc i) e q = let past = slice_get_past (End s cs ∷ []) (suc i) (omega arith) in cc (q, past)
puts_rest s (p ∷ ps) cs zero e q = let is : Put s p.0 p.1 ≡ e = cc q in subst (IsRest s) is refl
puts_rest s (p ∷ ps) cs (suc i) e q = puts_rest s ps cs i e q

rest_rest : (job : JobView) (s : ℕ) (o : Outcome) (i : ℕ) (e : Event) → slice_get (rest_of job s o) i ≡ Some e → IsRest s e
rest_rest job s (Done ps cs) i e q = puts_rest s (kept job s ps) cs i e q
rest_rest job s (Fails r) zero e q = let is : Fail s r ≡ e = cc q in subst (IsRest s) is refl
rest_rest job s (Fails r) (suc i) e q = let past = slice_get_past (Fail s r ∷ []) (suc i) (omega arith) in cc (q, past)

rest_takes : (s : ℕ) (e : Event) → IsRest s e → taken_of e ≡ []
rest_takes s (Start t) i = absurd i
rest_takes s (Take t j vs) i = absurd i
rest_takes s (Put t j v) i = refl
rest_takes s (End t cs) i = refl
rest_takes s (Fail t r) i = refl

rest_step : (s : ℕ) (e : Event) → IsRest s e → step_of e ≡ s
rest_step s (Start t) i = absurd i
rest_step s (Take t j vs) i = absurd i
rest_step s (Put t j v) i = i
rest_step s (End t cs) i = i
rest_step s (Fail t r) i = i

rest_says : (job : JobView) (s : ℕ) (h : List Event) (e : Event) → IsRest s e → Says job h e
rest_says job s h (Start t) i = absurd i
rest_says job s h (Take t j vs) i = absurd i
rest_says job s h (Put t j v) i = tt
rest_says job s h (End t cs) i = tt
rest_says job s h (Fail t r) i = tt

-- what the next event is: of the step, going on with the script, and saying what it owes
pub record Goes (job : JobView) (s : ℕ) (h es : List Event) (e : Event) : Type 0 where
  pub of : step_of e ≡ s
  pub on : IsPrefix (es ++ e ∷ []) (script job s (taken es ++ taken_of e))
  pub says : Says job h e

fresh_goes : (job : JobView) (s : ℕ) (h : List Event) (e : Event) → Some (Start s) ≡ Some e → Goes job s h [] e
fresh_goes job s h e q =
    let is : Start s ≡ e = cc q in
    subst (Goes job s h []) is (record { of = refl; on = (takes_of s (consumes_at job s) [] ++ cond (0 == length (consumes_at job s)) (rest_of job s (meaning_at job s [])) [], refl); says = tt })

taking_goes : (job : JobView) (s : ℕ) (h : List Event) (v : List (List Value)) → length v < length (consumes_at job s) → taken (opening job s v) ≡ v
    → Goes job s h (opening job s v) (Take s (item_at job s (length v)) (found_in job (item_at job s (length v)) h))
taking_goes job s h v few took =
    let c = item_at job s (length v) in
    let x = found_in job c h in
    let more = takes_step s (consumes_at job s) v x [] few in
    let after = cond (length (v ++ x ∷ []) == length (consumes_at job s)) (rest_of job s (meaning_at job s (v ++ x ∷ []))) [] in
    let whole : script job s (v ++ x ∷ []) ≡ opening job s v ++ ((Take s c x ∷ more.0) ++ after) = ap (λ y. (Start s ∷ y) ++ after) more.1 ∙ append_assoc (opening job s v) (Take s c x ∷ more.0) after in
    let on : IsPrefix (opening job s v ++ Take s c x ∷ []) (script job s (v ++ x ∷ [])) = (more.0 ++ after, append_assoc (opening job s v) (Take s c x ∷ []) (more.0 ++ after) ∙ sym whole) in
    record { of = refl; on = subst (λ t. IsPrefix (opening job s v ++ Take s c x ∷ []) (script job s (t ++ x ∷ []))) (sym took) on; says = refl }

giving_goes : (job : JobView) (s : ℕ) (h : List Event) (e : Event) (v : List (List Value)) (u r : List Event) → length v ≡ length (consumes_at job s)
    → rest_of job s (meaning_at job s v) ≡ u ++ r → taken (opening job s v ++ u) ≡ v → slice_get (rest_of job s (meaning_at job s v)) (length u) ≡ Some e
    → Goes job s h (opening job s v ++ u) e
giving_goes job s h e v u [] all is took q =
    let same : rest_of job s (meaning_at job s v) ≡ u = is ∙ append-nil u in
    let past : slice_get u (length u) ≡ None = slice_get_past u (length u) (omega arith) in
    let at : slice_get u (length u) ≡ Some e = subst (λ x. slice_get x (length u) ≡ Some e) same q in
    cc (past, at)
giving_goes job s h e v u (x ∷ r) all is took q =
    let at : slice_get (u ++ x ∷ r) (length u) ≡ Some e = subst (λ y. slice_get y (length u) ≡ Some e) is q in
    let head : x ≡ e = let g = got u x r in cc (at, g) in
    let kind : IsRest s e = rest_rest job s (meaning_at job s v) (length u) e q in
    let equal : (length v == length (consumes_at job s)) ≡ true = eq-eqb (length v) (length (consumes_at job s)) all in
    let whole : script job s v ≡ opening job s v ++ rest_of job s (meaning_at job s v) = rw equal refl in
    let on : IsPrefix ((opening job s v ++ u) ++ e ∷ []) (script job s v) = (
      r,
      append_assoc (opening job s v ++ u) (e ∷ []) r ∙ append_assoc (opening job s v) u (e ∷ r)
          ∙ ap (λ y. opening job s v ++ y) (ap (λ z. u ++ z ∷ r) (sym head) ∙ sym is) ∙ sym whole,
    ) in
    let same : taken (opening job s v ++ u) ++ taken_of e ≡ v = rw (took, rest_takes s e kind) (append-nil v) in
    record { of = rest_step s e kind; on = subst (λ t. IsPrefix ((opening job s v ++ u) ++ e ∷ []) (script job s t)) (sym same) on; says = rest_says job s h e kind }

pub next_goes : (job : JobView) (s : ℕ) (h es : List Event) (e : Event) → Begun job s es → next_of job s es h ≡ Some e → Goes job s h es e
next_goes job s h es e (inl z) q =
    let Q : List Event → Type 0 = λ x. next_of job s x h ≡ Some e in
    let P : List Event → Type 0 = λ x. Goes job s h x e in
    subst P (sym z) (fresh_goes job s h e (subst Q z q))
next_goes job s h es e (inr (inl b)) q =
    let Q : List Event → Type 0 = λ x. next_of job s x h ≡ Some e in
    let P : List Event → Type 0 = λ x. Goes job s h x e in
    let took : taken (opening job s b.v) ≡ b.v = sym (ap taken b.is) ∙ b.took in
    let c = item_at job s (length b.v) in
    let head : Take s c (found_in job c h) ≡ e = let one = taking_value job s h b.v b.few took in let two = subst Q b.is q in cc (one, two) in
    subst P (sym b.is) (subst (Goes job s h (opening job s b.v)) head (taking_goes job s h b.v b.few took))
next_goes job s h es e (inr (inr b)) q =
    let Q : List Event → Type 0 = λ x. next_of job s x h ≡ Some e in
    let P : List Event → Type 0 = λ x. Goes job s h x e in
    let took : taken (opening job s b.v ++ b.u) ≡ b.v = sym (ap taken b.is) ∙ b.took in
    subst P (sym b.is) (giving_goes job s h e b.v b.u b.r b.all b.rest took (sym (giving_value job s h b.v b.u b.all took) ∙ subst Q b.is q))

in_none : {X : Type 0} (x : X) → Contains [] x → ⊥
in_none x c = let inside : c.0 < 0 = c.1 in omega arith

at_past : {X Y : Type 0} (f : X → List Y) (xs : List X) (i : ℕ) → length xs ≤ i → list_at f xs i ≡ []
at_past f [] i le = refl
at_past f (x ∷ xs) zero le = absurd (omega (arith, le))
at_past f (x ∷ xs) (suc i) le = at_past f xs i (omega (arith, le))

-- a needed step is one of the job's
pub needed_in : (job : JobView) (s : ℕ) → Needs job s → s < length job.plan.steps
needed_in job s n = elim (cases_lt s (length job.plan.steps)) [
  | inl l ↦ l
  | inr l ↦ absurd (in_none n.leads.0.1.production (subst (λ ps. Contains ps n.leads.0.1.production) (at_past produced job.plan.steps s l) n.leads.0.1.declared))
]

pub step_in : (job : JobView) (g : List Event) (e : Event) (k : List Event) → IsOneThreadRun job (g ++ e ∷ k) → step_of e < length job.plan.steps
step_in job g e k run = needed_in job (step_of e) (run.needed g k e refl)

pub record HasFailure (g : List Event) : Type 0 where
  pub before : List Event
  pub step : ℕ
  pub reason : Reason
  pub after : List Event
  pub is : g ≡ before ++ Fail step reason ∷ after

later : (x : Event) (g : List Event) → HasFailure g → HasFailure (x ∷ g)
later x g f = record { before = x ∷ f.before; step = f.step; reason = f.reason; after = f.after; is = ap (λ t. x ∷ t) f.is }

pub failure_in : (g : List Event) → has_failed g ≡ true → HasFailure g
failure_in [] q = cc
failure_in (Start s ∷ g) q = later (Start s) g (failure_in g q)
failure_in (Take s i vs ∷ g) q = later (Take s i vs) g (failure_in g q)
failure_in (Put s i v ∷ g) q = later (Put s i v) g (failure_in g q)
failure_in (End s cs ∷ g) q = later (End s cs) g (failure_in g q)
failure_in (Fail s r ∷ g) q = record { before = []; step = s; reason = r; after = g; is = refl }

unfailed_at : (job : JobView) (g : List Event) (e : Event) (k : List Event) (b : Bool) → has_failed g ≡ b → IsOneThreadRun job (g ++ e ∷ k) → has_failed g ≡ false
unfailed_at job g e k false q run = q
unfailed_at job g e k true q run =
    let f = failure_in g q in
    let whole : g ++ e ∷ k ≡ f.before ++ Fail f.step f.reason ∷ (f.after ++ e ∷ k) = ap (λ t. t ++ e ∷ k) f.is ∙ append_assoc f.before (Fail f.step f.reason ∷ f.after) (e ∷ k) in
    absurd (not_empty f.after k e (run.failures f.before (f.after ++ e ∷ k) f.step f.reason whole))

pub unfailed : (job : JobView) (g : List Event) (e : Event) (k : List Event) → IsOneThreadRun job (g ++ e ∷ k) → has_failed g ≡ false
unfailed job g e k run = unfailed_at job g e k (has_failed g) refl run

events_at : (g : List Event) (e : Event) (k : List Event) → events_of (step_of e) (g ++ e ∷ k) ≡ events_of (step_of e) g ++ e ∷ events_of (step_of e) k
events_at g e k = rw (filter-append (λ x. step_of x == step_of e) g (e ∷ k), eq_refl (step_of e)) refl

says_of : (job : JobView) (g : List Event) (e : Event) (k : List Event) → IsOneThreadRun job (g ++ e ∷ k) → Says job g e
says_of job g (Start s) k run = tt
says_of job g (Take s i vs) k run = run.takes g k s i vs refl
says_of job g (Put s i v) k run = tt
says_of job g (End s cs) k run = tt
says_of job g (Fail s r) k run = tt

owes_of : (job : JobView) (g : List Event) (e : Event) (k : List Event) → IsOneThreadRun job (g ++ e ∷ k) → Owes job g e
owes_of job g (Start s) k run = λ p q. run.starts g k s p refl q
owes_of job g (Take s i vs) k run = run.takes g k s i vs refl
owes_of job g (Put s i v) k run = tt
owes_of job g (End s cs) k run = tt
owes_of job g (Fail s r) k run = tt

-- how far a step has come in a run
pub begun_in : (job : JobView) (g : List Event) (s : ℕ) → IsOneThreadRun job g → Begun job s (events_of s g)
begun_in job g s run = begun job s (events_of s g) (run.scripts s)

-- the event that follows a run in a longer run is the one that its step adds next
pub follow_is : (job : JobView) (g : List Event) (e : Event) (k : List Event) → IsOneThreadRun job g → IsOneThreadRun job (g ++ e ∷ k) → next_of job (step_of e) (events_of (step_of e) g) g ≡ Some e
follow_is job g e k run more =
    let s = step_of e in
    let P : List Event → Type 0 = λ x. IsPrefix x (script job s (taken x)) in
    let p = subst P (events_at g e k) (more.scripts s) in
    next_is job s g (events_of s g) e (events_of s k) (begun_in job g s run) p (says_of job g e k more)

-- the event that follows in a longer run may follow
pub may_follow : (job : JobView) (g : List Event) (e : Event) (k : List Event) → IsOneThreadRun job g → IsOneThreadRun job (g ++ e ∷ k) → MayFollow job g e
may_follow job g e k run more =
    let s = step_of e in
    let goes = next_goes job s g (events_of s g) e (begun_in job g s run) (follow_is job g e k run more) in
    record { open_yet = unfailed job g e k more; of_needed = more.needed g k e refl; scripted = goes.on; owes = owes_of job g e k more }

-- a run and the event that follows it in a longer run are a run
pub follow_run : (job : JobView) (g : List Event) (e : Event) (k : List Event) → IsOneThreadRun job g → IsOneThreadRun job (g ++ e ∷ k) → IsOneThreadRun job (g ++ e ∷ [])
follow_run job g e k run more = run_snoc job g e run (may_follow job g e k run more)

run_front : (job : JobView) (g a b : List Event) → IsOneThreadRun job g → IsOneThreadRun job (g ++ (a ++ b)) → IsOneThreadRun job (g ++ a)
run_front job g [] b run whole = subst (IsOneThreadRun job) (sym (append-nil g)) run
run_front job g (e ∷ a) b run whole =
    let run2 : IsOneThreadRun job (g ++ e ∷ []) = follow_run job g e (a ++ b) run whole in
    let there : g ++ e ∷ (a ++ b) ≡ (g ++ e ∷ []) ++ (a ++ b) = sym (append_assoc g (e ∷ []) (a ++ b)) in
    subst (IsOneThreadRun job) (append_assoc g (e ∷ []) a) (run_front job (g ++ e ∷ []) a b run2 (subst (IsOneThreadRun job) there whole))

-- a beginning of a run is a run
pub run_init : (job : JobView) (a b : List Event) → IsOneThreadRun job (a ++ b) → IsOneThreadRun job a
run_init job a b whole = run_front job [] a b (run_nil job) whole

pub goes_on : (job : JobView) (h : List Event) (e : Event) → IsOneThreadRun job h → MayFollow job h e ↔ IsOneThreadRun job (h ++ e ∷ [])
goes_on job h e run = (λ may. run_snoc job h e run may, λ more. may_follow job h e [] run more)

pub told_next : (job : JobView) (g k : List Event) (e : Event) → IsOneThreadRun job (g ++ e ∷ k) → next_of job (step_of e) (events_of (step_of e) g) g ≡ Some e
told_next job g k e run = follow_is job g e k (run_init job g (e ∷ k) run) run

started_owes : (job : JobView) (h : List Event) (e : Event) → Owes job h e → (p : ℕ) → e ≡ Start (step_of e) → Precedes job p (step_of e) → Contains (ended h) p
started_owes job h e owes p is edge = let P : Event → Type 0 = λ x. Owes job h x in subst P is owes p edge

next_owes : (job : JobView) (h : List Event) (e : Event) → Says job h e → ((p : ℕ) → e ≡ Start (step_of e) → Precedes job p (step_of e) → Contains (ended h) p) → Owes job h e
next_owes job h (Start s) says waited = λ p edge. waited p refl edge
next_owes job h (Take s i vs) says waited = says
next_owes job h (Put s i v) says waited = tt
next_owes job h (End s cs) says waited = tt
next_owes job h (Fail s r) says waited = tt

pub what_follows : (job : JobView) (h : List Event) (e : Event) → IsOneThreadRun job h → MayFollow job h e ↔ IsNext job h e
what_follows job h e run = (
  λ may. record {
    open_yet = may.open_yet;
    of_needed = may.of_needed;
    next = follow_is job h e [] run (run_snoc job h e run may);
    waited = λ p is edge. started_owes job h e may.owes p is edge;
  },
  λ next.
      let goes = next_goes job (step_of e) h (events_of (step_of e) h) e (begun_in job h (step_of e) run) next.next in
      record { open_yet = next.open_yet; of_needed = next.of_needed; scripted = goes.on; owes = next_owes job h e goes.says (λ p is edge. next.waited p is edge) },
)
