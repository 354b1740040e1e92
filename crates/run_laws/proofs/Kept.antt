-- Each proxy that a step takes stands for what an earlier step keeps, which has ended.
use Rattle.std.proofs.Common.{◌≡◌, ℕ, zero, suc, ◌<◌, ◌≤◌, length, get_or, List, [], ◌∷◌, ◌++◌, Contains, Bool, true, false, ◌==◌, cond, refl, sym, ap, ◌∙◌, subst, arith, append_assoc, length-append, ◌⊎◌, inl, inr}
use Rattle.std.specs.Prelude.{Some, slice_get, slice_index_or}
use Rattle.std.specs.List.{filter, flat_map}
use Rattle.std.proofs.lemmas.Bool.{eqb-true}
use Rattle.std.proofs.lemmas.Grind.{flat_map-append}
use Rattle.std.proofs.lemmas.List.Elements.{Contains-append_cases, Contains-append_left, Contains-append_right, All-contains, All-contains_itself, filter-append}
use Rattle.item_types.specs.declared.step.Consume.{Consume}
use Rattle.item_types.specs.declared.step.StepDecl.{StepDecl}
use Rattle.item_types.specs.declared.value.Proxy.{Proxy}
use Rattle.item_types.specs.declared.value.Value.{Value}
use Rattle.chain_builder.specs.EffectiveProducer.{IsEffectiveProducer}
use Rattle.chain_builder.specs.Lists.{list_at}
use Rattle.recorder_proxy.specs.Playable.{Keeps}
use Rattle.recorder_proxy.specs.Proxies.{proxies}
use Rattle.recorder_proxy.specs.declared.call.Call.{Call}
use Rattle.value_order.specs.Found.{kind_of}
use Rattle.value_order.proofs.CallerLemmas.{All-found}
use Rattle.step_state.specs.declared.outcome.Outcome.{Outcome}
use Rattle.step_state.specs.declared.outcome.Outcome.TheVariants.{Done, Fails}
use Rattle.step_eval.specs.KnownProxies.{IsKnown, HasKnown, IsRecorded}
use Rattle.step_eval.specs.Setting.{Setting}
use Rattle.build_history.specs.declared.event.Event.{Event}
use Rattle.build_history.specs.declared.event.Event.TheVariants.{Start, Take, Put, End, Fail}
use Rattle.build_history.specs.Events.{step_of, events_of, taken, taken_of, put_in, put_of, ended, end_of}
use Rattle.build_history.specs.Jobs.{JobView, Needs, Precedes, no_decl, decl_at, consumes_at, meaning_at, is_effective}
use Rattle.build_history.specs.Next.{no_consume, item_at, next_of}
use Rattle.build_history.specs.Runs.{IsOneThreadRun, found_in}
use Rattle.build_history.specs.Scripts.{puts_of, kept, rest_of, opening}
use Rattle.build_history.proofs.CallerLemmas.{Begun, IsRest, begun_in, giving_value, taking_value, follow_is, run_init, needed_in}

-- ---- lists
pub in_none : {X : Type 0} (x : X) → Contains [] x → ⊥
in_none x c = let inside : c.0 < 0 = c.1 in omega arith

pub in_head : {X : Type 0} (x : X) (xs : List X) → Contains (x ∷ xs) x
in_head x xs = (0, omega arith, refl)

pub in_tail : {X : Type 0} (x : X) (xs : List X) (y : X) → Contains xs y → Contains (x ∷ xs) y
in_tail x xs y c = let inside : c.0 < length xs = c.1 in (suc c.0, omega arith, c.2)

at_cases : {X : Type 0} (x : X) (xs : List X) (y : X) (k : ℕ) → k < length (x ∷ xs) → get_or (x ∷ xs) k y ≡ y → (x ≡ y) ⊎ Contains xs y
at_cases x xs y zero lt q = inl q
at_cases x xs y (suc k) lt q = inr (k, omega arith, q)

pub in_cases : {X : Type 0} (x : X) (xs : List X) (y : X) → Contains (x ∷ xs) y → (x ≡ y) ⊎ Contains xs y
in_cases x xs y c = at_cases x xs y c.0 c.1 c.2

-- where an element stands
pub split_in : {X : Type 0} (xs : List X) (x : X) → Contains xs x → (ys : List X) × (zs : List X) × (xs ≡ ys ++ x ∷ zs)
split_in [] x c = absurd (in_none x c)
split_in (y ∷ xs) x c = elim (in_cases y xs x c) [
  | inl e ↦ ([], xs, ap (λ z. z ∷ xs) e)
  | inr t ↦ let r = split_in xs x t in (y ∷ r.0, r.1, ap (λ z. y ∷ z) r.2)
]

-- what stands in a list that was made of several
pub in_flat : {X Y : Type 0} (f : X → List Y) (xs : List X) (y : Y) → Contains (flat_map f xs) y → (x : X) × Contains xs x × Contains (f x) y
in_flat f [] y c = absurd (in_none y c)
in_flat f (x ∷ xs) y c = elim (Contains-append_cases (f x) (flat_map f xs) y c) [
  | inl l ↦ (x, in_head x xs, l)
  | inr r ↦ let w = in_flat f xs y r in (w.0, in_tail x xs w.0 w.1, w.2)
]

pub flat_in : {X Y : Type 0} (f : X → List Y) (xs : List X) (x : X) (y : Y) → Contains xs x → Contains (f x) y → Contains (flat_map f xs) y
flat_in f [] x y c d = absurd (in_none x c)
flat_in f (z ∷ xs) x y c d = elim (in_cases z xs x c) [
  | inl e ↦ Contains-append_left (f z) (flat_map f xs) y (subst (λ w. Contains (f w) y) (sym e) d)
  | inr t ↦ Contains-append_right (f z) (flat_map f xs) y (flat_in f xs x y t d)
]

filtered_at : {X : Type 0} (p : X → Bool) (x : X) (xs : List X) (y : X) (b : Bool) → p x ≡ b
    → (Contains (filter p xs) y → Contains xs y × (p y ≡ true)) → Contains (cond b (x ∷ filter p xs) (filter p xs)) y → Contains (x ∷ xs) y × (p y ≡ true)
filtered_at p x xs y true q rec c = elim (in_cases x (filter p xs) y c) [
  | inl e ↦ (subst (Contains (x ∷ xs)) e (in_head x xs), subst (λ z. p z ≡ true) e q)
  | inr t ↦ let r = rec t in (in_tail x xs y r.0, r.1)
]
filtered_at p x xs y false q rec c = let r = rec c in (in_tail x xs y r.0, r.1)

pub filtered : {X : Type 0} (p : X → Bool) (xs : List X) (y : X) → Contains (filter p xs) y → Contains xs y × (p y ≡ true)
filtered p [] y c = absurd (in_none y c)
filtered p (x ∷ xs) y c = filtered_at p x xs y (p x) refl (filtered p xs y) c

same_begin : {X : Type 0} (xs ys us vs : List X) → xs ++ us ≡ ys ++ vs → length xs ≡ length ys → xs ≡ ys
same_begin [] [] us vs q e = refl
same_begin [] (y ∷ ys) us vs q e = absurd (omega (arith, e))
same_begin (x ∷ xs) [] us vs q e = absurd (omega (arith, e))
same_begin (x ∷ xs) (y ∷ ys) us vs q e =
    let head : x ≡ y = cc q in
    let rest : xs ++ us ≡ ys ++ vs = cc q in
    ap (λ z. z ∷ xs) head ∙ ap (λ z. y ∷ z) (same_begin xs ys us vs rest (omega (arith, e)))

list_at-read : {X Y : Type 0} (f : X → List Y) (xs : List X) (i : ℕ) (d : X) → i < length xs → list_at f xs i ≡ f (get_or xs i d)
list_at-read f [] i d lt = absurd (omega (arith, lt))
list_at-read f (x ∷ xs) zero d lt = refl
list_at-read f (x ∷ xs) (suc i) d lt = list_at-read f xs i d (omega (arith, lt))

get_in : {X : Type 0} (xs : List X) (i : ℕ) (d : X) → i < length xs → Contains xs (get_or xs i d)
get_in [] i d lt = absurd (omega (arith, lt))
get_in (x ∷ xs) zero d lt = in_head x xs
get_in (x ∷ xs) (suc i) d lt = in_tail x xs (get_or xs i d) (get_in xs i d (omega (arith, lt)))

-- ---- what a step gives after its takes
pub record Gave (job : JobView) (g : List Event) (e : Event) : Type 0 where
  pub place : ℕ
  pub at : slice_get (rest_of job (step_of e) (meaning_at job (step_of e) (taken (events_of (step_of e) g)))) place ≡ Some e
  pub full : length (taken (events_of (step_of e) g)) ≡ length (consumes_at job (step_of e))

gave_at : (job : JobView) (g : List Event) (e : Event) (s : ℕ) (es : List Event) → IsRest s e → Begun job s es → next_of job s es g ≡ Some e
    → (place : ℕ) × (slice_get (rest_of job s (meaning_at job s (taken es))) place ≡ Some e) × (length (taken es) ≡ length (consumes_at job s))
gave_at job g e s es rest (inl z) q =
    let one : Some (Start s) ≡ Some e = subst (λ x. next_of job s x g ≡ Some e) z q in
    let is : Start s ≡ e = cc one in
    absurd (subst (IsRest s) (sym is) rest)
gave_at job g e s es rest (inr (inl b)) q =
    let took : taken (opening job s b.v) ≡ b.v = sym (ap taken b.is) ∙ b.took in
    let one = taking_value job s g b.v b.few took in
    let two = subst (λ x. next_of job s x g ≡ Some e) b.is q in
    let is : Take s (item_at job s (length b.v)) (found_in job (item_at job s (length b.v)) g) ≡ e = cc (one, two) in
    absurd (subst (IsRest s) (sym is) rest)
gave_at job g e s es rest (inr (inr b)) q =
    let took : taken (opening job s b.v ++ b.u) ≡ b.v = sym (ap taken b.is) ∙ b.took in
    let one = giving_value job s g b.v b.u b.all took in
    let two = subst (λ x. next_of job s x g ≡ Some e) b.is q in
    let at : slice_get (rest_of job s (meaning_at job s b.v)) (length b.u) ≡ Some e = sym one ∙ two in
    (length b.u, subst (λ v. slice_get (rest_of job s (meaning_at job s v)) (length b.u) ≡ Some e) (sym b.took) at, ap length b.took ∙ b.all)

pub gave : (job : JobView) (g : List Event) (e : Event) (k : List Event) → IsRest (step_of e) e → IsOneThreadRun job (g ++ e ∷ k) → Gave job g e
gave job g e k rest run =
    let front = run_init job g (e ∷ k) run in
    let w = gave_at job g e (step_of e) (events_of (step_of e) g) rest (begun_in job g (step_of e) front) (follow_is job g e k front run) in
    record { place = w.0; at = w.1; full = w.2 }

put_among : (s : ℕ) (qs : List (ℕ × Value)) (cs : List Call) (n i : ℕ) (v : Value) → slice_get (puts_of s qs ++ End s cs ∷ []) n ≡ Some (Put s i v) → Contains qs (i, v)
put_among s [] cs zero i v q = let z : End s cs ≡ Put s i v = cc q in cc z
put_among s [] cs (suc n) i v q = cc q
put_among s (p ∷ qs) cs zero i v q =
    let z : Put s p.0 p.1 ≡ Put s i v = cc q in
    let a : p.0 ≡ i = cc z in
    let b : p.1 ≡ v = cc z in
    let e : p ≡ (i, v) = ap (λ x. (x, p.1)) a ∙ ap (λ y. (i, y)) b in
    subst (Contains (p ∷ qs)) e (in_head p qs)
put_among s (p ∷ qs) cs (suc n) i v q = in_tail p qs (i, v) (put_among s qs cs n i v q)

-- what was put is among what the body made
pub record Made (job : JobView) (s : ℕ) (o : Outcome) (i : ℕ) (v : Value) : Type 0 where
  pub puts : List (ℕ × Value)
  pub calls : List Call
  pub is : o ≡ Done puts calls
  pub among : Contains puts (i, v)
  pub counts : is_effective job.plan.steps s i ≡ true

made_at : (job : JobView) (s : ℕ) (o : Outcome) (n i : ℕ) (v : Value) → slice_get (rest_of job s o) n ≡ Some (Put s i v) → Made job s o i v
made_at job s (Done ps cs) n i v q =
    let f = filtered (λ (p : ℕ × Value). is_effective job.plan.steps s p.0) ps (i, v) (put_among s (kept job s ps) cs n i v q) in
    record { puts = ps; calls = cs; is = refl; among = f.0; counts = f.1 }
made_at job s (Fails r) zero i v q = let z : Fail s r ≡ Put s i v = cc q in cc z
made_at job s (Fails r) (suc n) i v q = cc q

end_among : (s : ℕ) (qs : List (ℕ × Value)) (cs calls : List Call) (n : ℕ) → slice_get (puts_of s qs ++ End s cs ∷ []) n ≡ Some (End s calls) → cs ≡ calls
end_among s [] cs calls zero q = let z : End s cs ≡ End s calls = cc q in cc z
end_among s [] cs calls (suc n) q = cc q
end_among s (p ∷ qs) cs calls zero q = let z : Put s p.0 p.1 ≡ End s calls = cc q in cc z
end_among s (p ∷ qs) cs calls (suc n) q = end_among s qs cs calls n q

-- an end carries the calls that the body made
pub ends_with : (job : JobView) (s : ℕ) (o : Outcome) (n : ℕ) (calls : List Call) → slice_get (rest_of job s o) n ≡ Some (End s calls) → (puts : List (ℕ × Value)) × (o ≡ Done puts calls)
ends_with job s (Done ps cs) n calls q = (ps, ap (λ c. Done ps c) (end_among s (kept job s ps) cs calls n q))
ends_with job s (Fails r) zero calls q = let z : Fail s r ≡ End s calls = cc q in cc z
ends_with job s (Fails r) (suc n) calls q = cc q

-- ---- what a step takes, and who put it
pub record Took (g : List Event) (s : ℕ) (vs : List Value) : Type 0 where
  pub item : ℕ
  pub before : List Event
  pub after : List Event
  pub is : g ≡ before ++ Take s item vs ∷ after

took_one : (g1 g2 : List Event) (s : ℕ) (e : Event) (vs : List Value) → step_of e ≡ s → Contains (taken_of e) vs → Took (g1 ++ e ∷ g2) s vs
took_one g1 g2 s (Start t) vs own c = absurd (in_none vs c)
took_one g1 g2 s (Take t i ws) vs own c = elim (in_cases ws [] vs c) [
  | inl e ↦ record { item = i; before = g1; after = g2; is = ap (λ (x : ℕ). g1 ++ Take x i ws ∷ g2) own ∙ ap (λ (x : List Value). g1 ++ Take s i x ∷ g2) e }
  | inr n ↦ absurd (in_none vs n)
]
took_one g1 g2 s (Put t i v) vs own c = absurd (in_none vs c)
took_one g1 g2 s (End t cs) vs own c = absurd (in_none vs c)
took_one g1 g2 s (Fail t r) vs own c = absurd (in_none vs c)

pub took : (g : List Event) (s : ℕ) (vs : List Value) → Contains (taken (events_of s g)) vs → Took g s vs
took g s vs c =
    let e = in_flat taken_of (events_of s g) vs c in
    let own = filtered (λ x. step_of x == s) g e.0 e.1 in
    let cut = split_in g e.0 own.0 in
    subst (λ (l : List Event). Took l s vs) (sym cut.2) (took_one cut.0 cut.1 s e.0 vs (eqb-true (step_of e.0) s own.1) e.2)

pub record WasPut (g : List Event) (item : ℕ) (v : Value) : Type 0 where
  pub step : ℕ
  pub before : List Event
  pub after : List Event
  pub is : g ≡ before ++ Put step item v ∷ after

put_at : (g1 g2 : List Event) (t i item : ℕ) (w v : Value) (b : Bool) → (i == item) ≡ b → Contains (cond b (w ∷ []) []) v → WasPut (g1 ++ Put t i w ∷ g2) item v
put_at g1 g2 t i item w v true q c = elim (in_cases w [] v c) [
  | inl e ↦ record { step = t; before = g1; after = g2; is = ap (λ (x : ℕ). g1 ++ Put t x w ∷ g2) (eqb-true i item q) ∙ ap (λ (x : Value). g1 ++ Put t item x ∷ g2) e }
  | inr n ↦ absurd (in_none v n)
]
put_at g1 g2 t i item w v false q c = absurd (in_none v c)

put_one : (g1 g2 : List Event) (item : ℕ) (e : Event) (v : Value) → Contains (put_of item e) v → WasPut (g1 ++ e ∷ g2) item v
put_one g1 g2 item (Start t) v c = absurd (in_none v c)
put_one g1 g2 item (Take t i ws) v c = absurd (in_none v c)
put_one g1 g2 item (Put t i w) v c = put_at g1 g2 t i item w v (i == item) refl c
put_one g1 g2 item (End t cs) v c = absurd (in_none v c)
put_one g1 g2 item (Fail t r) v c = absurd (in_none v c)

pub was_put : (g : List Event) (item : ℕ) (v : Value) → Contains (put_in item g) v → WasPut g item v
was_put g item v c =
    let e = in_flat (put_of item) g v c in
    let cut = split_in g e.0 e.1 in
    subst (λ (l : List Event). WasPut l item v) (sym cut.2) (put_one cut.0 cut.1 item e.0 v e.2)

-- what is found was put
pub found_put : (job : JobView) (g : List Event) (item : ℕ) (v : Value) → Contains (found_in job item g) v → WasPut g item v
found_put job g item v c =
    was_put g item v (All-contains (Contains (put_in item g)) (found_in job item g) v (All-found (Contains (put_in item g)) job.names (kind_of job.names item) (put_in item g) (All-contains_itself (put_in item g))) c)

-- who has ended
pub record HasEnd (g : List Event) (s : ℕ) : Type 0 where
  pub before : List Event
  pub calls : List Call
  pub after : List Event
  pub is : g ≡ before ++ End s calls ∷ after

end_one : (g1 g2 : List Event) (s : ℕ) (e : Event) → Contains (end_of e) s → HasEnd (g1 ++ e ∷ g2) s
end_one g1 g2 s (Start t) c = absurd (in_none s c)
end_one g1 g2 s (Take t i ws) c = absurd (in_none s c)
end_one g1 g2 s (Put t i w) c = absurd (in_none s c)
end_one g1 g2 s (End t cs) c = elim (in_cases t [] s c) [
  | inl e ↦ record { before = g1; calls = cs; after = g2; is = ap (λ (x : ℕ). g1 ++ End x cs ∷ g2) e }
  | inr n ↦ absurd (in_none s n)
]
end_one g1 g2 s (Fail t r) c = absurd (in_none s c)

pub end_in : (g : List Event) (s : ℕ) → Contains (ended g) s → HasEnd g s
end_in g s c =
    let e = in_flat end_of g s c in
    let cut = split_in g e.0 e.1 in
    subst (λ (l : List Event). HasEnd l s) (sym cut.2) (end_one cut.0 cut.1 s e.0 e.2)

-- ---- a step that takes what another one puts starts after its end
item_of_take : (job : JobView) (g : List Event) (s i : ℕ) (vs : List Value) (es : List Event) → Begun job s es → next_of job s es g ≡ Some (Take s i vs)
    → ((k : ℕ) × (k < length (consumes_at job s)) × (item_at job s k ≡ i)) × Contains es (Start s)
item_of_take job g s i vs es (inl z) q =
    let one : Some (Start s) ≡ Some (Take s i vs) = subst (λ x. next_of job s x g ≡ Some (Take s i vs)) z q in
    let is : Start s ≡ Take s i vs = cc one in cc is
item_of_take job g s i vs es (inr (inl b)) q =
    let took : taken (opening job s b.v) ≡ b.v = sym (ap taken b.is) ∙ b.took in
    let one = taking_value job s g b.v b.few took in
    let two = subst (λ x. next_of job s x g ≡ Some (Take s i vs)) b.is q in
    let is : Take s (item_at job s (length b.v)) (found_in job (item_at job s (length b.v)) g) ≡ Take s i vs = cc (one, two) in
    ((length b.v, b.few, cc is), subst (λ x. Contains x (Start s)) (sym b.is) (0, omega arith, refl))
item_of_take job g s i vs es (inr (inr b)) q =
    let took : taken (opening job s b.v ++ b.u) ≡ b.v = sym (ap taken b.is) ∙ b.took in
    let one = giving_value job s g b.v b.u b.all took in
    let two = subst (λ x. next_of job s x g ≡ Some (Take s i vs)) b.is q in
    let at : slice_get (rest_of job s (meaning_at job s b.v)) (length b.u) ≡ Some (Take s i vs) = sym one ∙ two in
    absurd (no_take job s (meaning_at job s b.v) (length b.u) i vs at) where
      no_put_take : (t : ℕ) (qs : List (ℕ × Value)) (cs : List Call) (n j : ℕ) (ws : List Value) → slice_get (puts_of t qs ++ End t cs ∷ []) n ≡ Some (Take t j ws) → ⊥
      no_put_take t [] cs zero j ws r = let z : End t cs ≡ Take t j ws = cc r in cc z
      no_put_take t [] cs (suc n) j ws r = cc r
      no_put_take t (p ∷ qs) cs zero j ws r = let z : Put t p.0 p.1 ≡ Take t j ws = cc r in cc z
      no_put_take t (p ∷ qs) cs (suc n) j ws r = no_put_take t qs cs n j ws r

      no_take : (w : JobView) (t : ℕ) (o : Outcome) (n j : ℕ) (ws : List Value) → slice_get (rest_of w t o) n ≡ Some (Take t j ws) → ⊥
      no_take w t (Done ps cs) n j ws r = no_put_take t (kept w t ps) cs n j ws r
      no_take w t (Fails f) zero j ws r = let z : Fail t f ≡ Take t j ws = cc r in cc z
      no_take w t (Fails f) (suc n) j ws r = cc r

-- effective productions are those of effective producers
abbrev pub Effective : Type 0
Effective = (steps : List StepDecl) (s t : ℕ) → is_effective steps s t ≡ true → IsEffectiveProducer steps s t

-- the producer of what is taken has ended before the taker started
pub producer_ended : Effective → (job : JobView) (g k : List Event) (s t i : ℕ) (vs : List Value) → IsOneThreadRun job (g ++ Take s i vs ∷ k) → Needs job t → is_effective job.plan.steps t i ≡ true → HasEnd g t
producer_ended effective job g k s t i vs run needed counts =
    let front = run_init job g (Take s i vs ∷ k) run in
    let w = item_of_take job g s i vs (events_of s g) (begun_in job g s front) (follow_is job g (Take s i vs) k front run) in
    let wanted : Needs job s = run.needed g k (Take s i vs) refl in
    let within : s < length job.plan.steps = needed_in job s wanted in
    let c : Consume = slice_index_or (consumes_at job s) w.0.0 no_consume in
    let there : Contains (consumes_at job s) c = get_in (consumes_at job s) w.0.0 no_consume w.0.1 in
    let listed = list_at-read (λ (d : StepDecl). d.consumes) job.plan.steps s no_decl within in
    let edge : Precedes job t s = record {
      producer_needed = needed;
      consumer_needed = wanted;
      item = i;
      produced = effective job.plan.steps t i counts;
      consumed = (c, subst (λ (l : List Consume). Contains l c) (sym listed) there, w.0.2);
    } in
    let own = filtered (λ x. step_of x == s) g (Start s) w.1 in
    let cut = split_in g (Start s) own.0 in
    let whole : g ++ Take s i vs ∷ k ≡ cut.0 ++ Start s ∷ (cut.1 ++ Take s i vs ∷ k) = ap (λ l. l ++ Take s i vs ∷ k) cut.2 ∙ append_assoc cut.0 (Start s ∷ cut.1) (Take s i vs ∷ k) in
    let r = end_in cut.0 t (run.starts cut.0 (cut.1 ++ Take s i vs ∷ k) s t whole edge) in
    record {
      before = r.before;
      calls = r.calls;
      after = r.after ++ Start s ∷ cut.1;
      is = cut.2 ∙ ap (λ l. l ++ Start s ∷ cut.1) r.is ∙ append_assoc r.before (End t r.calls ∷ r.after) (Start s ∷ cut.1);
    }

-- ---- proxies
-- the recording step has ended, and keeps what the proxy stands for
pub record EndKeeps (job : JobView) (g : List Event) (p : Proxy) : Type 0 where
  pub before : List Event
  pub calls : List Call
  pub after : List Event
  pub is : g ≡ before ++ End p.step calls ∷ after
  pub phase : (decl_at job p.step).phase ≡ Some p.phase
  pub keeps : Keeps calls p.call

pub keeps_more : (job : JobView) (g k : List Event) (p : Proxy) → EndKeeps job g p → EndKeeps job (g ++ k) p
keeps_more job g k p e = record {
  before = e.before;
  calls = e.calls;
  after = e.after ++ k;
  is = ap (λ l. l ++ k) e.is ∙ append_assoc e.before (End p.step e.calls ∷ e.after) k;
  phase = e.phase;
  keeps = e.keeps;
}

abbrev pub given_at : JobView → ℕ → List (List Value) → Setting
given_at job s lists = record { names = job.names; decl = decl_at job s; step = s; lists = lists }

-- what a body records is sound
abbrev pub Recording-law : Type 0
Recording-law = (job : JobView) (s : ℕ) (lists : List (List Value)) (puts : List (ℕ × Value)) (calls : List Call) → meaning_at job s lists ≡ Done puts calls → IsRecorded (given_at job s lists) puts calls

taken_front : (s : ℕ) (g k : List Event) → taken (events_of s (g ++ k)) ≡ taken (events_of s g) ++ taken (events_of s k)
taken_front s g k = ap taken (filter-append (λ x. step_of x == s) g k) ∙ flat_map-append taken_of (events_of s g) (events_of s k)

-- two beginnings of a history in which the step has done all its takes have the same takes
same_takes : (s : ℕ) (a b c d : List Event) → a ++ b ≡ c ++ d → length (taken (events_of s a)) ≡ length (taken (events_of s c)) → taken (events_of s a) ≡ taken (events_of s c)
same_takes s a b c d q e = same_begin (taken (events_of s a)) (taken (events_of s c)) (taken (events_of s b)) (taken (events_of s d)) (sym (taken_front s a b) ∙ ap (λ l. taken (events_of s l)) q ∙ taken_front s c d) e

done_calls : (ps qs : List (ℕ × Value)) (cs ds : List Call) → Done ps cs ≡ Done qs ds → cs ≡ ds
done_calls ps qs cs ds q = cc q

-- each proxy that a step took is kept by a step that has ended
pub taken_kept : Effective → Recording-law → (fuel : ℕ) (job : JobView) (g k : List Event) (s : ℕ) (p : Proxy) → length g ≤ fuel → IsOneThreadRun job (g ++ k)
    → Contains (flat_map (λ values. flat_map proxies values) (taken (events_of s g))) p → EndKeeps job g p
taken_kept effective sound zero job g k s p le run c =
    let vs = in_flat (λ values. flat_map proxies values) (taken (events_of s g)) p c in
    let t = took g s vs.0 vs.1 in
    absurd (let l = ap length t.is in let m = length-append t.before (Take s t.item vs.0 ∷ t.after) in omega (arith, l, m, le))
taken_kept effective sound (suc fuel) job g k s p le run c =
    let vs = in_flat (λ values. flat_map proxies values) (taken (events_of s g)) p c in
    let v = in_flat proxies vs.0 p vs.2 in
    let t = took g s vs.0 vs.1 in
    let run1 : IsOneThreadRun job (t.before ++ Take s t.item vs.0 ∷ (t.after ++ k)) = subst (IsOneThreadRun job) (ap (λ l. l ++ k) t.is ∙ append_assoc t.before (Take s t.item vs.0 ∷ t.after) k) run in
    let found_is : vs.0 ≡ found_in job t.item t.before = run1.takes t.before (t.after ++ k) s t.item vs.0 refl in
    let put = found_put job t.before t.item v.0 (subst (λ l. Contains l v.0) found_is v.1) in
    let rest : List Event = put.after ++ Take s t.item vs.0 ∷ (t.after ++ k) in
    let run2 : IsOneThreadRun job (put.before ++ Put put.step t.item v.0 ∷ rest)
    = subst (IsOneThreadRun job) (ap (λ l. l ++ Take s t.item vs.0 ∷ (t.after ++ k)) put.is ∙ append_assoc put.before (Put put.step t.item v.0 ∷ put.after) (Take s t.item vs.0 ∷ (t.after ++ k))) run1 in
    let lists = taken (events_of put.step put.before) in
    let gives = gave job put.before (Put put.step t.item v.0) rest refl run2 in
    let made = made_at job put.step (meaning_at job put.step lists) gives.place t.item v.0 gives.at in
    let recorded = sound job put.step lists made.puts made.calls made.is in
    let known = All-contains (IsKnown (given_at job put.step lists) made.calls) (proxies v.0) p (All-contains (λ (x : ℕ × Value). HasKnown (given_at job put.step lists) made.calls x.1) made.puts (t.item, v.0) recorded.puts_known made.among) v.2 in
    let short : length put.before ≤ fuel
    = let l1 = ap length t.is in let l2 = length-append t.before (Take s t.item vs.0 ∷ t.after) in let l3 = ap length put.is in let l4 = length-append put.before (Put put.step t.item v.0 ∷ put.after) in omega (arith, l1, l2, l3, l4, le) in
    let back : put.before ++ (Put put.step t.item v.0 ∷ put.after) ≡ t.before = sym put.is in
    let there : t.before ++ (Take s t.item vs.0 ∷ t.after) ≡ g = sym t.is in
    let lift : EndKeeps job t.before p → EndKeeps job g p = λ e. subst (λ (l : List Event). EndKeeps job l p) there (keeps_more job t.before (Take s t.item vs.0 ∷ t.after) p e) in
    elim known [
      | inl old ↦ lift (subst (λ (l : List Event). EndKeeps job l p) back (keeps_more job put.before (Put put.step t.item v.0 ∷ put.after) p (taken_kept effective sound fuel job put.before (Put put.step t.item v.0 ∷ rest) put.step p short run2 old)))
      | inr own ↦
          let needed : Needs job put.step = run2.needed put.before rest (Put put.step t.item v.0) refl in
          let e = producer_ended effective job t.before (t.after ++ k) s put.step t.item vs.0 run1 needed made.counts in
          let run3 : IsOneThreadRun job (e.before ++ End put.step e.calls ∷ (e.after ++ Take s t.item vs.0 ∷ (t.after ++ k)))
          = subst (IsOneThreadRun job) (ap (λ l. l ++ Take s t.item vs.0 ∷ (t.after ++ k)) e.is ∙ append_assoc e.before (End put.step e.calls ∷ e.after) (Take s t.item vs.0 ∷ (t.after ++ k))) run1 in
          let ends = gave job e.before (End put.step e.calls) (e.after ++ Take s t.item vs.0 ∷ (t.after ++ k)) refl run3 in
          let both : put.before ++ (Put put.step t.item v.0 ∷ put.after) ≡ e.before ++ (End put.step e.calls ∷ e.after) = sym put.is ∙ e.is in
          let same : lists ≡ taken (events_of put.step e.before) = same_takes put.step put.before (Put put.step t.item v.0 ∷ put.after) e.before (End put.step e.calls ∷ e.after) both (gives.full ∙ sym ends.full) in
          let with = ends_with job put.step (meaning_at job put.step (taken (events_of put.step e.before))) ends.place e.calls ends.at in
          let alike : Done made.puts made.calls ≡ Done with.0 e.calls = sym made.is ∙ ap (meaning_at job put.step) same ∙ with.1 in
          let calls : made.calls ≡ e.calls = done_calls made.puts with.0 made.calls e.calls alike in
          lift (record {
            before = e.before;
            calls = e.calls;
            after = e.after;
            is = e.is ∙ ap (λ (x : ℕ). e.before ++ End x e.calls ∷ e.after) (sym own.of_step);
            phase = ap (λ (x : ℕ). (decl_at job x).phase) own.of_step ∙ own.of_phase;
            keeps = subst (λ (l : List Call). Keeps l p.call) calls own.kept;
          })
    ]
