-- A job has at most one least-first run.
use Rattle.std.proofs.Common.{◌≡◌, ◌≢◌, ℕ, zero, suc, ◌<◌, length, get_or, List, [], ◌∷◌, ◌++◌, Contains, arith, Bool, true, false, ◌||◌, ◌==◌, cond, refl, sym, ap, ◌∙◌, subst, append_assoc, ◌⊎◌, inl, inr}
use Rattle.std.specs.Prelude.{Some, None, slice_get}
use Rattle.std.proofs.lemmas.Bool.{eqb-true, eqb-false, eq-eqb}
use Rattle.std.proofs.lemmas.Grind.{flat_map-append}
use Rattle.std.proofs.lemmas.List.{append-nil}
use Rattle.std.proofs.lemmas.List.Elements.{Contains-append_left, Contains-append_right, Contains-append_cases}
use Rattle.std.proofs.lemmas.Option.{slice_get_past}
use Rattle.item_types.specs.declared.step.Consume.{Consume}
use Rattle.item_types.specs.declared.value.Value.{Value}
use Rattle.recorder_proxy.specs.declared.call.Call.{Call}
use Rattle.step_state.specs.declared.outcome.Outcome.{Outcome}
use Rattle.step_state.specs.declared.outcome.Outcome.TheVariants.{Done, Fails}
use Rattle.build_history.specs.declared.event.Event.{Event}
use Rattle.build_history.specs.declared.event.Event.TheVariants.{Start, Take, Put, End, Fail}
use Rattle.build_history.specs.Events.{step_of, events_of, taken, ended, end_of, has_failed}
use Rattle.build_history.specs.Jobs.{JobView, consumes_at, meaning_at}
use Rattle.build_history.specs.Kinds.{IsFinished, IsLeastFirst}
use Rattle.build_history.specs.Runs.{IsOneThreadRun}
use Rattle.build_history.specs.Scripts.{takes_of, puts_of, kept, rest_of, opening}
use Rattle.build_history.proofs.CallerLemmas.{run_nil, has_failed-append, Begun, giving_value, unfailed, begun_in, follow_is, follow_run}
use Rattle.build_history.specs.Next.{next_of}

in_none : (x : ℕ) → Contains [] x → ⊥
in_none x c = let inside : c.0 < 0 = c.1 in omega arith

one_own : (t s k : ℕ) → k < length (t ∷ []) → get_or (t ∷ []) k s ≡ s → (t == s) ≡ true
one_own t s zero lt q = eq-eqb t s q
one_own t s (suc k) lt q = absurd (omega (arith, lt))

end_own : (s : ℕ) (e : Event) → Contains (end_of e) s → (step_of e == s) ≡ true
end_own s (Start t) c = absurd (in_none s c)
end_own s (Take t i v) c = absurd (in_none s c)
end_own s (Put t i v) c = absurd (in_none s c)
end_own s (End t calls) c = one_own t s c.0 c.1 c.2
end_own s (Fail t r) c = absurd (in_none s c)

own_at : (s : ℕ) (e : Event) (h : List Event) (b : Bool) → (step_of e == s) ≡ b → (Contains (ended h) s → Contains (ended (events_of s h)) s)
    → Contains (end_of e ++ ended h) s → Contains (ended (cond b (e ∷ events_of s h) (events_of s h))) s
own_at s e h true q rec c = elim (Contains-append_cases (end_of e) (ended h) s c) [
  | inl l ↦ Contains-append_left (end_of e) (ended (events_of s h)) s l
  | inr r ↦ Contains-append_right (end_of e) (ended (events_of s h)) s (rec r)
]
own_at s e h false q rec c = elim (Contains-append_cases (end_of e) (ended h) s c) [
  | inl l ↦ absurd (let z : true ≡ false = sym (end_own s e l) ∙ q in cc)
  | inr r ↦ rec r
]

ended_own : (s : ℕ) (h : List Event) → Contains (ended h) s → Contains (ended (events_of s h)) s
ended_own s [] c = c
ended_own s (e ∷ h) c = own_at s e h (step_of e == s) refl (ended_own s h) c

takes_open : (s : ℕ) (cs : List Consume) (vs : List (List Value)) → ended (takes_of s cs vs) ≡ []
takes_open s [] vs = refl
takes_open s (c ∷ cs) [] = refl
takes_open s (c ∷ cs) (v ∷ vs) = takes_open s cs vs

-- nothing stands after the end
end_last : (s : ℕ) (ps : List (ℕ × Value)) (cs : List Call) (u r : List Event) → puts_of s ps ++ End s cs ∷ [] ≡ u ++ r → Contains (ended u) s → r ≡ []
end_last s ps cs [] r q e = absurd (in_none s e)
end_last s [] cs (x ∷ []) r q e = cc q
end_last s [] cs (x ∷ (y ∷ u)) r q e = cc q
end_last s (p ∷ ps) cs (x ∷ u) r q e =
    let head : Put s p.0 p.1 ≡ x = cc q in
    let tails : puts_of s ps ++ End s cs ∷ [] ≡ u ++ r = cc q in
    let more : Contains (ended u) s = subst (λ y. Contains (end_of y ++ ended u) s) (sym head) e in
    end_last s ps cs u r tails more

rest_last : (job : JobView) (s : ℕ) (o : Outcome) (u r : List Event) → rest_of job s o ≡ u ++ r → Contains (ended u) s → r ≡ []
rest_last job s (Done ps cs) u r q e = end_last s (kept job s ps) cs u r q e
rest_last job s (Fails n) [] r q e = absurd (in_none s e)
rest_last job s (Fails n) (x ∷ []) r q e = cc q
rest_last job s (Fails n) (x ∷ (y ∷ u)) r q e = cc q

stopped : (job : JobView) (s : ℕ) (g es : List Event) (e : Event) → Begun job s es → Contains (ended es) s → next_of job s es g ≡ Some e → ⊥
stopped job s g es e (inl z) i q = in_none s (subst (λ x. Contains (ended x) s) z i)
stopped job s g es e (inr (inl b)) i q =
    let n : Contains (ended (opening job s b.v)) s = subst (λ x. Contains (ended x) s) b.is i in
    in_none s (subst (λ x. Contains x s) (takes_open s (consumes_at job s) b.v) n)
stopped job s g es e (inr (inr b)) i q =
    let one : Contains (ended (opening job s b.v ++ b.u)) s = subst (λ x. Contains (ended x) s) b.is i in
    let two : ended (opening job s b.v ++ b.u) ≡ ended b.u = flat_map-append end_of (opening job s b.v) b.u ∙ ap (λ x. x ++ ended b.u) (takes_open s (consumes_at job s) b.v) in
    let none : b.r ≡ [] = rest_last job s (meaning_at job s b.v) b.u b.r b.rest (subst (λ x. Contains x s) two one) in
    let whole : rest_of job s (meaning_at job s b.v) ≡ b.u = b.rest ∙ ap (λ x. b.u ++ x) none ∙ append-nil b.u in
    let took : taken (opening job s b.v ++ b.u) ≡ b.v = sym (ap taken b.is) ∙ b.took in
    let at : next_of job s (opening job s b.v ++ b.u) g ≡ Some e = subst (λ x. next_of job s x g ≡ Some e) b.is q in
    let value = giving_value job s g b.v b.u b.all took in
    let past : slice_get b.u (length b.u) ≡ None = slice_get_past b.u (length b.u) (omega arith) in
    let got : slice_get b.u (length b.u) ≡ Some e = subst (λ x. slice_get x (length b.u) ≡ Some e) whole (sym value ∙ at) in
    cc (past, got)

-- a step that has ended adds nothing
pub ended_stops : (job : JobView) (g : List Event) (s : ℕ) (e : Event) → IsOneThreadRun job g → Contains (ended g) s → next_of job s (events_of s g) g ≡ Some e → ⊥
ended_stops job g s e run i q = stopped job s g (events_of s g) e (begun_in job g s run) (ended_own s g i) q

or_true : (b : Bool) → (b || true) ≡ true
or_true true = refl
or_true false = refl

-- nothing follows a finished run
pub finished_stops : (job : JobView) (g : List Event) (e : Event) (k : List Event) → IsFinished job g → IsOneThreadRun job (g ++ e ∷ k) → ⊥
finished_stops job g e k fin more = elim fin.done [
  | inl c ↦ ended_stops job g (step_of e) e fin.run (c (step_of e) (more.needed g k e refl)) (follow_is job g e k fin.run more)
  | inr w ↦ let t : has_failed g ≡ true = ap has_failed w.3 ∙ has_failed-append w.0 (Fail w.1 w.2 ∷ []) ∙ or_true (has_failed w.0) in let f = unfailed job g e k more in cc (t, f)
]

order : (k j : ℕ) → (k < j) ⊎ ((j < k) ⊎ (k ≡ j))
order zero zero = inr (inr refl)
order zero (suc j) = inl (omega arith)
order (suc k) zero = inr (inl (omega arith))
order (suc k) (suc j) = elim (order k j) [
  | inl lt ↦ inl (omega (arith, lt))
  | inr (inl lt) ↦ inr (inl (omega (arith, lt)))
  | inr (inr e) ↦ inr (inr (ap suc e))
]

-- the first event of a step is its start
start_of : (job : JobView) (s : ℕ) (g es : List Event) (e : Event) → es ≡ [] → next_of job s es g ≡ Some e → e ≡ Start s
start_of job s g es e z q = let one : Some (Start s) ≡ Some e = subst (λ x. next_of job s x g ≡ Some e) z q in cc one

-- a step that has begun and goes on lets no other step go on
begun_alone : (job : JobView) (g : List Event) (e f : Event) (h k : List Event) → IsOneThreadRun job g → IsOneThreadRun job (g ++ e ∷ h) → IsLeastFirst job (g ++ f ∷ k)
    → step_of e ≢ step_of f → events_of (step_of e) g ≢ [] → ⊥
begun_alone job g e f h k run one cb ne some = ended_stops job g (step_of e) e run (cb.alone g k f (step_of e) refl ne some) (follow_is job g e h run one)

both_start : (job : JobView) (g : List Event) (e f : Event) (h k : List Event) → IsOneThreadRun job g → IsOneThreadRun job (g ++ e ∷ h) → IsOneThreadRun job (g ++ f ∷ k)
    → IsLeastFirst job (g ++ f ∷ k) → step_of e < step_of f → events_of (step_of e) g ≡ [] → events_of (step_of f) g ≡ [] → ⊥
both_start job g e f h k run one two cb lt ze zf =
    let se = start_of job (step_of e) g (events_of (step_of e) g) e ze (follow_is job g e h run one) in
    let sf = start_of job (step_of f) g (events_of (step_of f) g) f zf (follow_is job g f k run two) in
    let is : g ++ f ∷ k ≡ g ++ Start (step_of f) ∷ k = ap (λ x. g ++ x ∷ k) sf in
    let at : g ++ e ∷ h ≡ g ++ Start (step_of e) ∷ h = ap (λ x. g ++ x ∷ h) se in
    cb.least g k (step_of f) (step_of e) is lt (record { needed = one.needed g h e refl; fresh = ze; released = λ p q. one.starts g h (step_of e) p at q })

nil_or : (xs : List Event) → (xs ≡ []) ⊎ (xs ≢ [])
nil_or [] = inl refl
nil_or (x ∷ xs) = inr (λ q. cc q)

-- two runs go on with the same step
same_next : (job : JobView) (g : List Event) (e f : Event) (h k : List Event) → IsOneThreadRun job g → IsOneThreadRun job (g ++ e ∷ h) → IsOneThreadRun job (g ++ f ∷ k)
    → IsLeastFirst job (g ++ e ∷ h) → IsLeastFirst job (g ++ f ∷ k) → step_of e ≢ step_of f → ⊥
same_next job g e f h k run one two ca cb ne = elim (nil_or (events_of (step_of e) g)) [
  | inr some ↦ begun_alone job g e f h k run one cb ne some
  | inl ze ↦ elim (nil_or (events_of (step_of f) g)) [
    | inr some ↦ begun_alone job g f e k h run two ca (λ q. ne (sym q)) some
    | inl zf ↦ elim (order (step_of e) (step_of f)) [
      | inl lt ↦ both_start job g e f h k run one two cb lt ze zf
      | inr (inl lt) ↦ both_start job g f e k h run two one ca lt zf ze
      | inr (inr q) ↦ ne q
    ]
  ]
]

same_event : (job : JobView) (g : List Event) (e f : Event) (h k : List Event) (b : Bool) → (step_of e == step_of f) ≡ b → IsOneThreadRun job g → IsOneThreadRun job (g ++ e ∷ h) → IsOneThreadRun job (g ++ f ∷ k)
    → IsLeastFirst job (g ++ e ∷ h) → IsLeastFirst job (g ++ f ∷ k) → e ≡ f
same_event job g e f h k true q run one two ca cb =
    let at : step_of e ≡ step_of f = eqb-true (step_of e) (step_of f) q in
    let fe : next_of job (step_of f) (events_of (step_of f) g) g ≡ Some e = subst (λ n. next_of job n (events_of n g) g ≡ Some e) at (follow_is job g e h run one) in
    let ff = follow_is job g f k run two in
    cc (fe, ff)
same_event job g e f h k false q run one two ca cb = absurd (same_next job g e f h k run one two ca cb (eqb-false (step_of e) (step_of f) q))

both_walk : (job : JobView) (g h k : List Event) → IsOneThreadRun job g → IsFinished job (g ++ h) → IsFinished job (g ++ k) → IsLeastFirst job (g ++ h) → IsLeastFirst job (g ++ k) → h ≡ k
both_walk job g [] [] run fa fb ca cb = refl
both_walk job g [] (f ∷ k) run fa fb ca cb = absurd (finished_stops job g f k (subst (IsFinished job) (append-nil g) fa) fb.run)
both_walk job g (e ∷ h) [] run fa fb ca cb = absurd (finished_stops job g e h (subst (IsFinished job) (append-nil g) fb) fa.run)
both_walk job g (e ∷ h) (f ∷ k) run fa fb ca cb =
    let same : e ≡ f = same_event job g e f h k (step_of e == step_of f) refl run fa.run fb.run ca cb in
    let run2 : IsOneThreadRun job (g ++ e ∷ []) = follow_run job g e h run fa.run in
    let there : g ++ f ∷ k ≡ (g ++ e ∷ []) ++ k = ap (λ x. g ++ x ∷ k) (sym same) ∙ sym (append_assoc g (e ∷ []) k) in
    let here : g ++ e ∷ h ≡ (g ++ e ∷ []) ++ h = sym (append_assoc g (e ∷ []) h) in
    let rest : h ≡ k = both_walk job (g ++ e ∷ []) h k run2 (subst (IsFinished job) here fa) (subst (IsFinished job) there fb) (subst (IsLeastFirst job) here ca) (subst (IsLeastFirst job) there cb) in
    cc (same, rest)

pub one_least_first : (job : JobView) (h k : List Event) → IsFinished job h → IsFinished job k → IsLeastFirst job h → IsLeastFirst job k → h ≡ k
one_least_first job h k fa fb ca cb = both_walk job [] h k (run_nil job) fa fb ca cb
