-- What is next in a step's script.
use Rattle.std.proofs.Common.{◌≡◌, ℕ, suc, ◌<◌, ◌≤◌, ◌+◌, ◌-◌, length, get_or, take, drop, List, [], ◌∷◌, ◌++◌, arith, ◌==◌, cond, refl, sym, ap, ◌∙◌, append_assoc}
use mathlib.Core.List.{IsPrefix}
use Rattle.std.proofs.lemmas.Bool.{eq-eqb}
use Rattle.std.proofs.lemmas.Grind.{flat_map-append}
use Rattle.std.proofs.lemmas.List.{append-nil, take_more, drop_more, take-append-drop, length-drop}
use Rattle.item_types.specs.declared.step.Consume.{Consume}
use Rattle.item_types.specs.declared.value.Value.{Value}
use Rattle.recorder_proxy.specs.declared.call.Call.{Call}
use Rattle.step_state.specs.declared.outcome.Reason.{Reason}
use Rattle.step_state.specs.declared.outcome.Outcome.{Outcome}
use Rattle.step_state.specs.declared.outcome.Outcome.TheVariants.{Done, Fails}
use Rattle.build_history.specs.declared.event.Event.{Event}
use Rattle.build_history.specs.declared.event.Event.TheVariants.{Start, Take, Put, End, Fail}
use Rattle.build_history.specs.Events.{step_of, events_of, taken, taken_of}
use Rattle.build_history.specs.Jobs.{JobView, consumes_at, meaning_at}
use Rattle.build_history.specs.Scripts.{takes_of, puts_of, kept, rest_of, opening, script}
use Rattle.build_history.specs.Next.{no_consume}
use Rattle.build_state.specs.Built.{}

pub taken_takes : (s : ℕ) (cs : List Consume) (vs : List (List Value)) → length vs ≤ length cs → taken (takes_of s cs vs) ≡ vs
taken_takes s [] [] le = refl
taken_takes s [] (v ∷ vs) le = absurd (omega arith)
taken_takes s (c ∷ cs) [] le = refl
taken_takes s (c ∷ cs) (v ∷ vs) le = let rest : length vs ≤ length cs = omega arith in ap (λ t. v ∷ t) (taken_takes s cs vs rest)

pub taken_puts : (s : ℕ) (ps : List (ℕ × Value)) → taken (puts_of s ps) ≡ []
taken_puts s [] = refl
taken_puts s (p ∷ ps) = taken_puts s ps

pub taken_opening : (job : JobView) (s : ℕ) (vs : List (List Value)) → length vs ≤ length (consumes_at job s) → taken (opening job s vs) ≡ vs
taken_opening job s vs le = taken_takes s (consumes_at job s) vs le

-- the lists that were taken before the puts
pub taken_before : (job : JobView) (s : ℕ) (vs : List (List Value)) (ps : List (ℕ × Value)) → length vs ≤ length (consumes_at job s) → taken (opening job s vs ++ puts_of s ps) ≡ vs
taken_before job s vs ps le =
    flat_map-append taken_of (opening job s vs) (puts_of s ps) ∙ ap (λ z. taken (opening job s vs) ++ z) (taken_puts s ps) ∙ append-nil (taken (opening job s vs)) ∙ taken_opening job s vs le

pub takes_more : (s : ℕ) (cs : List Consume) (vs : List (List Value)) (x : List Value) → length vs < length cs
    → takes_of s cs (vs ++ x ∷ []) ≡ takes_of s cs vs ++ Take s (get_or cs (length vs) no_consume).item x ∷ []
takes_more s [] vs x lt = absurd (omega arith)
takes_more s (c ∷ []) [] x lt = refl
takes_more s (c ∷ (b ∷ cs)) [] x lt = refl
takes_more s (c ∷ cs) (v ∷ vs) x lt = let rest : length vs < length cs = omega arith in ap (λ t. Take s c.item v ∷ t) (takes_more s cs vs x rest)

pub puts_append : (s : ℕ) (ps qs : List (ℕ × Value)) → puts_of s (ps ++ qs) ≡ puts_of s ps ++ puts_of s qs
puts_append s [] qs = refl
puts_append s (p ∷ ps) qs = ap (λ t. Put s p.0 p.1 ∷ t) (puts_append s ps qs)

-- what is left begins with p
pub record Heads (ps : List (ℕ × Value)) (k : ℕ) (p : ℕ × Value) (rest : List (ℕ × Value)) : Type 0 where
  pub within : k < length ps
  pub before : take (k + 1) ps ≡ take k ps ++ p ∷ []
  pub after : drop (k + 1) ps ≡ rest

pub heads : (ps : List (ℕ × Value)) (k : ℕ) (p : ℕ × Value) (rest : List (ℕ × Value)) → drop k ps ≡ p ∷ rest → Heads ps k p rest
heads ps k p rest q =
    let long : length (drop k ps) ≡ length ps - k = length-drop k ps in
    let some : length (drop k ps) ≡ suc (length rest) = ap length q in
    let lt : k < length ps = omega (arith, long, some) in
    let split : drop k ps ≡ get_or ps k p ∷ drop (k + 1) ps = drop_more ps k p lt in
    let both : get_or ps k p ∷ drop (k + 1) ps ≡ p ∷ rest = sym split ∙ q in
    let first : get_or ps k p ≡ p = cc both in
    let last : drop (k + 1) ps ≡ rest = cc both in
    record { within = lt; before = take_more ps k p lt ∙ ap (λ z. take k ps ++ z ∷ []) first; after = last }

pub script_full : (job : JobView) (s : ℕ) (vs : List (List Value)) (o : Outcome) → length vs ≡ length (consumes_at job s) → meaning_at job s vs ≡ o
    → script job s vs ≡ opening job s vs ++ rest_of job s o
script_full job s vs o e v = rw (v, eq-eqb (length vs) (length (consumes_at job s)) e) refl

-- the field `scripted` of MayFollow from the events so far
pub scripted_by : (job : JobView) (h : List Event) (e : Event) (evs : List Event) (vs : List (List Value))
    → events_of (step_of e) h ≡ evs → taken evs ++ taken_of e ≡ vs
    → IsPrefix (evs ++ e ∷ []) (script job (step_of e) vs)
    → IsPrefix (events_of (step_of e) h ++ e ∷ []) (script job (step_of e) (taken (events_of (step_of e) h) ++ taken_of e))
scripted_by job h e evs vs q t p = rw (q, t) p

pub start_next : (job : JobView) (s : ℕ) → IsPrefix ([] ++ Start s ∷ []) (script job s [])
start_next job s = (takes_of s (consumes_at job s) [] ++ cond (0 == length (consumes_at job s)) (rest_of job s (meaning_at job s [])) [], refl)

pub take_next : (job : JobView) (s : ℕ) (vs : List (List Value)) (x : List Value) → length vs < length (consumes_at job s)
    → IsPrefix (opening job s vs ++ Take s (get_or (consumes_at job s) (length vs) no_consume).item x ∷ []) (script job s (vs ++ x ∷ []))
take_next job s vs x lt =
    let rest : List Event = cond (length (vs ++ x ∷ []) == length (consumes_at job s)) (rest_of job s (meaning_at job s (vs ++ x ∷ []))) [] in
    (rest, ap (λ z. (Start s ∷ z) ++ rest) (sym (takes_more s (consumes_at job s) vs x lt)))

-- a put more of those that are kept
pub put_more : (job : JobView) (s : ℕ) (vs : List (List Value)) (ps : List (ℕ × Value)) (k : ℕ) (p : ℕ × Value) (rest : List (ℕ × Value)) → Heads ps k p rest
    → (opening job s vs ++ puts_of s (take k ps)) ++ Put s p.0 p.1 ∷ [] ≡ opening job s vs ++ puts_of s (take (k + 1) ps)
put_more job s vs ps k p rest w =
    append_assoc (opening job s vs) (puts_of s (take k ps)) (Put s p.0 p.1 ∷ [])
    ∙ ap (λ t. opening job s vs ++ t) (sym (puts_append s (take k ps) (p ∷ []))) ∙ ap (λ t. opening job s vs ++ puts_of s t) (sym w.before)

pub put_next : (job : JobView) (s : ℕ) (vs : List (List Value)) (all : List (ℕ × Value)) (calls : List Call) (k : ℕ) (p : ℕ × Value) (rest : List (ℕ × Value))
    → length vs ≡ length (consumes_at job s) → meaning_at job s vs ≡ Done all calls → Heads (kept job s all) k p rest
    → IsPrefix ((opening job s vs ++ puts_of s (take k (kept job s all))) ++ Put s p.0 p.1 ∷ []) (script job s vs)
put_next job s vs all calls k p rest e v w =
    let ps : List (ℕ × Value) = kept job s all in
    let more : List Event = puts_of s (drop (k + 1) ps) ++ End s calls ∷ [] in (
      more,
      let two : puts_of s (take (k + 1) ps) ++ more ≡ puts_of s ps ++ End s calls ∷ []
          = sym (append_assoc (puts_of s (take (k + 1) ps)) (puts_of s (drop (k + 1) ps)) (End s calls ∷ []))
          ∙ ap (λ t. t ++ End s calls ∷ []) (sym (puts_append s (take (k + 1) ps) (drop (k + 1) ps)) ∙ ap (puts_of s) (take-append-drop (k + 1) ps)) in
          ap (λ t. t ++ more) (put_more job s vs ps k p rest w)
          ∙ append_assoc (opening job s vs) (puts_of s (take (k + 1) ps)) more
          ∙ ap (λ t. opening job s vs ++ t) two
          ∙ sym (script_full job s vs (Done all calls) e v),
    )

-- the end, after all puts
pub end_next : (job : JobView) (s : ℕ) (vs : List (List Value)) (all : List (ℕ × Value)) (calls : List Call)
    → length vs ≡ length (consumes_at job s) → meaning_at job s vs ≡ Done all calls
    → (opening job s vs ++ puts_of s (kept job s all)) ++ End s calls ∷ [] ≡ script job s vs
end_next job s vs all calls e v =
    append_assoc (opening job s vs) (puts_of s (kept job s all)) (End s calls ∷ []) ∙ sym (script_full job s vs (Done all calls) e v)

pub fail_next : (job : JobView) (s : ℕ) (vs : List (List Value)) (r : Reason) → length vs ≡ length (consumes_at job s) → meaning_at job s vs ≡ Fails r
    → opening job s vs ++ Fail s r ∷ [] ≡ script job s vs
fail_next job s vs r e v = sym (script_full job s vs (Fails r) e v)
