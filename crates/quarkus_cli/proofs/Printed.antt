-- The printed text of a build belongs to one history: a last line begins as no event does.
use Rattle.std.proofs.Common.{◌≡◌, ◌∙◌, ap, refl, sym, subst, ℕ, ◌⊎◌, inl, inr, List, [], ◌∷◌, ◌++◌, append_assoc, get_or, arith, Option, Some, None}
use Rattle.std.proofs.lemmas.List.{append_cancel_left}
use Rattle.step_state.specs.declared.outcome.Reason.{Reason}
use Rattle.build_history.specs.declared.event.Event.{Event}
use Rattle.build_history.specs.declared.event.Event.TheVariants.{Start, Take, Put, End, Fail}
use Rattle.build_history.specs.Events.{step_of, events_of}
use Rattle.build_history.specs.Jobs.{JobView}
use Rattle.build_history.specs.Runs.{IsOneThreadRun}
use Rattle.build_report.specs.BuildText.{build_text, failure, last_line}
use Rattle.build_history.specs.EventText.{event_text, history_text, step_text}
use Rattle.run_laws.specs.Lines.{line_name}
use Rattle.run_laws.specs.Named.{IsNamed}
use Rattle.build_history.specs.Next.{next_of}
use Rattle.run_laws.proofs.CallerLemmas.{line_name-event}
use Rattle.build_history.proofs.CallerLemmas.{follow_is, follow_run, run_init, step_in}

-- how a last line begins
abbrev pub IsLast : List ℕ → Type 0
IsLast l = ((rest : List ℕ) × (l ≡ 98 ∷ rest)) ⊎ ((rest : List ℕ) × (l ≡ 115 ∷ 116 ∷ 101 ∷ rest))

last_is : (app : List ℕ) (job : JobView) (h : List Event) (f : Option (ℕ × Reason)) → IsLast (last_line app job h f)
last_is app job h None = inl (_, refl)
last_is app job h (Some why) = inr (_, refl)

no_event : (job : JobView) (e : Event) (l x : List ℕ) → IsLast l → l ≡ event_text job e ++ x → ⊥
no_event job (Start s) l x last is = elim last [
  | inl b ↦ let e : 98 ≡ 115 = ap (λ (t : List ℕ). get_or t 0 0) (sym b.1 ∙ is) in omega (arith, e)
  | inr b ↦ let e : 101 ≡ 97 = ap (λ (t : List ℕ). get_or t 2 0) (sym b.1 ∙ is) in omega (arith, e)
]
no_event job (Take s item vs) l x last is = elim last [
  | inl b ↦ let e : 98 ≡ 116 = ap (λ (t : List ℕ). get_or t 0 0) (sym b.1 ∙ is) in omega (arith, e)
  | inr b ↦ let e : 115 ≡ 116 = ap (λ (t : List ℕ). get_or t 0 0) (sym b.1 ∙ is) in omega (arith, e)
]
no_event job (Put s item v) l x last is = elim last [
  | inl b ↦ let e : 98 ≡ 112 = ap (λ (t : List ℕ). get_or t 0 0) (sym b.1 ∙ is) in omega (arith, e)
  | inr b ↦ let e : 115 ≡ 112 = ap (λ (t : List ℕ). get_or t 0 0) (sym b.1 ∙ is) in omega (arith, e)
]
no_event job (End s calls) l x last is = elim last [
  | inl b ↦ let e : 98 ≡ 101 = ap (λ (t : List ℕ). get_or t 0 0) (sym b.1 ∙ is) in omega (arith, e)
  | inr b ↦ let e : 115 ≡ 101 = ap (λ (t : List ℕ). get_or t 0 0) (sym b.1 ∙ is) in omega (arith, e)
]
no_event job (Fail s r) l x last is = elim last [
  | inl b ↦ let e : 98 ≡ 102 = ap (λ (t : List ℕ). get_or t 0 0) (sym b.1 ∙ is) in omega (arith, e)
  | inr b ↦ let e : 115 ≡ 102 = ap (λ (t : List ℕ). get_or t 0 0) (sym b.1 ∙ is) in omega (arith, e)
]

module _ (job : JobView) (named : IsNamed job) where
  -- the next events of two runs whose texts go on alike
  next_alike : (g : List Event) (e : Event) (h : List Event) (f : Event) (k : List Event) (x y : List ℕ) → IsOneThreadRun job g → IsOneThreadRun job (g ++ e ∷ h) → IsOneThreadRun job (g ++ f ∷ k)
      → event_text job e ++ x ≡ event_text job f ++ y → e ≡ f
  next_alike g e h f k x y run one two same =
      let first = step_in job g e h one in
      let second = step_in job g f k two in
      let names : step_text job (step_of e) ≡ step_text job (step_of f) = sym (line_name-event job e x named first) ∙ ap line_name same ∙ line_name-event job f y named second in
      let steps : step_of e ≡ step_of f = named.apart (step_of e) (step_of f) first second names in
      let there : next_of job (step_of f) (events_of (step_of f) g) g ≡ Some e = subst (λ (n : ℕ). next_of job n (events_of n g) g ≡ Some e) steps (follow_is job g e h run one) in
      cc (there, follow_is job g f k run two)

  printed_from : (g h k : List Event) (l m : List ℕ) → IsOneThreadRun job g → IsOneThreadRun job (g ++ h) → IsOneThreadRun job (g ++ k) → IsLast l → IsLast m
      → history_text job h ++ l ≡ history_text job k ++ m → h ≡ k
  printed_from g [] [] l m run one two first second same = refl
  printed_from g [] (f ∷ k) l m run one two first second same =
      absurd (no_event job f l (history_text job k ++ m) first (same ∙ append_assoc (event_text job f) (history_text job k) m))
  printed_from g (e ∷ h) [] l m run one two first second same =
      absurd (no_event job e m (history_text job h ++ l) second (sym same ∙ append_assoc (event_text job e) (history_text job h) l))
  printed_from g (e ∷ h) (f ∷ k) l m run one two first second same =
      let texts : event_text job e ++ (history_text job h ++ l) ≡ event_text job f ++ (history_text job k ++ m)
      = sym (append_assoc (event_text job e) (history_text job h) l) ∙ same ∙ append_assoc (event_text job f) (history_text job k) m in
      let alike : e ≡ f = next_alike g e h f k (history_text job h ++ l) (history_text job k ++ m) run one two texts in
      let again : event_text job e ++ (history_text job h ++ l) ≡ event_text job e ++ (history_text job k ++ m)
      = texts ∙ ap (λ (x : Event). event_text job x ++ (history_text job k ++ m)) (sym alike) in
      let other : IsOneThreadRun job (g ++ e ∷ k) = subst (λ (x : Event). IsOneThreadRun job (g ++ x ∷ k)) (sym alike) two in
      let rest : h ≡ k = printed_from (g ++ e ∷ []) h k l m (follow_run job g e h run one)
      (subst (IsOneThreadRun job) (sym (append_assoc g (e ∷ []) h)) one) (subst (IsOneThreadRun job) (sym (append_assoc g (e ∷ []) k)) other) first second
      (append_cancel_left (event_text job e) (history_text job h ++ l) (history_text job k ++ m) again) in
      cc (alike, rest)

  pub printed : (app : List ℕ) (h k : List Event) → IsOneThreadRun job h → IsOneThreadRun job k → build_text app job h ≡ build_text app job k → h ≡ k
  printed app h k one two same =
      printed_from [] h k (last_line app job h (failure h)) (last_line app job k (failure k)) (run_init job [] h one) one two
      (last_is app job h (failure h)) (last_is app job k (failure k)) same
