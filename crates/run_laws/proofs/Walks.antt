-- Walking through a run by its text.
use Rattle.std.proofs.Common.{◌≡◌, ℕ, suc, ◌<◌, ◌+◌, length, List, [], ◌∷◌, ◌++◌, arith, refl, sym, ap, ◌∙◌, subst, append_assoc}
use Rattle.std.specs.Prelude.{Some}
use Rattle.std.proofs.lemmas.List.{append-nil}
use Rattle.build_history.specs.declared.event.Event.{Event}
use Rattle.build_history.specs.Events.{step_of, events_of}
use Rattle.build_history.specs.EventText.{step_text, event_text, history_text}
use Rattle.build_history.specs.Jobs.{JobView}
use Rattle.build_history.specs.Next.{next_of}
use Rattle.build_history.specs.Runs.{IsOneThreadRun}
use Rattle.build_history.proofs.CallerLemmas.{run_nil, step_in, follow_is, follow_run}
use Rattle.run_laws.specs.Lines.{first_lines, feeds}
use Rattle.run_laws.specs.Named.{IsNamed}
use Rattle.run_laws.proofs.Lines.{first_lines_over, feeds-append}
use Rattle.run_laws.proofs.CallerLemmas.{event_begins, named_by, line_name-event}

cancel : {X : Type 0} (zs xs ys : List X) → zs ++ xs ≡ zs ++ ys → xs ≡ ys
cancel [] xs ys q = q
cancel (z ∷ zs) xs ys q = let more : zs ++ xs ≡ zs ++ ys = cc in cancel zs xs ys more

-- a text with a first line isn't the text of no event
some_line : (job : JobView) (e : Event) (x : List ℕ) (j : ℕ) → first_lines (event_text job e ++ x) (suc j) ≡ [] → ⊥
some_line job e x j q =
    let b = event_begins job e in
    let P : List ℕ → Type 0 = λ t. first_lines (t ++ x) (suc j) ≡ [] in
    let z : first_lines ((b.0 ∷ b.1) ++ x) (suc j) ≡ [] = subst P b.2 q in cc z

-- what one text's walk through a run says of another run with the same first lines
pub record Walked (job : JobView) (g1 : List Event) (rest : List ℕ) (j : ℕ) (h1 : List Event) : Type 0 where
  pub more : List Event
  pub is : h1 ≡ g1 ++ more
  pub lines : first_lines rest (suc j) ≡ first_lines (history_text job more) (suc j)

walk_step : (job : JobView) (g : List Event) (e : Event) (g2 : List Event) (rest : List ℕ) (j k : ℕ) (x : Event) (h2 : List Event)
    → IsNamed job → IsOneThreadRun job g → IsOneThreadRun job (g ++ e ∷ g2) → IsOneThreadRun job (g ++ x ∷ h2) → k ≡ feeds (event_text job e ++ history_text job g2) + suc j
    → first_lines ((event_text job e ++ history_text job g2) ++ rest) k ≡ first_lines (event_text job x ++ history_text job h2) k
    → ((j2 : ℕ) → j2 ≡ feeds (history_text job g2) + suc j → e ≡ x → IsOneThreadRun job (g ++ e ∷ []) → first_lines (history_text job g2 ++ rest) j2 ≡ first_lines (history_text job h2) j2 → Walked job g2 rest j h2)
    → Walked job (e ∷ g2) rest j (x ∷ h2)
walk_step job g e g2 rest j k x h2 named run one two kq q rec =
    let te = event_text job e in
    let a = history_text job g2 ++ rest in
    let k0 = feeds te + feeds (history_text job g2) + j in
    let kk : k ≡ suc k0 = let f = feeds-append te (history_text job g2) in omega (arith, f) in
    let q2 : first_lines (te ++ a) k ≡ first_lines (event_text job x ++ history_text job h2) k = sym (ap (λ t. first_lines t k) (append_assoc te (history_text job g2) rest)) ∙ q in
    let q3 = subst (λ n. first_lines (te ++ a) n ≡ first_lines (event_text job x ++ history_text job h2) n) kk q2 in
    let lte : step_of e < length job.plan.steps = step_in job g e g2 one in
    let ltx : step_of x < length job.plan.steps = step_in job g x h2 two in
    let names : step_text job (step_of e) ≡ step_text job (step_of x) = sym (line_name-event job e a named lte) ∙ named_by job (te ++ a) x (history_text job h2) k0 named ltx q3 in
    let steps : step_of e ≡ step_of x = named.apart (step_of e) (step_of x) lte ltx names in
    let fe = follow_is job g e g2 run one in
    let fx = follow_is job g x h2 run two in
    let same : e ≡ x = let fe2 : next_of job (step_of x) (events_of (step_of x) g) g ≡ Some e = subst (λ n. next_of job n (events_of n g) g ≡ Some e) steps fe in cc (fe2, fx) in
    let j2 = feeds (history_text job g2) + j in
    let q4 : first_lines (te ++ a) k ≡ first_lines (te ++ history_text job h2) k = subst (λ y. first_lines (te ++ a) k ≡ first_lines (event_text job y ++ history_text job h2) k) (sym same) q2 in
    let kj : k ≡ feeds te + suc j2 = let f = feeds-append te (history_text job g2) in omega (arith, f) in
    let q5 : te ++ first_lines a (suc j2) ≡ te ++ first_lines (history_text job h2) (suc j2) = sym (first_lines_over te a j2 k kj) ∙ q4 ∙ first_lines_over te (history_text job h2) j2 k kj in
    let next = rec (suc j2) (omega arith) same (follow_run job g e g2 run one) (cancel te _ _ q5) in
    record { more = next.more; is = cc (same, next.is); lines = next.lines }

pub walk : (job : JobView) (g g1 : List Event) (rest : List ℕ) (j k : ℕ) (h1 : List Event) → IsNamed job → IsOneThreadRun job g → IsOneThreadRun job (g ++ g1) → IsOneThreadRun job (g ++ h1)
    → k ≡ feeds (history_text job g1) + suc j
    → first_lines (history_text job g1 ++ rest) k ≡ first_lines (history_text job h1) k → Walked job g1 rest j h1
walk job g [] rest j k h1 named run one two kq q =
    let kj : k ≡ suc j = omega arith in
    record { more = h1; is = refl; lines = subst (λ n. first_lines rest n ≡ first_lines (history_text job h1) n) kj q }
walk job g (e ∷ g2) rest j k [] named run one two kq q =
    let kk : k ≡ suc (feeds (history_text job (e ∷ g2)) + j) = omega arith in
    let z = sym (ap (λ t. first_lines t k) (append_assoc (event_text job e) (history_text job g2) rest)) ∙ q in
    absurd (some_line job e (history_text job g2 ++ rest) _ (subst (λ n. first_lines (event_text job e ++ (history_text job g2 ++ rest)) n ≡ []) kk z))
walk job g (e ∷ g2) rest j k (x ∷ h2) named run one two kq q =
    walk_step job g e g2 rest j k x h2 named run one two kq q
    (λ j2 jq same run2 q2.
    let one2 : IsOneThreadRun job ((g ++ e ∷ []) ++ g2) = subst (IsOneThreadRun job) (sym (append_assoc g (e ∷ []) g2)) one in
    let two1 : IsOneThreadRun job (g ++ e ∷ h2) = subst (λ y. IsOneThreadRun job (g ++ y ∷ h2)) (sym same) two in
    let two2 : IsOneThreadRun job ((g ++ e ∷ []) ++ h2) = subst (IsOneThreadRun job) (sym (append_assoc g (e ∷ []) h2)) two1 in
    walk job (g ++ e ∷ []) g2 rest j j2 h2 named run2 one2 two2 jq q2)

no_more : (job : JobView) (more : List Event) → [] ≡ first_lines (history_text job more) (suc 0) → more ≡ []
no_more job [] q = refl
no_more job (e ∷ k) q = absurd (some_line job e (history_text job k) 0 (sym q))

-- two one-thread runs of one job with the same text are equal
pub one_run : (job : JobView) (h k : List Event) → IsNamed job → IsOneThreadRun job h → IsOneThreadRun job k → history_text job h ≡ history_text job k → h ≡ k
one_run job h k named a b q =
    let n = feeds (history_text job h) + suc 0 in
    let q2 : first_lines (history_text job h ++ []) n ≡ first_lines (history_text job k) n = ap (λ t. first_lines t n) (append-nil (history_text job h) ∙ q) in
    let w = walk job [] h [] 0 n k named (run_nil job) a b refl q2 in
    sym (w.is ∙ ap (λ t. h ++ t) (no_more job w.more w.lines) ∙ append-nil h)
