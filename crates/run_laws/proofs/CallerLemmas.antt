-- Whose an event is, is told by its text.
use Rattle.std.proofs.Common.{◌≡◌, ℕ, suc, ◌<◌, length, List, [], ◌∷◌, ◌++◌, refl, sym, ap, ◌∙◌, append_assoc, codes}
use Rattle.build_history.specs.declared.event.Event.{Event}
use Rattle.build_history.specs.declared.event.Event.TheVariants.{Start, Take, Put, End, Fail}
use Rattle.build_history.specs.Events.{step_of}
use Rattle.build_history.specs.Jobs.{JobView}
use Rattle.build_history.specs.EventText.{step_text, word_of, rest_text, event_text}
use Rattle.run_laws.specs.Lines.{first_lines, before_stop, line_name}
use Rattle.run_laws.specs.Named.{IsNamed}
use Rattle.run_laws.proofs.Lines.{before_stop-plain, line_name-first}

-- a word of an event is passed over
word_over : (e : Event) (y : List ℕ) → line_name (word_of e ++ (codes " " ++ y)) ≡ before_stop y
word_over (Start s) y = refl
word_over (Take s i vs) y = refl
word_over (Put s i v) y = refl
word_over (End s cs) y = refl
word_over (Fail s r) y = refl

-- what follows the name begins with a stop
rest_stops : (job : JobView) (e : Event) (x : List ℕ) → before_stop (rest_text job e ++ x) ≡ []
rest_stops job (Start s) x = refl
rest_stops job (Take s i vs) x = refl
rest_stops job (Put s i v) x = refl
rest_stops job (End s cs) x = refl
rest_stops job (Fail s r) x = refl

four : (a b c d x : List ℕ) → (a ++ b ++ c ++ d) ++ x ≡ a ++ (b ++ (c ++ (d ++ x)))
four a b c d x = append_assoc (a ++ b ++ c) d x ∙ append_assoc (a ++ b) c (d ++ x) ∙ append_assoc a b (c ++ (d ++ x))

-- the name in an event's text
pub line_name-event : (job : JobView) (e : Event) (x : List ℕ) → IsNamed job → step_of e < length job.plan.steps
    → line_name (event_text job e ++ x) ≡ step_text job (step_of e)
line_name-event job e x named lt =
    let n = step_text job (step_of e) in
    ap line_name (four (word_of e) (codes " ") n (rest_text job e) x)
    ∙ word_over e (n ++ (rest_text job e ++ x))
    ∙ before_stop-plain n (rest_text job e ++ x) (named.plain (step_of e) lt) (rest_stops job e x)

-- an event's text has a first byte
pub event_begins : (job : JobView) (e : Event) → (c : ℕ) × (r : List ℕ) × (event_text job e ≡ c ∷ r)
event_begins job (Start s) = (_, _, refl)
event_begins job (Take s i vs) = (_, _, refl)
event_begins job (Put s i v) = (_, _, refl)
event_begins job (End s cs) = (_, _, refl)
event_begins job (Fail s r) = (_, _, refl)

-- a text whose first lines are those of an event names the event's step
pub named_by : (job : JobView) (t : List ℕ) (e : Event) (y : List ℕ) (k : ℕ) → IsNamed job → step_of e < length job.plan.steps
    → first_lines t (suc k) ≡ first_lines (event_text job e ++ y) (suc k) → line_name t ≡ step_text job (step_of e)
named_by job t e y k named lt q =
    sym (line_name-first t k) ∙ ap line_name q ∙ line_name-first (event_text job e ++ y) k ∙ line_name-event job e y named lt
