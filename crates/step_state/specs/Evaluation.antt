-- An evaluation: from a state to a value and a state, or to the reason why the step fails.
use Rattle.std.specs.Prelude.{◌≡◌, Result, Ok, Err}
use Rattle.step_state.specs.declared.state.State.{State}
use Rattle.step_state.specs.declared.stop.Stop.{Stop}
use Rattle.step_state.specs.declared.stop.Stop.TheVariants.{Fails}
use Rattle.step_state.specs.declared.outcome.Reason.{Reason}

-- a test or an operation that leaves the state: a value, or a reason
abbrev pub Checked : Type 0 → Type 0
Checked A = Result A Reason

abbrev pub Eval : Type 0 → Type 0
Eval A = State → Checked (A × State)

abbrev pub and_then : {A B : Type 0} → Checked A → (A → Checked B) → Checked B
and_then (Ok a) f = f a
and_then (Err e) f = Err e

-- first p, then f of its value
infixl 10 ◌>>=◌
abbrev pub ◌>>=◌ : {A B : Type 0} → Eval A → (A → Eval B) → Eval B
p >>= f = λ s. and_then (p s) (λ r. f r.0 r.1)

-- first p, then q
infixl 10 ◌>>◌
abbrev pub ◌>>◌ : {A B : Type 0} → Eval A → Eval B → Eval B
p >> q = p >>= (λ _. q)

abbrev pub pure : {A : Type 0} → A → Eval A
pure a = λ s. Ok (a, s)

abbrev pub lift : {A : Type 0} → Checked A → Eval A
lift r = λ s. and_then r (λ a. Ok (a, s))

-- what a call of the code ensures: the value and the state, unless memory is wanting
abbrev pub Evals : {A : Type 0} → Checked (A × State) → Result A Stop → State → Type 0
Evals outcome (Ok a) new = outcome ≡ Ok (a, new)
Evals outcome (Err e) new = (r : Reason) → e ≡ Fails r → outcome ≡ Err r

-- the same of a call that leaves the state
abbrev pub Gives : {A : Type 0} → Checked A → Result A Stop → Type 0
Gives outcome (Ok a) = outcome ≡ Ok a
Gives outcome (Err e) = (r : Reason) → e ≡ Fails r → outcome ≡ Err r
