-- A list of values that is made one by one.
use Rattle.std.proofs.Common.{◌≡◌, List, [], ◌∷◌, ◌++◌, Ok, Err, refl, sym, ap, append_assoc}
use Rattle.step_state.specs.declared.state.State.{State}
use Rattle.step_state.specs.Evaluation.{Checked, and_then}

-- with these values before
abbrev pub after : {A : Type 0} → List A → Checked (List A × State) → Checked (List A × State)
after out (Ok r) = Ok (out ++ r.0, r.1)
after out (Err e) = Err e

pub after-none : {A : Type 0} (o : Checked (List A × State)) → after [] o ≡ o
after-none (Ok r) = refl
after-none (Err e) = refl

pub after-one : {A : Type 0} (out : List A) (v : A) (o : Checked (List A × State)) → after out (and_then o (λ r. Ok (v ∷ r.0, r.1))) ≡ after (out ++ v ∷ []) o
after-one out v (Ok r) = ap (λ (l : List _). Ok (l, r.1)) (sym (append_assoc out (v ∷ []) r.0))
after-one out v (Err e) = refl
