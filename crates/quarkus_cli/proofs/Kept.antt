-- The history that a build keeps: whether it ends with a failure, and what comes of it.
use Rattle.std.proofs.Common.{◌≡◌, ◌∙◌, ap, refl, sym, ℕ, ◌-◌, ◌⊎◌, inl, inr, List, [], ◌∷◌, ◌++◌, length, length-append, Option, Some, None, arith}
use Rattle.std.specs.Prelude.{slice_get}
use Rattle.std.specs.Option.{option_and_then}
use Rattle.std.proofs.lemmas.Option.{slice_get-get_or}
use Rattle.std.proofs.Math.Seq.{get_or-append_seam}
use Rattle.step_state.specs.declared.outcome.Reason.{Reason}
use Rattle.build_history.specs.declared.event.Event.{Event}
use Rattle.build_history.specs.declared.event.Event.TheVariants.{Start, Take, Put, End, Fail}
use Rattle.build_history.specs.Kinds.{IsFailed}
use Rattle.build_report.specs.BuildText.{failure, failure_of}
use Rattle.quarkus_cli.specs.Builds.{build_status}

-- a list is empty, or has a last element
ends_with : {A : Type 0} (xs : List A) → (xs ≡ []) ⊎ ((front : List A) × (x : A) × (xs ≡ front ++ x ∷ []))
ends_with [] = inl refl
ends_with (y ∷ ys) = inr (elim (ends_with ys) [
  | inl none ↦ ([], y, ap (λ rest. y ∷ rest) none)
  | inr w ↦ (y ∷ w.0, w.1, ap (λ rest. y ∷ rest) w.2)
])

last_of : (front : List Event) (e : Event) → slice_get (front ++ e ∷ []) (length (front ++ e ∷ []) - 1) ≡ Some e
last_of front e =
    let l = length-append front (e ∷ []) in
    let at : length (front ++ e ∷ []) - 1 ≡ length front = omega (arith, l) in
    ap (slice_get (front ++ e ∷ [])) at ∙ slice_get-get_or (front ++ e ∷ []) (length front) e (omega (arith, l)) ∙ ap Some (get_or-append_seam front e [] e)

failure_last : (front : List Event) (e : Event) → failure (front ++ e ∷ []) ≡ failure_of e
failure_last front e = ap (option_and_then failure_of) (last_of front e)

fail_is : (e : Event) (why : ℕ × Reason) → failure_of e ≡ Some why → e ≡ Fail why.0 why.1
fail_is (Start s) why is = absurd (cc)
fail_is (Take s item vs) why is = absurd (cc)
fail_is (Put s item v) why is = absurd (cc)
fail_is (End s calls) why is = absurd (cc)
fail_is (Fail s r) why is = let e : (s, r) ≡ why = cc in ap (λ (w : ℕ × Reason). Fail w.0 w.1) e

pub failure_fails : (h : List Event) (why : ℕ × Reason) → failure h ≡ Some why → IsFailed h
failure_fails h why is = elim (ends_with h) [
  | inl none ↦ absurd (let e : failure [] ≡ Some why = ap failure (sym none) ∙ is in cc)
  | inr w ↦
      let e : failure_of w.1 ≡ Some why = sym (failure_last w.0 w.1) ∙ ap failure (sym w.2) ∙ is in
      (w.0, why.0, why.1, w.2 ∙ ap (λ x. w.0 ++ x ∷ []) (fail_is w.1 why e))
]

pub fails_failure : (h : List Event) (failed : IsFailed h) → failure h ≡ Some (failed.1, failed.2)
fails_failure h failed = ap failure failed.3 ∙ failure_last failed.0 (Fail failed.1 failed.2)

-- the two statuses of a build
four_by : (f : Option (ℕ × Reason)) → build_status f ≡ 4 → (why : ℕ × Reason) × (f ≡ Some why)
four_by None is = absurd (omega (arith, is))
four_by (Some why) is = (why, refl)

pub four_failed : (h : List Event) → build_status (failure h) ≡ 4 → IsFailed h
four_failed h is = let w = four_by (failure h) is in failure_fails h w.0 w.1

pub failed_four : (h : List Event) → IsFailed h → build_status (failure h) ≡ 4
failed_four h failed = ap build_status (fails_failure h failed)

zero_by : (f : Option (ℕ × Reason)) → build_status f ≡ 0 → (why : ℕ × Reason) → f ≡ Some why → ⊥
zero_by None is why some = cc
zero_by (Some other) is why some = omega (arith, is)

pub zero_well : (h : List Event) → build_status (failure h) ≡ 0 → IsFailed h → ⊥
zero_well h is failed = zero_by (failure h) is (failed.1, failed.2) (fails_failure h failed)

well_by : (f : Option (ℕ × Reason)) → ((why : ℕ × Reason) → f ≡ Some why → ⊥) → build_status f ≡ 0
well_by None never = refl
well_by (Some why) never = absurd (never why refl)

pub well_zero : (h : List Event) → (IsFailed h → ⊥) → build_status (failure h) ≡ 0
well_zero h never = well_by (failure h) (λ why is. never (failure_fails h why is))
