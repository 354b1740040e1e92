-- The outcomes of the commands that read a project, over the bytes that were read.
use Rattle.std.proofs.Common.{◌≡◌, ◌≢◌, ◌∙◌, ap, refl, sym, subst, ℕ, ◌≤◌, ◌⊎◌, inl, inr, List, take, Option, Some, None, option_map, IfSome, Result, Ok, Err, arith}
use Rattle.step_state.specs.declared.outcome.Reason.{Reason}
use Rattle.aug_base.specs.Files.{Files}
use Rattle.aug_base.specs.Shelves.{Holds}
use Rattle.build_report.specs.BuildText.{failure}
use Rattle.ext_parser.specs.ProjectOfTheBytes.{project}
use Rattle.ext_parser.specs.declared.fault.ProjectFault.{ProjectFault}
use Rattle.ext_parser.specs.declared.project.Project.{Project}
use Rattle.quarkus_cli.specs.declared.outcome.Outcome.{Outcome}
use Rattle.quarkus_cli.specs.Builds.{OfBuild, build_status}
use Rattle.quarkus_cli.specs.Outcomes.{OfRead, OfFile, OfChain, OfPlan, Told}
use Rattle.quarkus_cli.specs.Answers.{IsFinal}
use Rattle.quarkus_cli.proofs.Ends.{told_read}

pub status_of : (o with_status : Outcome) → o ≡ with_status → o.status ≡ with_status.status
status_of o with_status is = ap (λ (o : Outcome). o.status) is

-- it ends with the status 0, or 4
abbrev pub EndsWell : (Project → Outcome → Type 0) → Type 0
EndsWell Then = (p : Project) (o : Outcome) → Then p o → (o.status ≡ 0) ⊎ (o.status ≡ 4)

pub plan_ends : EndsWell OfPlan
plan_ends p o of = inl (status_of o _ of.2)

status_by : (f : Option (ℕ × Reason)) → (build_status f ≡ 0) ⊎ (build_status f ≡ 4)
status_by None = inl refl
status_by (Some why) = inr refl

pub build_ends : (out : List ℕ) (workers : ℕ) → EndsWell (OfBuild out workers)
build_ends out workers p o of = elim (status_by (failure of.0)) [ inl s ↦ inl (status_of o _ of.2 ∙ s) | inr s ↦ inr (status_of o _ of.2 ∙ s) ]

-- what was read of a file holds the project of the whole of it
of_file : (Then : Project → Outcome → Type 0) (limit : ℕ) (bytes : List ℕ) (o : Outcome) (at : Option (List ℕ)) → ((b : List ℕ) → project (take limit b) ≡ project b)
    → option_map (take limit) at ≡ Some bytes → OfRead Then (project bytes) o → OfFile Then at o
of_file Then limit bytes o None cut has of = absurd (cc)
of_file Then limit bytes o (Some whole) cut has of =
    let e : take limit whole ≡ bytes = cc in
    subst (λ r. OfRead Then r o) (ap project (sym e) ∙ cut whole) of

abbrev pub IsProjectStatus : ℕ → Type 0
IsProjectStatus n = ((n ≡ 0) ⊎ (n ≡ 4)) ⊎ ((2 ≤ n) × (n ≤ 3))

final : (n : ℕ) → IsProjectStatus n → IsFinal n
final n is = inl (elim is [ inl h ↦ elim h [ inl z ↦ omega (arith, z) | inr f ↦ omega (arith, f) ] | inr h ↦ omega (arith, h.1) ])

not_one : (n : ℕ) → IsProjectStatus n → n ≢ 1
not_one n is one = elim is [ inl h ↦ elim h [ inl z ↦ omega (arith, z, one) | inr f ↦ omega (arith, f, one) ] | inr h ↦ omega (arith, h.0, one) ]

module _ (Then : Project → Outcome → Type 0) (ends : EndsWell Then) where
  read_status : (r : Result Project ProjectFault) (o : Outcome) → OfRead (OfChain Then) r o → IsProjectStatus o.status
  read_status (Err fault) o is = let s : o.status ≡ 2 = status_of o _ is in inr (omega (arith, s), omega (arith, s))
  read_status (Ok p) o of = elim of [
    | inl done ↦ inl (ends p o done.1)
    | inr refused ↦ let s : o.status ≡ 3 = status_of o _ refused.3 in inr (omega (arith, s), omega (arith, s))
  ]

  pub project_allows : (file bytes : List ℕ) (limit : ℕ) (files : Option Files) (o : Outcome) → ((b : List ℕ) → project (take limit b) ≡ project b)
      → OfRead (OfChain Then) (project bytes) o → IfSome files (λ m. Holds m file limit bytes)
      → Told (λ m o. OfFile (OfChain Then) (m file) o) files o × IsFinal o.status
  project_allows file bytes limit files o cut of holds =
      let status = read_status (project bytes) o of in (
        told_read (λ m o. OfFile (OfChain Then) (m file) o) file bytes limit files o (not_one o.status status) (λ m has. of_file (OfChain Then) limit bytes o (m file) cut has of) holds,
        final o.status status,
      )
