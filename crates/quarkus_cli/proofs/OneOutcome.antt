-- Over given files `plan` has at most one outcome, and `build` by one worker; and a build's outcome tells its history.
use Rattle.std.proofs.Common.{◌≡◌, ◌∙◌, ap, refl, sym, subst, ℕ, inl, inr, List, [], ◌∷◌, Option, Some, None, Result, Ok, Err, IfOk}
use Rattle.aug_base.specs.Files.{File}
use Rattle.item_types.specs.declared.decl.ItemDecl.{ItemDecl}
use Rattle.item_types.specs.declared.step.StepDecl.{StepDecl}
use Rattle.chain_builder.specs.Fault.{IsFault}
use Rattle.chain_builder.specs.declared.fault.ChainFault.{ChainFault}
use Rattle.chain_builder.specs.declared.fault.ChainFault.TheVariants.{Memory}
use Rattle.ext_parser.specs.ProjectOfTheBytes.{project}
use Rattle.ext_parser.specs.declared.fault.ProjectFault.{ProjectFault}
use Rattle.ext_parser.specs.declared.project.Project.{Project}
use Rattle.build_report.specs.PlanText.{IsPlanText}
use Rattle.quarkus_cli.specs.declared.outcome.Outcome.{Outcome}
use Rattle.build_history.specs.declared.event.Event.{Event}
use Rattle.build_history.specs.Jobs.{JobView}
use Rattle.build_history.specs.Kinds.{IsFinished, IsLeastFirst}
use Rattle.build_history.specs.Runs.{IsOneThreadRun}
use Rattle.build_history.specs.EventText.{history_text}
use Rattle.run_laws.specs.Named.{IsNamed}
use Rattle.project_job.specs.JobOf.{job_of}
use Rattle.quarkus_cli.specs.Builds.{OfBuild, built}
use Rattle.quarkus_cli.specs.Causes.{TellsBuild}
use Rattle.quarkus_cli.specs.Outcomes.{said, no_chain, OfRead, OfFile, OfChain, OfPlan}
use Rattle.build_report.specs.BuildText.{build_text}
use Rattle.quarkus_cli.proofs.Printed.{printed}
use Rattle.quarkus_cli.proofs.Causes.{NoFaultIsAccepted, one_project}

-- a chain has at most one fault
abbrev pub FaultIsTheOnlyOne : Type 0
FaultIsTheOnlyOne = (steps : List StepDecl) (items : List ItemDecl) (finals : List ℕ) (fault other : ChainFault) → (fault ≡ Memory → ⊥) → (other ≡ Memory → ⊥)
    → IsFault steps items finals fault → IsFault steps items finals other → fault ≡ other

-- a plan has at most one text
abbrev pub PlanHasOneText : Type 0
PlanHasOneText = (app : List ℕ) (steps : List StepDecl) (finals text other : List ℕ) → IsPlanText app steps finals text → IsPlanText app steps finals other → text ≡ other

-- a job has at most one least-first run
abbrev pub OneLeastFirst : Type 0
OneLeastFirst = (job : JobView) (h k : List Event) → IsFinished job h → IsFinished job k → IsLeastFirst job h → IsLeastFirst job k → h ≡ k

-- it comes to one outcome over a project
abbrev pub HasOne : (Project → Outcome → Type 0) → Type 0
HasOne Then = (p : Project) (o other : Outcome) → Then p o → Then p other → o ≡ other

pub one_plan : PlanHasOneText → HasOne OfPlan
one_plan one p o other a b = a.2 ∙ ap (said 0) (one p.app p.steps p.finals a.0 b.0 a.1 b.1) ∙ sym b.2

pub one_build : OneLeastFirst → (out : List ℕ) → HasOne (OfBuild out 1)
one_build one out p o other a b =
    let same = one (job_of p) a.0 b.0 a.1.finished b.1.finished (a.1.least refl) (b.1.least refl) in
    a.2 ∙ ap (built p.app (job_of p) out) same ∙ sym b.2

module _ (refused : NoFaultIsAccepted) (only : FaultIsTheOnlyOne) (Then : Project → Outcome → Type 0) (one : HasOne Then) where
  same_chain : (p : Project) (o other : Outcome) → OfChain Then p o → OfChain Then p other → o ≡ other
  same_chain p o other a b = elim a [
    | inl done ↦ elim b [
      | inl again ↦ one p o other done.1 again.1
      | inr fault ↦ absurd (refused p.steps p.names.items p.finals fault.0 fault.1 fault.2 done.0)
    ]
    | inr fault ↦ elim b [
      | inl done ↦ absurd (refused p.steps p.names.items p.finals fault.0 fault.1 fault.2 done.0)
      | inr again ↦ fault.3 ∙ ap (no_chain p) (only p.steps p.names.items p.finals fault.0 again.0 fault.1 again.1 fault.2 again.2) ∙ sym again.3
    ]
  ]

  same_read : (r : Result Project ProjectFault) (o other : Outcome) → OfRead (OfChain Then) r o → OfRead (OfChain Then) r other → o ≡ other
  same_read (Ok p) o other a b = same_chain p o other a b
  same_read (Err fault) o other a b = a ∙ sym b

  pub same_outcome : (file : Option (List ℕ)) (o other : Outcome) → OfFile (OfChain Then) file o → OfFile (OfChain Then) file other → o ≡ other
  same_outcome None o other a b = a ∙ sym b
  same_outcome (Some bytes) o other a b = same_read (project bytes) o other a b

-- a text belongs to one run
abbrev pub TextIsOfOneRun : Type 0
TextIsOfOneRun = (job : JobView) (h k : List Event) → IsNamed job → IsOneThreadRun job h → IsOneThreadRun job k → history_text job h ≡ history_text job k → h ≡ k

abbrev pub StepsAreNamed : Type 0
StepsAreNamed = (bytes : List ℕ) → IfOk (project bytes) (λ p. IsNamed (job_of p))

named_by : (r : Result Project ProjectFault) (p : Project) → IfOk r (λ p. IsNamed (job_of p)) → r ≡ Ok p → IsNamed (job_of p)
named_by (Ok q) p named is = let e : q ≡ p = cc in subst (λ (q : Project). IsNamed (job_of q)) e named
named_by (Err fault) p named is = absurd (cc)

pub printed_history : StepsAreNamed → (bytes : List ℕ) (p : Project) (h k : List Event) → project bytes ≡ Ok p → IsFinished (job_of p) h → IsFinished (job_of p) k
    → build_text p.app (job_of p) h ≡ build_text p.app (job_of p) k → h ≡ k
printed_history names bytes p h k is one two same = printed (job_of p) (named_by (project bytes) p (names bytes) is) p.app h k one.run two.run same

-- the bytes of the first file
abbrev file_bytes : List File → List ℕ
file_bytes [] = []
file_bytes (file ∷ files) = file.1

abbrev written : Outcome → List ℕ
written o = file_bytes o.files

pub told_history : StepsAreNamed → TextIsOfOneRun → (file : Option (List ℕ)) (out : List ℕ) (workers others : ℕ) (o : Outcome) (p q : Project) (h k : List Event)
    → TellsBuild file out workers o p h → TellsBuild file out others o q k → (p ≡ q) × (h ≡ k)
told_history names one file out workers others o p q h k a b =
    let same = one_project file p q a.holds b.holds in
    let again : TellsBuild file out others o p k = subst (λ (q : Project). TellsBuild file out others o q k) (sym same) b in
    let texts : history_text (job_of p) h ≡ history_text (job_of p) k = ap written (sym a.told ∙ again.told) in
    let named = named_by (project a.holds.0) p (names a.holds.0) a.holds.2 in
    (same, one (job_of p) h k named a.kept.finished.run again.kept.finished.run texts)
