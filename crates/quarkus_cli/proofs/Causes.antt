-- Which cause each status of an outcome stands for.
use Rattle.std.proofs.Common.{◌≡◌, ◌∙◌, ap, refl, sym, subst, ℕ, ◌-◌, ◌^◌, ◌<◌, ◌≤◌, ◌⊎◌, inl, inr, ◌↔◌, List, Option, Some, None, Result, Ok, Err, arith}
use Rattle.std.proofs.lemmas.Bool.{cases_lt, cases_eq}
use Rattle.aug_base.specs.Causes.{Rose}
use Rattle.aug_base.specs.Files.{Files}
use Rattle.item_types.specs.declared.decl.ItemDecl.{ItemDecl}
use Rattle.item_types.specs.declared.step.StepDecl.{StepDecl}
use Rattle.chain_builder.specs.Accepted.{IsAccepted}
use Rattle.chain_builder.specs.Fault.{IsFault}
use Rattle.chain_builder.specs.declared.fault.ChainFault.{ChainFault}
use Rattle.chain_builder.specs.declared.fault.ChainFault.TheVariants.{Memory}
use Rattle.ext_parser.specs.ProjectOfTheBytes.{project}
use Rattle.ext_parser.specs.declared.fault.ProjectFault.{ProjectFault}
use Rattle.ext_parser.specs.declared.project.Project.{Project}
use Rattle.command_words.specs.declared.command.Command.{Command}
use Rattle.quarkus_cli.specs.declared.outcome.Outcome.{Outcome}
use Rattle.command_words.specs.Words.{command_of}
use Rattle.build_history.specs.declared.event.Event.{Event}
use Rattle.build_history.specs.Kinds.{IsComplete, IsFailed}
use Rattle.project_job.specs.JobOf.{job_of}
use Rattle.quarkus_cli.specs.Builds.{OfBuild}
use Rattle.quarkus_cli.specs.Outcomes.{IsAcceptedProject, OfRead, OfFile, OfChain, OfPlan, OutcomeBy, WordsOutcome}
use Rattle.quarkus_cli.specs.Answers.{Outside, Quiet, IsFinal, AnswersWords}
use Rattle.quarkus_cli.specs.Causes.{HoldsProject, HoldsNoProject, TellsBuild, CanCount}
use Rattle.quarkus_cli.proofs.Kept.{four_failed, failed_four, zero_well, well_zero}
use Rattle.quarkus_cli.proofs.Projects.{EndsWell, plan_ends, build_ends, status_of}

-- chain_builder's law
abbrev pub NoFaultIsAccepted : Type 0
NoFaultIsAccepted = (steps : List StepDecl) (items : List ItemDecl) (finals : List ℕ) (fault : ChainFault) → (fault ≡ Memory → ⊥) → IsFault steps items finals fault
    → IsAccepted steps items finals → ⊥

pub data ProjectCase (Then : Project → Outcome → Type 0) (file : Option (List ℕ)) (o : Outcome) : Type 0 where
  absent : o.status ≡ 6 → file ≡ None → ProjectCase Then file o
  no_project : o.status ≡ 2 → HoldsNoProject file → ProjectCase Then file o
  no_chain : o.status ≡ 3 → (p : Project) → HoldsProject file p → (IsAcceptedProject p → ⊥) → ProjectCase Then file o
  done : (o.status ≡ 0) ⊎ (o.status ≡ 4) → (p : Project) → HoldsProject file p → IsAcceptedProject p → Then p o → ProjectCase Then file o

pub one_project : (file : Option (List ℕ)) (p q : Project) → HoldsProject file p → HoldsProject file q → p ≡ q
one_project file p q a b =
    let same : a.0 ≡ b.0 = cc (a.1, b.1) in
    let read : project a.0 ≡ project b.0 = ap project same in
    cc (a.2, b.2)

not_both : (file : Option (List ℕ)) (p : Project) → HoldsProject file p → HoldsNoProject file → ⊥
not_both file p a b =
    let same : a.0 ≡ b.0 = cc (a.1, b.2) in
    let read : project a.0 ≡ project b.0 = ap project same in
    cc (a.2, b.3)

not_well : (n m : ℕ) → (n ≡ 0) ⊎ (n ≡ 4) → n ≡ m → (m ≡ 0 → ⊥) → (m ≡ 4 → ⊥) → ⊥
not_well n m well is no_zero no_four = elim well [ inl z ↦ no_zero (sym is ∙ z) | inr f ↦ no_four (sym is ∙ f) ]

module _ (law : NoFaultIsAccepted) (Then : Project → Outcome → Type 0) (ends : EndsWell Then) where
  read_case : (bytes : List ℕ) (r : Result Project ProjectFault) (o : Outcome) → project bytes ≡ r → OfRead (OfChain Then) r o → ProjectCase Then (Some bytes) o
  read_case bytes (Err fault) o is of = no_project (status_of o _ of) (bytes, fault, refl, is)
  read_case bytes (Ok p) o is of = elim of [
    | inl accepted ↦ done (ends p o accepted.1) p (bytes, refl, is) accepted.0 accepted.1
    | inr refused ↦ no_chain (status_of o _ refused.3) p (bytes, refl, is) (law p.steps p.names.items p.finals refused.0 refused.1 refused.2)
  ]

  pub project_case : (file : Option (List ℕ)) (o : Outcome) → OfFile (OfChain Then) file o → ProjectCase Then file o
  project_case None o of = absent (status_of o _ of) refl
  project_case (Some bytes) o of = read_case bytes (project bytes) o refl of

  pub absent_is : (file : Option (List ℕ)) (o : Outcome) → OfFile (OfChain Then) file o → (o.status ≡ 6) ↔ (file ≡ None)
  absent_is file o of = elim (project_case file o of) [
    | absent s n ↦ (λ _. n, λ _. s)
    | no_project s h ↦ (λ is. absurd (omega (arith, s, is)), λ n. absurd (cc (h.2)))
    | no_chain s p h r ↦ (λ is. absurd (omega (arith, s, is)), λ n. absurd (cc (h.1)))
    | done s p h a t ↦ (λ is. absurd (not_well o.status 6 s is (λ e. omega (arith, e)) (λ e. omega (arith, e))), λ n. absurd (cc (h.1)))
  ]

  pub no_project_is : (file : Option (List ℕ)) (o : Outcome) → OfFile (OfChain Then) file o → (o.status ≡ 2) ↔ HoldsNoProject file
  no_project_is file o of = elim (project_case file o of) [
    | absent s n ↦ (λ is. absurd (omega (arith, s, is)), λ h. absurd (cc (h.2)))
    | no_project s h ↦ (λ _. h, λ _. s)
    | no_chain s p h r ↦ (λ is. absurd (omega (arith, s, is)), λ n. absurd (not_both file p h n))
    | done s p h a t ↦ (λ is. absurd (not_well o.status 2 s is (λ e. omega (arith, e)) (λ e. omega (arith, e))), λ n. absurd (not_both file p h n))
  ]

  pub no_chain_is : (file : Option (List ℕ)) (o : Outcome) → OfFile (OfChain Then) file o
      → (o.status ≡ 3) ↔ ((p : Project) × HoldsProject file p × (IsAcceptedProject p → ⊥))
  no_chain_is file o of = elim (project_case file o of) [
    | absent s n ↦ (λ is. absurd (omega (arith, s, is)), λ q. absurd (cc (q.1.1)))
    | no_project s h ↦ (λ is. absurd (omega (arith, s, is)), λ q. absurd (not_both file q.0 q.1 h))
    | no_chain s p h r ↦ (λ _. (p, h, r), λ _. s)
    | done s p h a t ↦ (
      λ is. absurd (not_well o.status 3 s is (λ e. omega (arith, e)) (λ e. omega (arith, e))),
      λ q. absurd (q.2 (subst IsAcceptedProject (one_project file p q.0 h q.1) a)),
    )
  ]

  -- where the file holds a project whose chain is accepted, what the command comes to is of that project
  pub accepted_done : (file : Option (List ℕ)) (o : Outcome) (p : Project) → OfFile (OfChain Then) file o → HoldsProject file p → IsAcceptedProject p → Then p o
  accepted_done file o p of holds accepted = elim (project_case file o of) [
    | absent s n ↦ absurd (cc (holds.1))
    | no_project s h ↦ absurd (not_both file p holds h)
    | no_chain s q h r ↦ absurd (r (subst IsAcceptedProject (one_project file p q holds h) accepted))
    | done s q h a t ↦ subst (λ (p : Project). Then p o) (one_project file q p h holds) t
  ]

  -- a status 0 or 4 is that of a project whose chain is accepted
  pub well_done : (file : Option (List ℕ)) (o : Outcome) → OfFile (OfChain Then) file o → (o.status ≡ 0) ⊎ (o.status ≡ 4)
      → (p : Project) × HoldsProject file p × IsAcceptedProject p × Then p o
  well_done file o of well = elim (project_case file o of) [
    | absent s n ↦ absurd (not_well o.status 6 well s (λ e. omega (arith, e)) (λ e. omega (arith, e)))
    | no_project s h ↦ absurd (not_well o.status 2 well s (λ e. omega (arith, e)) (λ e. omega (arith, e)))
    | no_chain s q h r ↦ absurd (not_well o.status 3 well s (λ e. omega (arith, e)) (λ e. omega (arith, e)))
    | done s q h a t ↦ (q, h, a, t)
  ]

pub plan_done_is : NoFaultIsAccepted → (file : Option (List ℕ)) (o : Outcome) → OfFile (OfChain OfPlan) file o
    → (o.status ≡ 0) ↔ ((p : Project) × HoldsProject file p × IsAcceptedProject p)
plan_done_is law file o of = (
  λ is. let d = well_done law OfPlan plan_ends file o of (inl is) in (d.0, d.1, d.2),
  λ q. status_of o _ (accepted_done law OfPlan plan_ends file o q.0 of q.1 q.2).2,
)

-- what tells a build's status, over the history that it kept
module _ (law : NoFaultIsAccepted) (out : List ℕ) (workers : ℕ) where
  tells : (file : Option (List ℕ)) (o : Outcome) → OfFile (OfChain (OfBuild out workers)) file o → (o.status ≡ 0) ⊎ (o.status ≡ 4)
      → (p : Project) × (h : List Event) × TellsBuild file out workers o p h
  tells file o of well =
      let d = well_done law (OfBuild out workers) (build_ends out workers) file o of well in
      (d.0, d.3.0, record { holds = d.1; accepted = d.2; kept = d.3.1; told = d.3.2 })

  pub step_failed_is : (file : Option (List ℕ)) (o : Outcome) → OfFile (OfChain (OfBuild out workers)) file o
      → (o.status ≡ 4) ↔ ((p : Project) × (h : List Event) × TellsBuild file out workers o p h × IsFailed h)
  step_failed_is file o of = (
    λ is. let t = tells file o of (inr is) in (t.0, t.1, t.2, four_failed t.1 (sym (status_of o _ t.2.told) ∙ is)),
    λ q. status_of o _ q.2.told ∙ failed_four q.1 q.3,
  )

  pub built_is : (file : Option (List ℕ)) (o : Outcome) → OfFile (OfChain (OfBuild out workers)) file o
      → (o.status ≡ 0) ↔ ((p : Project) × (h : List Event) × TellsBuild file out workers o p h × IsComplete (job_of p) h × (IsFailed h → ⊥))
  built_is file o of = (
    λ is.
        let t = tells file o of (inl is) in
        let well = zero_well t.1 (sym (status_of o _ t.2.told) ∙ is) in
        (t.0, t.1, t.2, elim t.2.kept.finished.done [ inl complete ↦ complete | inr failed ↦ absurd (well failed) ], well),
    λ q. status_of o _ q.2.told ∙ well_zero q.1 q.4,
  )

refused_by : (command : Option Command) (files : Option Files) (o : Outcome) → OutcomeBy command files o → (o.status ≡ 1) ↔ (command ≡ None)
refused_by None files o of = (λ _. refl, λ _. status_of o _ of)
refused_by (Some command) files o of = (λ is. absurd (of.0 is), λ none. absurd (cc))

pub refused_is : (words : List (List ℕ)) (files : Option Files) (o : Outcome) → WordsOutcome words files o → (o.status ≡ 1) ↔ (command_of words ≡ None)
refused_is words files o of = refused_by (command_of words) files o of

-- a status is final, or one of the three that are not
pub kinds : (n : ℕ) → n ≤ 11 → IsFinal n ⊎ ((n ≡ 6) ⊎ ((n ≡ 7) ⊎ (n ≡ 8)))
kinds n known =
    elim (cases_lt n 6) [
      | inl low ↦ inl (inl (omega arith))
      | inr high ↦ elim (cases_lt 8 n) [
        | inl top ↦ inl (inr (omega arith, known))
        | inr middle ↦ inr (elim (cases_eq n 6) [ inl e ↦ inl e | inr ne ↦ inr (elim (cases_eq n 7) [ inl e ↦ inl e | inr more ↦ inr (omega arith) ]) ])
      ]
    ]

pub not_risen : (before now : ℕ) → before < 2 ^ 64 - 1 → now ≡ before → Rose before now → ⊥
not_risen before now room same rose = omega (arith, room, same, rose)

pub answered : (words : List (List ℕ)) (before now : Outside) (status : ℕ) → AnswersWords words before now status → CanCount before → Quiet before now
    → (status ≡ 8) ⊎ ((o : Outcome) × WordsOutcome words before.shelf.files o × (o.status ≡ status))
answered words before now status a room quiet =
    elim (kinds status a.known) [
      | inl final ↦ let d = a.done final in inr (d.0, d.1, d.2)
      | inr other ↦ elim other [
        | inl six ↦ elim (a.missing six) [
          | inl lacks ↦ inr (lacks.1.0, lacks.1.1, lacks.1.2 ∙ sym six)
          | inr rose ↦ absurd (not_risen before.shelf.read_faults now.shelf.read_faults room.reads quiet.reads rose)
        ]
        | inr more ↦ elim more [
          | inl seven ↦ absurd (elim (a.failed seven) [
            | inl rose ↦ not_risen before.shelf.write_faults now.shelf.write_faults room.writes quiet.writes rose
            | inr rose ↦ not_risen before.sink.faults now.sink.faults room.puts quiet.puts rose
          ])
          | inr eight ↦ inl eight
        ]
      ]
    ]
