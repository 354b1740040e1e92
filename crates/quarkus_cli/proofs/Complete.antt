-- What a command answers where nothing outside failed, where a name isn't there, and where a write failed.
use Rattle.std.proofs.Common.{◌≡◌, ◌≢◌, ◌∙◌, refl, sym, subst, ℕ, ◌≤◌, ◌⊎◌, inl, inr, List, [], length, Option, Some, None, option_map, arith}
use Rattle.aug_base.specs.Causes.{Rose}
use Rattle.aug_base.specs.Files.{Files}
use Rattle.aug_base.specs.Sinks.{Grows}
use Rattle.class_grammar.specs.Grammar.{Spells}
use Rattle.class_grammar.specs.Layout.{IsBytes}
use Rattle.class_pool.specs.declared.class.Class.{Class}
use Rattle.command_words.specs.declared.command.Command.{Command}
use Rattle.command_words.specs.declared.command.Command.TheVariants.{Plan, Build, Dump}
use Rattle.command_words.specs.Words.{command_of}
use Rattle.ext_parser.specs.declared.project.Project.{Project}
use Rattle.quarkus_cli.specs.declared.outcome.Outcome.{Outcome}
use Rattle.quarkus_cli.specs.Builds.{OfBuild}
use Rattle.quarkus_cli.specs.Outcomes.{CommandOutcome, FirstPart, FirstPartBy, OutcomeBy, IsAcceptedProject, OfChain, OfFile, OfDump, OfPlan, Told}
use Rattle.quarkus_cli.specs.Answers.{Outside, Quiet, Done, DoneInPart, Answers, AnswersCommand, AnswersWords}
use Rattle.quarkus_cli.specs.Causes.{HoldsProject, CanCount}
use Rattle.quarkus_cli.proofs.Ends.{not_final, same_text}
use Rattle.quarkus_cli.proofs.Projects.{plan_ends, build_ends, status_of}
use Rattle.quarkus_cli.proofs.Causes.{NoFaultIsAccepted, accepted_done, kinds, not_risen}
use Rattle.quarkus_cli.proofs.OneDump.{NeverBoth, OneClass, absent_is, dumped_is}

-- what is told of a map is said of it
told_at : (allows : Files → Outcome → Type 0) (files : Option Files) (m : Files) (o : Outcome) → files ≡ Some m → Told allows files o → allows m o
told_at allows None m o is told = absurd (cc)
told_at allows (Some k) m o is told = let e : k ≡ m = cc in subst (λ (k : Files). allows k o) e told.1

module _ (Allows Stops : Outcome → Type 0) (before now : Outside) (status : ℕ) (a : Answers Allows Stops before now status) where
  -- where nothing outside failed, the answer is the status of an outcome, or want of memory
  pub answered_by : (Is : ℕ → Type 0) → ((o : Outcome) → Allows o → Is o.status) → (Is 6 → ⊥) → CanCount before → Quiet before now
      → Is status ⊎ (status ≡ 8)
  answered_by Is ends no_six room quiet =
      elim (kinds status a.known) [
        | inl final ↦ let d = a.done final in inl (subst Is d.2 (ends d.0 d.1))
        | inr other ↦ elim other [
          | inl six ↦ absurd (elim (a.missing six) [
            | inl lacks ↦ no_six (subst Is lacks.1.2 (ends lacks.1.0 lacks.1.1))
            | inr rose ↦ not_risen before.shelf.read_faults now.shelf.read_faults room.reads quiet.reads rose
          ])
          | inr more ↦ elim more [
            | inl seven ↦ absurd (elim (a.failed seven) [
              | inl rose ↦ not_risen before.shelf.write_faults now.shelf.write_faults room.writes quiet.writes rose
              | inr rose ↦ not_risen before.sink.faults now.sink.faults room.puts quiet.puts rose
            ])
            | inr eight ↦ inr eight
          ]
        ]
      ]

  -- where each outcome is that a name isn't there, the answer is this, or want of memory
  pub missing_told : ((o : Outcome) → Allows o → o.status ≡ 6) → (status ≡ 6) ⊎ (status ≡ 8)
  missing_told six =
      elim (kinds status a.known) [
        | inl final ↦
            let d = a.done final in
            let is : status ≡ 6 = sym d.2 ∙ six d.0 d.1 in
            absurd (not_final status final (omega (arith, is)) (omega (arith, is)))
        | inr other ↦ elim other [
          | inl is ↦ inl is
          | inr more ↦ elim more [ inl seven ↦ let d = a.failed_leaves seven in absurd (d.2 (six d.0 d.1)) | inr eight ↦ inr eight ]
        ]
      ]

  -- where a write failed, nothing is put
  pub nothing_put : ((o : Outcome) → Stops o → o.text ≡ []) → (now.shelf.write_faults ≡ before.shelf.write_faults → ⊥) → now.sink.bytes ≡ before.sink.bytes
  nothing_put silent failed =
      let stopped : (o : Outcome) → Stops o → Done o before now → now.sink.bytes ≡ before.sink.bytes
      = λ o stops done. subst (λ text. Grows text before.sink.bytes now.sink.bytes) (silent o stops) done.text ∙ sym (same_text before.sink.bytes) in
      let part : (o : Outcome) → DoneInPart o before now → now.sink.bytes ≡ before.sink.bytes
      = λ o done. elim done [ inl files ↦ files.text | inr text ↦ absurd (failed text.writes) ] in
      elim (kinds status a.known) [
        | inl final ↦ let quiet = a.quiet final in absurd (failed quiet.writes)
        | inr other ↦ elim other [
          | inl six ↦ let left = a.missing_leaves six in stopped left.0 left.1 left.2
          | inr more ↦ elim more [
            | inl seven ↦ let left = a.failed_leaves seven in part left.0 left.3
            | inr eight ↦ elim (a.spent_leaves eight) [ inl left ↦ stopped left.0 left.1 left.2 | inr left ↦ part left.0 left.2 ]
          ]
        ]
      ]

lacks_project : (Then : Project → Outcome → Type 0) (file : Option (List ℕ)) (o : Outcome) → file ≡ None → OfFile Then file o → o.status ≡ 6
lacks_project Then None o is of = status_of o _ of
lacks_project Then (Some bytes) o is of = absurd (cc)

pub lacks : (command : Command) (file : List ℕ) (before now : Outside) (status : ℕ) (m : Files) → AnswersCommand command before now status
    → before.shelf.files ≡ Some m → ((o : Outcome) → CommandOutcome command m o → o.status ≡ 6) → (status ≡ 6) ⊎ (status ≡ 8)
lacks command file before now status m a files six =
    missing_told (Told (CommandOutcome command) before.shelf.files) (FirstPart command before.shelf.files) before now status a
    (λ o told. six o (told_at (CommandOutcome command) before.shelf.files m o files told))

pub plan_lacks : (file : List ℕ) (before now : Outside) (status : ℕ) (m : Files) → AnswersCommand (Plan file) before now status
    → before.shelf.files ≡ Some m → m file ≡ None → (status ≡ 6) ⊎ (status ≡ 8)
plan_lacks file before now status m a files is = lacks (Plan file) file before now status m a files (λ o of. lacks_project (OfChain OfPlan) (m file) o is of)

pub build_lacks : (file out : List ℕ) (workers : ℕ) (before now : Outside) (status : ℕ) (m : Files) → AnswersCommand (Build file out workers) before now status
    → before.shelf.files ≡ Some m → m file ≡ None → (status ≡ 6) ⊎ (status ≡ 8)
build_lacks file out workers before now status m a files is =
    lacks (Build file out workers) file before now status m a files (λ o of. lacks_project (OfChain (OfBuild out workers)) (m file) o is of)

pub dump_lacks : (file : List ℕ) (before now : Outside) (status : ℕ) (m : Files) → AnswersCommand (Dump file) before now status
    → before.shelf.files ≡ Some m → m file ≡ None → (status ≡ 6) ⊎ (status ≡ 8)
dump_lacks file before now status m a files is = lacks (Dump file) file before now status m a files (λ o of. status_of o _ (absent_is file m o is of))

pub accepted_planned : NoFaultIsAccepted → (file : List ℕ) (before now : Outside) (status : ℕ) (m : Files) (p : Project) → AnswersCommand (Plan file) before now status
    → CanCount before → Quiet before now → before.shelf.files ≡ Some m → HoldsProject (m file) p → IsAcceptedProject p → (status ≡ 0) ⊎ (status ≡ 8)
accepted_planned law file before now status m p a room quiet files holds accepted =
    let command = Plan file in
    answered_by (Told (CommandOutcome command) before.shelf.files) (FirstPart command before.shelf.files) before now status a (λ n. n ≡ 0)
    (λ o told. status_of o _ (accepted_done law OfPlan plan_ends (m file) o p (told_at (CommandOutcome command) before.shelf.files m o files told) holds accepted).2)
    (λ is. omega (arith, is)) room quiet

-- the statuses of a build that ran
abbrev Well : ℕ → Type 0
Well n = (n ≡ 0) ⊎ (n ≡ 4)

no_six : Well 6 → ⊥
no_six is = elim is [ inl e ↦ omega (arith, e) | inr e ↦ omega (arith, e) ]

pub accepted_built : NoFaultIsAccepted → (file out : List ℕ) (workers : ℕ) (before now : Outside) (status : ℕ) (m : Files) (p : Project)
    → AnswersCommand (Build file out workers) before now status → CanCount before → Quiet before now → before.shelf.files ≡ Some m → HoldsProject (m file) p
    → IsAcceptedProject p → (status ≡ 0) ⊎ ((status ≡ 4) ⊎ (status ≡ 8))
accepted_built law file out workers before now status m p a room quiet files holds accepted =
    let command = Build file out workers in
    let Then = OfBuild out workers in
    elim (answered_by (Told (CommandOutcome command) before.shelf.files) (FirstPart command before.shelf.files) before now status a Well
    (λ o told. build_ends out workers p o
    (accepted_done law Then (build_ends out workers) (m file) o p (told_at (CommandOutcome command) before.shelf.files m o files told) holds accepted))
    no_six room quiet) [
      | inl well ↦ elim well [ inl zero ↦ inl zero | inr four ↦ inr (inl four) ]
      | inr eight ↦ inr (inr eight)
    ]

pub class_dumped : NeverBoth → OneClass → (file bytes : List ℕ) (before now : Outside) (status : ℕ) (m : Files) (c : Class) → AnswersCommand (Dump file) before now status
    → CanCount before → Quiet before now → before.shelf.files ≡ Some m → m file ≡ Some bytes → IsBytes bytes → length bytes ≤ 2000000 → Spells bytes c
    → (status ≡ 0) ⊎ (status ≡ 8)
class_dumped never one file bytes before now status m c a room quiet files is are small spells =
    let command = Dump file in
    answered_by (Told (CommandOutcome command) before.shelf.files) (FirstPart command before.shelf.files) before now status a (λ n. n ≡ 0)
    (λ o told. status_of o _
    (dumped_is never one file bytes m c o is are small spells (told_at (CommandOutcome command) before.shelf.files m o files told)))
    (λ is. omega (arith, is)) room quiet

no_form_by : (command : Option Command) (before now : Outside) (status : ℕ)
    → Answers (OutcomeBy command before.shelf.files) (FirstPartBy command before.shelf.files) before now status → command ≡ None
    → (status ≡ 1) ⊎ ((status ≡ 7) ⊎ (status ≡ 8))
no_form_by (Some command) before now status a is = absurd (cc)
no_form_by None before now status a is =
    elim (kinds status a.known) [
      | inl final ↦ let d = a.done final in inl (sym d.2 ∙ status_of d.0 _ d.1)
      | inr other ↦ elim other [ inl six ↦ let left = a.missing_leaves six in absurd left.1 | inr more ↦ inr more ]
    ]

pub no_form : (words : List (List ℕ)) (before now : Outside) (status : ℕ) → AnswersWords words before now status → command_of words ≡ None
    → (status ≡ 1) ⊎ ((status ≡ 7) ⊎ (status ≡ 8))
no_form words before now status a is = no_form_by (command_of words) before now status a is

first_silent : (command : Option Command) (files : Option Files) (o : Outcome) → FirstPartBy command files o → o.text ≡ []
first_silent None files o stops = absurd stops
first_silent (Some (Plan file)) files o stops = rw stops refl
first_silent (Some (Build file out workers)) files o stops = rw stops refl
first_silent (Some (Dump file)) files o stops = rw stops refl

pub put_last : (words : List (List ℕ)) (before now : Outside) (status : ℕ) → AnswersWords words before now status
    → (now.shelf.write_faults ≡ before.shelf.write_faults → ⊥) → now.sink.bytes ≡ before.sink.bytes
put_last words before now status a failed =
    nothing_put (OutcomeBy (command_of words) before.shelf.files) (FirstPartBy (command_of words) before.shelf.files) before now status a
    (λ o stops. first_silent (command_of words) before.shelf.files o stops) failed
