-- The outcome of a build: which history it may keep, and what it prints and writes of it. This project's own.
use Rattle.std.specs.Prelude.{◌≡◌, ℕ, List, [], ◌∷◌, ◌++◌, codes, Option, Some, None}
use Rattle.step_state.specs.declared.outcome.Reason.{Reason}
use Rattle.build_history.specs.declared.event.Event.{Event}
use Rattle.build_history.specs.Jobs.{JobView}
use Rattle.build_history.specs.Kinds.{IsFinished, IsLeastFirst}
use Rattle.build_history.specs.EventText.{history_text}
use Rattle.build_report.specs.BuildText.{build_text, failure}
use Rattle.ext_parser.specs.declared.project.Project.{Project}
use Rattle.project_job.specs.JobOf.{job_of}
use Rattle.quarkus_cli.specs.declared.outcome.Outcome.{Outcome}

-- a history that so many workers may come to: a finished run, with one worker the least-first one
pub record IsKept (job : JobView) (workers : ℕ) (h : List Event) : Type 0 where
  pub finished : IsFinished job h
  pub least : workers ≡ 1 → IsLeastFirst job h

-- 4 where the last event is a failure
abbrev pub build_status : Option (ℕ × Reason) → ℕ
build_status None = 0
build_status (Some why) = 4

-- the name under which the history is written
abbrev pub history_name : List ℕ → List ℕ
history_name out = out ++ codes "/history.txt"

abbrev pub built : List ℕ → JobView → List ℕ → List Event → Outcome
built app job out h = record {
  status = build_status (failure h);
  text = build_text app job h;
  files = (history_name out, history_text job h) ∷ [];
}

abbrev pub OfBuild : List ℕ → ℕ → Project → Outcome → Type 0
OfBuild out workers p o = (h : List Event) × IsKept (job_of p) workers h × (o ≡ built p.app (job_of p) out h)
