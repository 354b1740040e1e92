-- The causes that a status tells: what a file holds, which history a build kept, and that no count of faults is at its end. This project's own.
use Rattle.std.specs.Prelude.{◌≡◌, ℕ, ◌<◌, ◌^◌, ◌-◌, List, Option, Some, Ok, Err}
use Rattle.build_history.specs.declared.event.Event.{Event}
use Rattle.ext_parser.specs.ProjectOfTheBytes.{project}
use Rattle.ext_parser.specs.declared.fault.ProjectFault.{ProjectFault}
use Rattle.ext_parser.specs.declared.project.Project.{Project}
use Rattle.project_job.specs.JobOf.{job_of}
use Rattle.quarkus_cli.specs.declared.outcome.Outcome.{Outcome}
use Rattle.quarkus_cli.specs.Answers.{Outside}
use Rattle.quarkus_cli.specs.Builds.{IsKept, built}
use Rattle.quarkus_cli.specs.Outcomes.{IsAcceptedProject}

-- the file is there, and its bytes are this project
abbrev pub HoldsProject : Option (List ℕ) → Project → Type 0
HoldsProject file p = (bytes : List ℕ) × (file ≡ Some bytes) × (project bytes ≡ Ok p)

-- the file is there, and its bytes are no project
abbrev pub HoldsNoProject : Option (List ℕ) → Type 0
HoldsNoProject file = (bytes : List ℕ) × (fault : ProjectFault) × (file ≡ Some bytes) × (project bytes ≡ Err fault)

-- the outcome is that of a build of the project in the file, by so many workers, which kept this history
pub record TellsBuild (file : Option (List ℕ)) (out : List ℕ) (workers : ℕ) (o : Outcome) (p : Project) (h : List Event) : Type 0 where
  pub holds : HoldsProject file p
  pub accepted : IsAcceptedProject p
  pub kept : IsKept (job_of p) workers h
  pub told : o ≡ built p.app (job_of p) out h

-- no count of faults is at the last number of 64 bits
pub record CanCount (outside : Outside) : Type 0 where
  pub reads : outside.shelf.read_faults < 2 ^ 64 - 1
  pub writes : outside.shelf.write_faults < 2 ^ 64 - 1
  pub puts : outside.sink.faults < 2 ^ 64 - 1
