-- What a file's bytes hold to be run. This project's own.
use Rattle.std.specs.Prelude.{◌≡◌, ℕ, List, Ok}
use Rattle.ext_parser.specs.ProjectOfTheBytes.{project}
use Rattle.ext_parser.specs.declared.project.Project.{Project}
use Rattle.project_job.specs.JobOf.{job_of}
use Rattle.quarkus_cli.specs.declared.outcome.Outcome.{Outcome}
use Rattle.quarkus_cli.specs.declared.prepare.Prepared.{Prepared}
use Rattle.quarkus_cli.specs.declared.prepare.Prepared.TheVariants.{Ready, Refused}
use Rattle.quarkus_cli.specs.Outcomes.{IsAcceptedProject, OfChain, OfRead}

-- no outcome of a project whose chain is accepted
abbrev pub Nothing : Project → Outcome → Type 0
Nothing p o = ⊥

-- the job of a project whose chain is accepted, or what comes of a file that holds none
abbrev pub IsPrepared : List ℕ → Prepared → Type 0
IsPrepared bytes (Ready app job) = (p : Project) × (project bytes ≡ Ok p) × IsAcceptedProject p × (app ≡ p.app) × (job ≡ job_of p)
IsPrepared bytes (Refused o) = OfRead (OfChain Nothing) (project bytes) o
