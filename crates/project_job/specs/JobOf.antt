-- The job of a project: its steps, items and final items as the plan of their chain, its names, and its bodies. This project's own.
use Rattle.build_history.specs.Jobs.{JobView}
use Rattle.ext_parser.specs.declared.project.Project.{Project}

abbrev pub job_of : Project → JobView
job_of p = record {
  plan = record { steps = p.steps; items = p.names.items; finals = p.finals };
  names = p.names;
  bodies = p.bodies;
}
