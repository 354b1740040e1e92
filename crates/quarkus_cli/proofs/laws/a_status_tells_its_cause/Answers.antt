use Rattle.quarkus_cli.specs.Builds.{OfBuild}
use Rattle.quarkus_cli.specs.Outcomes.{OfPlan}
use Rattle.quarkus_cli.proofs.Causes.{refused_is, absent_is, no_project_is, no_chain_is, plan_done_is, step_failed_is, built_is}
use Rattle.quarkus_cli.proofs.Projects.{plan_ends, build_ends}
use Rattle.quarkus_cli.proofs.laws.a_status_tells_its_cause.Goals as goal

pub returns : goal.returns
returns c =
    let law = c.no_fault_is_accepted.ensures in
    record {
      refused = refused_is;
      absent = λ file m. absent_is law OfPlan plan_ends (m file);
      no_project = λ file m. no_project_is law OfPlan plan_ends (m file);
      no_chain = λ file m. no_chain_is law OfPlan plan_ends (m file);
      done = λ file m. plan_done_is law (m file);
      build_absent = λ file out workers m. absent_is law (OfBuild out workers) (build_ends out workers) (m file);
      build_no_project = λ file out workers m. no_project_is law (OfBuild out workers) (build_ends out workers) (m file);
      build_no_chain = λ file out workers m. no_chain_is law (OfBuild out workers) (build_ends out workers) (m file);
      step_failed = λ file out workers m. step_failed_is law out workers (m file);
      built = λ file out workers m. built_is law out workers (m file);
    }
