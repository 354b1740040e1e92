use Rattle.std.proofs.Common.{refl, subst}
use Rattle.command_words.specs.declared.command.Command.TheVariants.{Build}
use Rattle.ext_parser.specs.ProjectOfTheBytes.{project}
use Rattle.quarkus_cli.specs.Builds.{OfBuild}
use Rattle.quarkus_cli.specs.Outcomes.{CommandOutcome, OfRead, OfChain}
use Rattle.quarkus_cli.proofs.Ends.{told_absent, stopped_read, read_memory, read_delivered}
use Rattle.quarkus_cli.proofs.Projects.{build_ends, project_allows}
use Rattle.quarkus_cli.proofs.build.build_one.Goals as goal

pub returns-in-Err : goal.returns-in-Err
returns-in-Err g c =
    let command = Build c.args.file.now c.args.out.now 1 in
    record {
      answers = stopped_read _ _ c.args.file.now _ _ _ c.in-Err.status refl
          (told_absent (CommandOutcome command) c.args.file.now _ (λ m none. rw none refl)) c.in-Err.ensures.err;
    }

pub returns-in-Ok-one_outcome : goal.returns-in-Ok-one_outcome
returns-in-Ok-one_outcome g c =
    let o = c.in-Ok-one_outcome.outcome in
    let Then = OfBuild c.args.out.now 1 in
    record {
      answers = read_delivered _ _ c.args.file.now c.in-Ok.bytes _ o _ _ _ _ _ c.deliver.result c.in-Ok.ensures.ok
          (project_allows Then (build_ends c.args.out.now 1) c.args.file.now c.in-Ok.bytes 1048577 _ o c.project_of_cut_bytes.ensures
          (subst (λ bytes. OfRead (OfChain Then) (project bytes) o) c.as_slice.ensures c.in-Ok-one_outcome.ensures) c.in-Ok.ensures.ok.bytes)
          c.deliver.ensures;
    }

pub returns : goal.returns
returns g c =
    record {
      answers = read_memory _ _ c.args.file.now c.in-Ok.bytes _ _ _ _ c.in-Ok.ensures.ok refl;
    }
