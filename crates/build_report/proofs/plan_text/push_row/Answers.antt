use Rattle.std.proofs.Common.{◌∙◌, ◌++◌, ap, get_or, string_bytes}
use Rattle.build_report.specs.PlanText.{after_text}
use Rattle.build_report.proofs.PlanRows.{row_appended}
use Rattle.build_report.proofs.plan_text.push_row.Goals as goal

pub returns : goal.returns
returns c =
    let plan = c.args.plan.now in
    let d = c.index-as_slice-step.result in
    row_appended plan.steps plan.finals c.args.step d c.edges_into.result.now _ _ _ _ c.requires
    (c.index-as_slice-step.is ∙ ap (λ steps. get_or steps c.args.step d) (c.as_slice.ensures ∙ c.steps.ensures))
    c.edges_into.ensures.edges c.edges_into.ensures.ascending c.in_ok-push_step.ensures
    (c.in_ok-push_after.ensures ∙ ap (λ list. string_bytes c.push_step.new.out ++ after_text list) c.as_slice-2.ensures) c.in_ok-push_str.ensures.bytes
