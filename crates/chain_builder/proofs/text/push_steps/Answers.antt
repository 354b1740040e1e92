use Rattle.std.proofs.Common.{◌<◌, ◌++◌, length, get_or, take, arith, ◌∙◌, ap, sym}
use Rattle.std.specs.Prelude.{codes, string_bytes}
use Rattle.std.proofs.lemmas.List.Elements.{Contains-get_or}
use Rattle.chain_builder.specs.FaultText.{step_names, step_name}
use Rattle.chain_builder.proofs.TextLemmas.{after, names_more, names_first}
use Rattle.chain_builder.proofs.text.push_steps.Goals as goal
use Rattle.chain_builder.proofs.text.push_steps.Goals.{then-k-gt0+in_ok-push_str, else-k-gt0}

pub push_step-requires : goal.push_step-requires
push_step-requires c = c.requires _ (Contains-get_or c.args.list.now c.loop-k.k 0 (omega arith))

pub loop-k-preserved : goal.loop-k-preserved
loop-k-preserved c =
    let within : c.loop-k.k < length c.args.list.now = omega arith in
    let done = step_names c.args.steps.now (take c.loop-k.k c.args.list.now) in
    let name = step_name c.args.steps.now (get_or c.args.list.now c.loop-k.k 0) in
    let out = string_bytes c.args.out.now in
    let now = string_bytes c.loop-k.out in
    elim c.if-k-gt0.branch [
      | then-k-gt0+in_ok-push_str w ↦ after out now (string_bytes c.push_step.new.out) done (codes ", " ++ name) c.loop-k.invariant (after now (string_bytes c.if-k-gt0.out) (string_bytes c.push_step.new.out) (codes ", ") name (ap string_bytes w.out-is ∙ w.in_ok-push_str.ensures.bytes) c.in_ok-push_step.ensures) ∙ ap (λ t. out ++ t) (sym (names_more c.args.steps.now c.args.list.now c.loop-k.k within (omega arith)))
      | else-k-gt0 w ↦ after out now (string_bytes c.push_step.new.out) done name c.loop-k.invariant (c.in_ok-push_step.ensures ∙ ap (λ t. t ++ name) (ap string_bytes w.out-is)) ∙ ap (λ t. out ++ t) (sym (names_first c.args.steps.now c.args.list.now c.loop-k.k within (omega arith)))
    ]
