use Rattle.std.proofs.Common.{rules, ◌≡◌, ◌∙◌, ap, sym, map}
use Rattle.std.specs.List.{filter}
use Rattle.std.proofs.lemmas.Fn.{filter_same}
use Rattle.build_history.specs.Jobs.{is_effective}
use Rattle.build_history.specs.Scripts.{kept}
use Rattle.build_state.specs.Twins.{Put, value_of}
use Rattle.build_state.proofs.Twins.{seen_back, values_back}
use Rattle.build_state.proofs.puts.Puts.kept.Goals as goal

pub invariant_of-result : goal.invariant_of-result
invariant_of-result c =
    let stay : c.retain.new.self.items ≡ filter (λ (p : Put). is_effective c.args.job.now.plan.steps c.args.step p.0) c.into_vec-puts.result.items
    = filter_same _ (λ (p : Put). is_effective c.args.job.now.plan.steps c.args.step p.0) _ (λ x b f' k. search rules) _ _ c.retain.ensures.filtered in
    let all : c.retain.new.self.items ≡ kept c.args.job.now c.args.step c.args.puts = stay ∙ ap (kept c.args.job.now c.args.step) c.into_vec-puts.ensures in
    values_back c.into_vec-again.result.items c.reverse-2.new.self.items c.retain.new.self.items c.reverse.new.self.items
    (c.into_vec-again.ensures ∙ c.requires ∙ sym (ap (map value_of) all)) c.reverse-2.ensures.items c.reverse.ensures.items

pub returns : goal.returns
returns c =
    let stay : c.retain.new.self.items ≡ filter (λ (p : Put). is_effective c.args.job.now.plan.steps c.args.step p.0) c.into_vec-puts.result.items
    = filter_same _ (λ (p : Put). is_effective c.args.job.now.plan.steps c.args.step p.0) _ (λ x b f' k. search rules) _ _ c.retain.ensures.filtered in
    seen_back c.retain.new.self.items c.reverse.new.self.items c.reverse.ensures.items ∙ stay ∙ ap (kept c.args.job.now c.args.step) c.into_vec-puts.ensures
