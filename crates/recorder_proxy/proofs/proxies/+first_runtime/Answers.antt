use Rattle.std.proofs.Common.{sym, ◌∙◌, ap}
use Rattle.std.specs.List.{find}
use Rattle.recorder_proxy.specs.Proxies.{proxies, is_runtime, first_runtime}
use Rattle.recorder_proxy.proofs.Depth_first.{proxies_of_parts, first_runtime_here, first_runtime_later}
use Rattle.recorder_proxy.proofs.proxies.+first_runtime.Goals as goal

pub first_runtime-returns-in-Some : goal.first_runtime-returns-in-Some
first_runtime-returns-in-Some t c =
    let of = ap (λ v. find (λ p. is_runtime p.phase) (proxies v)) (sym c.value-item.is) ∙ (sym c.first_runtime_in.ensures ∙ c.in-Some.is) in
    sym (first_runtime_here c.args.values.now c.loop-value.value-index c.value-item.result c.in-Some.proxy c.loop-value-test.true of) ∙ c.loop-value.invariant

pub first_runtime-loop-value-preserved : goal.first_runtime-loop-value-preserved
first_runtime-loop-value-preserved t c =
    let of = ap (λ v. find (λ p. is_runtime p.phase) (proxies v)) (sym c.value-item.is) ∙ (sym c.first_runtime_in.ensures ∙ c.in_default.is) in
    first_runtime_later c.args.values.now c.loop-value.value-index c.value-item.result c.loop-value-test.true of ∙ c.loop-value.invariant

pub first_runtime_in-returns-in-List : goal.first_runtime_in-returns-in-List
first_runtime_in-returns-in-List t c =
    let e = proxies_of_parts c.args.value.now c.in-List.parts c.in-List.is in
    c.first_runtime.ensures ∙ (ap first_runtime c.as_slice.ensures ∙ ap (find (λ p. is_runtime p.phase)) (sym e))
