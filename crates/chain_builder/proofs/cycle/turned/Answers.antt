use Rattle.std.proofs.Common.{ℕ, ◌<◌, ◌≤◌, ◌++◌, List, length, get_or, take, drop, arith, ap, ◌∙◌, subst}
use Rattle.std.proofs.lemmas.List.{take_all, take_rest, length-reverse, length-drop}
use Rattle.chain_builder.proofs.CycleLemmas.{is_turned}
use Rattle.chain_builder.proofs.cycle.turned.Goals as goal

pub returns : goal.returns
returns c = is_turned c.args.walk.now c.args.back c.loop-k.backwards c.least_place-least.result c.from_vec.result
    (c.loop-k.invariant ∙ take_all _ _ (omega (arith, length-reverse (drop c.args.back c.args.walk.now), length-drop c.args.back c.args.walk.now)))
    (subst (λ (xs : List ℕ). c.least_place-least.result < length xs) c.as_slice.ensures c.least_place-least.ensures.within)
    (subst (λ (xs : List ℕ). (k : ℕ) → k < length xs → get_or xs c.least_place-least.result 0 ≤ get_or xs k 0) c.as_slice.ensures c.least_place-least.ensures.least)
    (c.from_vec.ensures ∙ (c.in_ok-extend_from_slice.ensures.items ∙ (ap (λ (xs : List ℕ). xs ++ take c.least_place-least.result c.as_slice-3.result.now) (c.in_ok-cycle.ensures.items ∙ (take_rest c.as_slice-2.result.now c.least_place-least.result ∙ ap (drop c.least_place-least.result) c.as_slice-2.ensures)) ∙ ap (λ (xs : List ℕ). drop c.least_place-least.result c.loop-k.backwards ++ take c.least_place-least.result xs) c.as_slice-3.ensures)))
