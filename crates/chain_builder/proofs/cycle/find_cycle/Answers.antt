use Rattle.std.proofs.Common.{◌≡◌, ℕ, ◌<◌, List, length, get_or, subst}
use Rattle.chain_builder.proofs.RankLemmas.{has_rank}
use Rattle.chain_builder.proofs.CycleLemmas.{is_cycle, no_cycle}
use Rattle.chain_builder.specs.Turn.{IsTurned}
use Rattle.chain_builder.proofs.cycle.find_cycle.Goals as goal

pub returns-in_ok-cycle-in-Some-clause-found : goal.returns-in_ok-cycle-in-Some-clause-found
returns-in_ok-cycle-in-Some-clause-found c =
    is_cycle c.args.steps.now c.args.finals.now c.args.into.now c.args.removed.now c.in-Some.start c.in_ok-walk-in-Some.walk.items c.in_ok-walk-in-Some.step c.place_of-back.result c.in_ok-cycle-in-Some.cycle (record { edges = c.requires.edges; below = c.requires.below; outside = c.requires.outside; left = c.requires.left }) c.in-Some.ensures.found.0 c.in-Some.ensures.found.1 c.in-Some.ensures.found.2 c.in_ok-walk-in-Some.ensures
    (subst (λ (xs : List ℕ). c.place_of-back.result < length xs) c.items.ensures c.place_of-back.ensures.within)
    (subst (λ (xs : List ℕ). get_or xs c.place_of-back.result 0 ≡ c.in_ok-walk-in-Some.step) c.items.ensures c.place_of-back.ensures.place)
    (subst (λ (xs : List ℕ). IsTurned xs c.place_of-back.result c.in_ok-cycle-in-Some.cycle) c.items-in-Some.ensures c.in_ok-cycle-in-Some.ensures)

pub returns-in-None-clause-none : goal.returns-in-None-clause-none
returns-in-None-clause-none c = no_cycle c.args.steps.now c.args.finals.now c.args.into.now c.args.removed.now (record { edges = c.requires.edges; below = c.requires.below; outside = c.requires.outside; left = c.requires.left }) c.in-None.ensures.none

pub returns-in-None-clause-ranked : goal.returns-in-None-clause-ranked
returns-in-None-clause-ranked c = has_rank c.args.steps.now c.args.finals.now c.args.into.now c.args.removed.now.items c.requires.edges c.requires.order c.in-None.ensures.none
