use Rattle.std.proofs.Common.{◌≡◌, ℕ, List, length, arith, subst, sym, ap, ◌∙◌, Contains}
use Rattle.chain_builder.specs.Rows.{row}
use Rattle.std.proofs.Common.{◌↔◌}
use Rattle.chain_builder.specs.EffectiveProducer.{IsStrongProducer}
use Rattle.chain_builder.specs.Marks.{Numbers}
use Rattle.chain_builder.proofs.RowLemmas.{row_read}
use Rattle.chain_builder.proofs.NeededLemmas.{search_starts, search_more, search_all}
use Rattle.chain_builder.proofs.needed.needed_steps.Goals as goal

pub add_all-requires : goal.add_all-requires
add_all-requires c x h = let e : c.in_ok-wanted.wanted.limit ≡ length c.args.producers.now = ap (λ (n : Numbers). n.limit) c.in_ok-wanted.ensures in omega (arith, c.requires.finals x h)

pub loop-at-init : goal.loop-at-init
loop-at-init c = record {
  found_limit = ap (λ (n : Numbers). n.limit) c.in_ok-found.ensures;
  wanted_limit = c.in_ok-add_all.ensures.grows.limit ∙ ap (λ (n : Numbers). n.limit) c.in_ok-wanted.ensures;
  search = search_starts c.args.steps.now c.args.finals.now c.in_ok-found.found c.in_ok-wanted.wanted c.add_all.new.marks (ap (λ (n : Numbers). n.items) c.in_ok-found.ensures) (ap (λ (n : Numbers). n.items) c.in_ok-wanted.ensures) c.in_ok-add_all.ensures;
}

pub visit_all-requires-clause-steps : goal.visit_all-requires-clause-steps
visit_all-requires-clause-steps c s h =
    let is : row c.args.producers.now c.get-t.result ≡ c.as_slice.result.now = row_read c.args.producers.now c.get-t.result c.index-producers-t.result (omega arith) c.index-producers-t.is ∙ sym c.as_slice.ensures in
    omega (arith, c.requires.steps c.get-t.result s (subst (λ (xs : List ℕ). Contains xs s) (sym is) h))

pub visit_all-requires-clause-items : goal.visit_all-requires-clause-items
visit_all-requires-clause-items c a b h = omega (arith, c.requires.items a b h)

pub loop-at-preserved : goal.loop-at-preserved
loop-at-preserved c = record {
  found_limit = omega (arith, c.in_ok-visit_all.ensures.finds.grows.limit);
  wanted_limit = omega (arith, c.in_ok-visit_all.ensures.grows.limit);
  search = search_more c.args.steps.now c.args.finals.now c.args.consumed.now c.as_slice.result.now c.loop-at.found c.loop-at.wanted c.visit_all.new.found c.visit_all.new.wanted c.loop-at.at c.get-t.result c.requires.consumed (λ s. subst (λ (xs : List ℕ). Contains xs s ↔ IsStrongProducer c.args.steps.now s c.get-t.result) (row_read c.args.producers.now c.get-t.result c.index-producers-t.result (omega arith) c.index-producers-t.is ∙ sym c.as_slice.ensures) (c.requires.producers c.get-t.result s)) (omega arith) c.get-t.ensures.value c.in_ok-visit_all.ensures c.loop-at.invariant.search;
}

pub returns-clause-needed : goal.returns-clause-needed
returns-clause-needed c = search_all c.args.steps.now c.args.finals.now c.loop-at.found c.loop-at.wanted c.loop-at.at (omega arith) c.loop-at.invariant.search
