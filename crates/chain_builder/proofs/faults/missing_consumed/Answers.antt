use Rattle.std.proofs.Common.{◌≡◌, List, arith, subst, sym, ap, ◌∙◌, Contains, true, false}
use Rattle.item_types.specs.declared.step.Consume.{Consume}
use Rattle.item_types.specs.declared.step.StepDecl.{StepDecl}
use Rattle.chain_builder.specs.Consumption.{consumptions}
use Rattle.chain_builder.proofs.ListLemmas.{list_at_read}
use Rattle.chain_builder.proofs.FaultLemmas.{is_missing_consumed, want_before_more, no_want_here}
use Rattle.chain_builder.proofs.faults.missing_consumed.Goals as goal
use Rattle.chain_builder.proofs.faults.missing_consumed.Goals.{then-contains+in-None, else-contains}

pub first_lacking-requires : goal.first_lacking-requires
first_lacking-requires c x h =
    let is : consumptions c.args.steps.now c.loop-s.s ≡ c.as_slice.result.now = (list_at_read (λ d. d.consumes) c.args.steps.now c.loop-s.s c.index-steps-s.result (omega arith) c.index-steps-s.is ∙ ap (λ (d : StepDecl). d.consumes) c.index-steps-s.is) ∙ sym c.as_slice.ensures in
    c.requires.below c.loop-s.s x (subst (λ (xs : List Consume). Contains xs x) (sym is) h)

pub returns-in-Some-clause-found : goal.returns-in-Some-clause-found
returns-in-Some-clause-found c =
    is_missing_consumed c.args.steps.now c.args.items.now c.args.finals.now c.args.lacking.now c.loop-s.s c.in-Some.item c.as_slice.result.now ((list_at_read (λ d. d.consumes) c.args.steps.now c.loop-s.s c.index-steps-s.result (omega arith) c.index-steps-s.is ∙ ap (λ (d : StepDecl). d.consumes) c.index-steps-s.is) ∙ sym c.as_slice.ensures) c.requires.lacking c.requires.finals_found ((c.requires.needed c.loop-s.s).0 (c.contains.ensures.0 c.if-contains.true)) c.loop-s.invariant c.in-Some.ensures.found

pub loop-s-preserved : goal.loop-s-preserved
loop-s-preserved c = want_before_more c.args.steps.now c.args.items.now c.args.finals.now c.loop-s.s c.loop-s.invariant (elim c.if-contains.branch [
  | then-contains+in-None w ↦ no_want_here c.args.steps.now c.args.items.now c.args.finals.now c.args.lacking.now c.loop-s.s w.as_slice.result.now ((list_at_read (λ d. d.consumes) c.args.steps.now c.loop-s.s w.index-steps-s.result (omega arith) w.index-steps-s.is ∙ ap (λ (d : StepDecl). d.consumes) w.index-steps-s.is) ∙ sym w.as_slice.ensures) c.requires.lacking w.in-None.ensures.none
  | else-contains w ↦ (λ k t n l. absurd (let z : true ≡ false = sym (c.contains.ensures.1 ((c.requires.needed c.loop-s.s).1 n.0)) ∙ w.if-contains.false in cc))
])

pub returns-clause-none : goal.returns-clause-none
returns-clause-none c s k t h w = c.loop-s.invariant s k t (omega arith) w
