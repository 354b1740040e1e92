use Rattle.std.proofs.Common.{◌≡◌, get_or, arith, sym, ◌∙◌, true, false, refl}
use Rattle.std.proofs.lemmas.List.Elements.{Contains-get_or}
use Rattle.std.proofs.lemmas.Option.{slice_get-get_or}
use Rattle.item_types.specs.declared.step.Consume.{Consume}
use Rattle.chain_builder.proofs.FaultLemmas.{lack_before_more, lack_read}
use Rattle.chain_builder.proofs.faults.first_lacking.Goals as goal
use Rattle.chain_builder.proofs.faults.first_lacking.Goals.{then-not-c+else-lacking-c, else-not-c}

default : Consume
default = record { item = 0; optional = false }

pub bounds-lacking-c : goal.bounds-lacking-c
unfolding default
bounds-lacking-c c = c.requires _ (Contains-get_or c.args.consumes.now c.loop-c.c-index default (omega arith))

pub returns-then-lacking-c-clause-found : goal.returns-then-lacking-c-clause-found
unfolding default
returns-then-lacking-c-clause-found c = (c.loop-c.c-index, ((get_or c.args.consumes.now c.loop-c.c-index default, slice_get-get_or c.args.consumes.now c.loop-c.c-index default (omega arith), refl, c.if-not-c.true), c.if-lacking-c.true), c.loop-c.invariant)

pub loop-c-preserved : goal.loop-c-preserved
unfolding default
loop-c-preserved c = lack_before_more c.args.consumes.now c.args.lacking.now c.loop-c.c-index c.loop-c.invariant (λ t h.
    let f = lack_read c.args.consumes.now c.args.lacking.now c.loop-c.c-index t default (omega arith) h in
    elim c.if-not-c.branch [
      | then-not-c+else-lacking-c w ↦ absurd (let z : true ≡ false = sym f.1 ∙ w.if-lacking-c.false in cc)
      | else-not-c w ↦ absurd (let z : true ≡ false = sym w.if-not-c.false ∙ f.0 in cc)
    ])

pub returns-clause-none : goal.returns-clause-none
returns-clause-none c k t h = c.loop-c.invariant k t (omega arith)
