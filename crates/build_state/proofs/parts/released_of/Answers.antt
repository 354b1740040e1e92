use Rattle.std.proofs.Common.{◌≡◌, ◌↔◌, ◌∙◌, ℕ, ◌<◌, length, subst, arith}
use Rattle.step_set.specs.Members.{Has}
use Rattle.build_state.specs.declared.mark.Mark.TheVariants.{Released}
use Rattle.build_state.specs.Marks.{slot_at}
use Rattle.build_state.proofs.Opening.{noted_more}
use Rattle.build_state.proofs.parts.released_of.Goals as goal

pub loop-step-init : goal.loop-step-init
loop-step-init c = record {
  room = c.in_ok-set.ensures.room;
  exact = λ i. (λ m. absurd (c.in_ok-set.ensures.none i m), λ w. absurd (let l : i < 0 = w.0 in omega (arith, l)));
}

pub loop-step-preserved : goal.loop-step-preserved
loop-step-preserved c = record {
  room = c.note.ensures.room ∙ c.loop-step.invariant.room;
  exact = noted_more c.args.slots.now c.loop-step.step c.index-slots-step.result c.loop-step.set c.note.new.set c.loop-step-test.true c.loop-step.invariant.exact c.note.ensures.noted;
}

pub returns-clause-exact : goal.returns-clause-exact
returns-clause-exact c =
    let e : c.loop-step.step ≡ length c.args.slots.now = omega (arith, c.loop-step-test.false, c.loop-step.auto.step-end) in
    subst (λ (n : ℕ). (i : ℕ) → Has c.loop-step.set i ↔ ((i < n) × ((slot_at c.args.slots.now i).mark ≡ Released))) e c.loop-step.invariant.exact
