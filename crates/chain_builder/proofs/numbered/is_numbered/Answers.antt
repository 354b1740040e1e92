use Rattle.std.proofs.Common.{◌≡◌, ℕ, List, Contains, arith, subst, sym, ◌∙◌, true, false}
use Rattle.item_types.specs.declared.step.StepDecl.{StepDecl}
use Rattle.chain_builder.proofs.numbered.is_numbered.Goals as goal

pub returns-then-not-are_below : goal.returns-then-not-are_below
returns-then-not-are_below c = (
  λ e. absurd (let z : false ≡ true = e in cc),
  λ n. absurd (let z : true ≡ false = sym (c.are_below.ensures.1 (λ t h. omega (arith, c.len-2.ensures, n.wanted t (subst (λ (xs : List ℕ). Contains xs t) c.as_slice.ensures h)))) ∙ c.if-not-are_below.true in cc),
)

pub returns : goal.returns
returns c = (
  λ e.
      let declared = c.are_declared.ensures.0 e in
      record {
        few_steps = omega (arith, c.len.ensures, c.is_few.ensures.0 c.if-not-is_few.false);
        few_items = omega (arith, c.len-else-not-is_few.ensures, c.is_few-else-not-is_few.ensures.0 c.if-not-is_few-2.false);
        consumed = λ d x h i. omega (arith, c.len-3.ensures, (declared d (subst (λ (xs : List StepDecl). Contains xs d) (sym c.as_slice-2.ensures) h)).consumed x i);
        produced = λ d x h i. omega (arith, c.len-3.ensures, (declared d (subst (λ (xs : List StepDecl). Contains xs d) (sym c.as_slice-2.ensures) h)).produced x i);
        wanted = λ t h. omega (arith, c.len-2.ensures, c.are_below.ensures.0 c.if-not-are_below.false t (subst (λ (xs : List ℕ). Contains xs t) (sym c.as_slice.ensures) h));
      },
  λ n. c.are_declared.ensures.1 (λ d h.
      let there = subst (λ (xs : List StepDecl). Contains xs d) c.as_slice-2.ensures h in
      record {
        consumed = λ x i. omega (arith, c.len-3.ensures, n.consumed d x there i);
        produced = λ x i. omega (arith, c.len-3.ensures, n.produced d x there i);
      }),
)
